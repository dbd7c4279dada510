use Rattle.std.proofs.Common.{subst, sym, ap, ◌∙◌}
use Rattle.value_model.specs.Valid.{IsDocument}
use Rattle.value_model.specs.Doc.{put}
use Rattle.ejson_value.specs.View.{view, pairs, entries}
use Rattle.ejson_value.specs.Places.{IsGapFor}
use Rattle.ejson_value.proofs.Places.{insert_is_put, IsDocument-put}
use Rattle.ejson_value.proofs.row.Row.insert_at.Goals as goal

pub invariant_of-self-2 : goal.invariant_of-self-2
invariant_of-self-2 c =
    let gap = subst (λ es. IsGapFor es c.args.member.name c.args.place) (sym (c.self.view_is ∙ c.make_room.ensures)) c.requires in
    let same = ap (λ ms. entries (pairs ms)) c.in_ok-insert.ensures.items ∙ insert_is_put c.self.inside.members.items c.args.place c.args.member gap in
    subst IsDocument (sym same) (IsDocument-put _ c.args.member.name (view c.args.member.value) c.self.invariant c.known.ensures)

pub returns-clause-ok : goal.returns-clause-ok
returns-clause-ok c =
    let gap = subst (λ es. IsGapFor es c.args.member.name c.args.place) (sym (c.self.view_is ∙ c.make_room.ensures)) c.requires in
    ap (λ ms. entries (pairs ms)) c.in_ok-insert.ensures.items
    ∙ (insert_is_put c.self.inside.members.items c.args.place c.args.member gap
    ∙ ap (λ es. put es c.args.member.name (view c.args.member.value)) (c.self.view_is ∙ c.make_room.ensures))
