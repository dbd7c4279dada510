use Rattle.std.proofs.Common.{subst, sym, ap, ◌∙◌}
use Rattle.std.specs.Map.{keys_of}
use Rattle.map_model.specs.Orders.{IsAbove}
use Rattle.value_model.specs.Order.{text_cmp}
use Rattle.value_model.specs.Valid.{IsDocument}
use Rattle.value_model.specs.Doc.{put}
use Rattle.ejson_value.specs.View.{view, pairs, entries}
use Rattle.ejson_value.proofs.Places.{IsDocument-put}
use Rattle.ejson_value.proofs.Puts.{behind_is_put}
use Rattle.ejson_value.proofs.row.Row.push.Goals as goal

pub invariant_of-self-2 : goal.invariant_of-self-2
invariant_of-self-2 c =
    let above = subst (λ es. IsAbove text_cmp c.args.member.name (keys_of es)) (sym (c.self.view_is ∙ c.make_room.ensures)) c.requires in
    let same = ap (λ ms. entries (pairs ms)) c.in_ok-push.ensures.items ∙ behind_is_put c.self.inside.members.items c.args.member above in
    subst IsDocument (sym same) (IsDocument-put _ c.args.member.name (view c.args.member.value) c.self.invariant c.known.ensures)

pub returns-clause-ok : goal.returns-clause-ok
returns-clause-ok c =
    let above = subst (λ es. IsAbove text_cmp c.args.member.name (keys_of es)) (sym (c.self.view_is ∙ c.make_room.ensures)) c.requires in
    ap (λ ms. entries (pairs ms)) c.in_ok-push.ensures.items
    ∙ (behind_is_put c.self.inside.members.items c.args.member above
    ∙ ap (λ es. put es c.args.member.name (view c.args.member.value)) (c.self.view_is ∙ c.make_room.ensures))
