use Rattle.std.proofs.Common.{Some, subst, sym, ap, ◌∙◌}
use Rattle.value_model.specs.Valid.{IsDocument}
use Rattle.value_model.specs.Doc.{put}
use Rattle.ejson_value.specs.View.{view, pairs, entries}
use Rattle.ejson_value.proofs.Places.{got, swap_is_put, IsDocument-put}
use Rattle.ejson_value.proofs.row.Row.swap.Goals as goal

pub invariant_of-self : goal.invariant_of-self
invariant_of-self c =
    let ms = c.self.inside.members.items in
    let is = rw (← c.self.view_is) at c.in-Ok.ensures.found in
    let same = swap_is_put c.args.name.now ms c.in-Ok.place c.index_mut-member.result.now c.replace.new.dest c.self.invariant.names is c.index_mut-member.ensures.value in
    subst IsDocument (sym (same ∙ ap (λ v. put (entries (pairs ms)) c.args.name.now (view v)) c.replace.ensures.after)) (IsDocument-put _ c.args.name.now (view c.args.value) c.self.invariant c.known.ensures)

pub returns-in-Ok-clause-value : goal.returns-in-Ok-clause-value
returns-in-Ok-clause-value c =
    let is = rw (← c.self.view_is) at c.in-Ok.ensures.found in
    rw (← c.self.view_is)
    (ap (λ v. Some (view v)) c.replace.ensures.value ∙ sym (got c.args.name.now c.self.inside.members.items c.in-Ok.place c.index_mut-member.result.now c.self.invariant.names is c.index_mut-member.ensures.value))

pub returns-in-Ok-clause-put : goal.returns-in-Ok-clause-put
returns-in-Ok-clause-put c =
    let ms = c.self.inside.members.items in
    let is = rw (← c.self.view_is) at c.in-Ok.ensures.found in
    let same = swap_is_put c.args.name.now ms c.in-Ok.place c.index_mut-member.result.now c.replace.new.dest c.self.invariant.names is c.index_mut-member.ensures.value in
    rw (← c.self.view_is) (same ∙ ap (λ v. put (entries (pairs ms)) c.args.name.now (view v)) c.replace.ensures.after)
