use Rattle.std.proofs.Common.{subst, sym, ap, ◌∙◌}
use Rattle.value_model.specs.Valid.{IsDocument}
use Rattle.ejson_value.specs.View.{pairs, entries}
use Rattle.ejson_value.proofs.Places.{got, gap_get, gap_remove, remove_is_remove, IsDocument-remove}
use Rattle.ejson_value.proofs.row.Row.remove.Goals as goal

pub invariant_of-self : goal.invariant_of-self
invariant_of-self c =
    let is = rw (← c.self.view_is) at c.in-Ok.ensures.found in
    let same = ap (λ ms. entries (pairs ms)) c.remove-name.ensures.items ∙ remove_is_remove c.args.name.now c.self.inside.members.items c.in-Ok.place c.self.invariant.names is in
    subst IsDocument (sym same) (IsDocument-remove _ c.args.name.now c.self.invariant)

pub returns-in-Ok-clause-value : goal.returns-in-Ok-clause-value
returns-in-Ok-clause-value c =
    let is = rw (← c.self.view_is) at c.in-Ok.ensures.found in
    rw (← c.self.view_is) (sym (got c.args.name.now c.self.inside.members.items c.in-Ok.place c.remove-name.result c.self.invariant.names is c.remove-name.ensures.value))

pub returns-in-Ok-clause-removed : goal.returns-in-Ok-clause-removed
returns-in-Ok-clause-removed c =
    let is = rw (← c.self.view_is) at c.in-Ok.ensures.found in
    rw (← c.self.view_is) (ap (λ ms. entries (pairs ms)) c.remove-name.ensures.items ∙ remove_is_remove c.args.name.now c.self.inside.members.items c.in-Ok.place c.self.invariant.names is)

pub returns-in-Err-clause-value : goal.returns-in-Err-clause-value
returns-in-Err-clause-value c = sym (gap_get c.args.name.now c.args.self.now c.in-Err.field-0 c.in-Err.ensures.gap)

pub returns-in-Err-clause-removed : goal.returns-in-Err-clause-removed
returns-in-Err-clause-removed c = sym (gap_remove c.args.name.now c.args.self.now c.in-Err.field-0 c.in-Err.ensures.gap)
