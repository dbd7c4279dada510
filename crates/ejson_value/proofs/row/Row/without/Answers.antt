use Rattle.std.proofs.Common.{◌≡◌, List, IfOk, subst, sym, ap, ◌∙◌}
use Rattle.std.specs.List.{remove as remove_item}
use Rattle.value_model.specs.Valid.{IsDocument}
use Rattle.ejson_value.specs.declared.row.Member.{Member}
use Rattle.ejson_value.specs.View.{pairs, entries}
use Rattle.ejson_value.proofs.Places.{gap_remove, remove_is_remove, IsDocument-remove}
use Rattle.ejson_value.proofs.row.Row.without.Goals as goal

pub invariant_of-result : goal.invariant_of-result
invariant_of-result c =
    let is = rw (← c.self.view_is) at c.in-Ok.ensures.found in
    let same = c.in_ok-copies_beside-in-Ok.ensures
    ∙ (ap (λ (ms : List Member). entries (pairs (remove_item ms c.in-Ok.place))) c.as_slice.ensures.value
    ∙ remove_is_remove c.args.name.now c.self.inside.members.items c.in-Ok.place c.self.invariant.names is) in
    subst IsDocument (sym same) (IsDocument-remove _ c.args.name.now c.self.invariant)

pub returns-in_ok-copies_beside-in-Ok : goal.returns-in_ok-copies_beside-in-Ok
returns-in_ok-copies_beside-in-Ok c =
    let is = rw (← c.self.view_is) at c.in-Ok.ensures.found in
    rw (← c.self.view_is)
    (c.in_ok-copies_beside-in-Ok.ensures
    ∙ (ap (λ (ms : List Member). entries (pairs (remove_item ms c.in-Ok.place))) c.as_slice.ensures.value
    ∙ remove_is_remove c.args.name.now c.self.inside.members.items c.in-Ok.place c.self.invariant.names is))

pub returns-in-Err : goal.returns-in-Err
returns-in-Err c =
    subst (λ es. IfOk c.copied.result (λ row. row ≡ es)) (sym (gap_remove c.args.name.now c.args.self.now c.in-Err.field-0 c.in-Err.ensures.gap)) c.copied.ensures
