use Rattle.std.proofs.Common.{[], Ok, Err, IfOk}
use Rattle.std.specs.declared.result.Result.{Result}
use Rattle.map_model.specs.Maps.{IsSorted}
use Rattle.map_model.specs.MapLaws.{sorted-nil}
use Rattle.value_model.specs.Order.{text_cmp}
use Rattle.live_observer.specs.Noting.{all_noted}
use Rattle.live_observer.proofs.Nets.{sorted_all_noted}
use Rattle.live_observer.proofs.plain.told_plain.Goals as goal

whatever : {T E : Type 0} (r : Result T E) (P : Type 0) → P → IfOk r (λ _. P)
whatever (Ok x) P p = p
whatever (Err e) P p = tt

pub returns-in-len1-clause-ordered : goal.returns-in-len1-clause-ordered
returns-in-len1-clause-ordered g c =
    let cursor = c.args.cursor.now in
    let changes = c.args.changes.now in
    whatever c.told_once.result (IsSorted text_cmp (all_noted cursor [] changes))
    (sorted_all_noted cursor [] changes (sorted-nil text_cmp))
