use Rattle.std.proofs.Common.{◌≡◌, None, is_none, not, cond, ap, ◌∙◌}
use Rattle.map_model.specs.Maps.{set}
use Rattle.map_model.specs.MapLaws.{at-set}
use Rattle.ejson_value.specs.Key.{key_cmp, key_order}
use Rattle.ejson_value.proofs.PutAll.{one_change, either_is, otherwise_is, sorted_either}
use Rattle.ejson_value.proofs.contents.Contents.drop_places.Goals.{then-is_none, else-is_none}
use Rattle.ejson_value.proofs.contents.Contents.drop_places.Goals as goal

pub loop-change-preserved : goal.loop-change-preserved
loop-change-preserved c =
    let rows = c.loop-change.self in
    let change = c.change-item.result in
    let made : c.if-is_none.self ≡ cond (is_none change.before) (set key_cmp rows change.key None) rows = elim c.if-is_none.branch [
      | then-is_none w ↦ either_is _ _ _ _ (ap not c.is_none.ensures ∙ ap (λ b. not (not b)) w.if-is_none.true) (w.self-is ∙ w.remove.ensures.removed)
      | else-is_none w ↦ otherwise_is _ _ _ _ (ap not c.is_none.ensures ∙ ap (λ b. not (not b)) w.if-is_none.false) w.self-is
    ] in record {
      sorted = sorted_either (is_none change.before) rows c.if-is_none.self change.key None made c.loop-change.invariant.sorted;
      left = λ k. one_change None c.as_slice-change-items.result.now c.loop-change.change-index change rows c.if-is_none.self c.change-item.is c.loop-change-test.true
          (λ q. at-set key_order rows change.key None q c.loop-change.invariant.sorted) made k ∙ c.loop-change.invariant.left k;
    }
