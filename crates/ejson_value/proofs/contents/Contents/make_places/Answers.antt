use Rattle.std.proofs.Common.{◌≡◌, Some, [], is_none, not, cond, ap, ◌∙◌}
use Rattle.std.specs.BTreeMap.{insert_entry}
use Rattle.map_model.specs.Maps.{set}
use Rattle.map_model.specs.MapLaws.{at-put}
use Rattle.ejson_value.specs.Key.{key_cmp, key_order}
use Rattle.ejson_value.proofs.PutAll.{one_change, either_is, otherwise_is, fewer_new}
use Rattle.ejson_value.proofs.contents.Contents.make_places.Goals.{then-is_none+in_ok-copy+in_ok-put, else-is_none}
use Rattle.ejson_value.proofs.contents.Contents.make_places.Goals as goal

pub loop-change-preserved : goal.loop-change-preserved
loop-change-preserved c =
    let rows = c.loop-change.self in
    let change = c.change-item.result in
    let items = c.as_slice-change-items.result.now in
    let i = c.loop-change.change-index in
    let made : c.if-is_none.self ≡ cond (is_none change.before) (set key_cmp rows change.key (Some [])) rows = elim c.if-is_none.branch [
      | then-is_none+in_ok-copy+in_ok-put w ↦ either_is _ _ _ _ (ap not c.is_none.ensures ∙ ap (λ b. not (not b)) w.if-is_none.true)
          (w.self-is ∙ (w.in_ok-put.ensures.ok ∙ (ap (λ k. insert_entry key_cmp rows k w.new.result) w.in_ok-copy.ensures ∙ ap (insert_entry key_cmp rows change.key) w.new.ensures)))
      | else-is_none w ↦ otherwise_is _ _ _ _ (ap not c.is_none.ensures ∙ ap (λ b. not (not b)) w.if-is_none.false) w.self-is
    ] in record {
      left = λ k. one_change (Some []) items i change rows c.if-is_none.self c.change-item.is c.loop-change-test.true (λ q. at-put key_order rows change.key [] q) made k ∙ c.loop-change.invariant.left k;
      fewer = λ k none. fewer_new items i change k c.change-item.is c.loop-change-test.true (c.loop-change.invariant.fewer k none);
    }
