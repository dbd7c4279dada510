use Rattle.std.proofs.Common.{◌≡◌, ◌+◌, List, map, drop, IsSome, ap, sym, subst, ◌∙◌}
use Rattle.map_model.specs.Maps.{at, set, IsSorted}
use Rattle.map_model.specs.MapLaws.{sorted-set}
use Rattle.map_model.specs.Changes.{changed, last_at}
use Rattle.ejson_value.specs.declared.key.Key.{Key}
use Rattle.ejson_value.specs.declared.change.Change.{Change}
use Rattle.ejson_value.specs.Key.{key_cmp, key_order}
use Rattle.ejson_value.specs.Changes.{changes_of}
use Rattle.ejson_value.specs.ChangeLaws.{HaveDistinctKeys}
use Rattle.ejson_value.specs.Rows.{Rows}
use Rattle.ejson_value.proofs.PutAll.{next_change, first_place, places_left, apart_left, first_copy, no_copy}
use Rattle.ejson_value.proofs.contents.Contents.settle_each.Goals.{in-Some, in_default}
use Rattle.ejson_value.proofs.contents.Contents.settle_each.Goals as goal

pub settle-requires : goal.settle-requires
settle-requires c = λ doc is.
    let rows = c.loop-change.self in
    let items = c.args.changes.now in
    let i = c.loop-change.change-index in
    let change = c.change-item.result in
    first_place rows change (drop (i + 1) items)
    (subst (λ (cs : List Change). (k : Key) → IsSome (last_at key_cmp k (changes_of cs)) → IsSome (at key_cmp rows k))
    (next_change items i change c.change-item.is c.loop-change-test.true) c.loop-change.invariant.places)

pub loop-change-preserved : goal.loop-change-preserved
loop-change-preserved c =
    let rows = c.loop-change.self in
    let items = c.args.changes.now in
    let i = c.loop-change.change-index in
    let change = c.change-item.result in
    let rest = drop (i + 1) items in
    let split = next_change items i change c.change-item.is c.loop-change-test.true in
    let now = c.loop-change.invariant in
    let copies = now.copies ∙ ap (λ (cs : List Change). map (λ (c : Change). c.after) cs) split in
    let apart = subst HaveDistinctKeys split now.apart in
    let made : c.match-pop_front.self ≡ set key_cmp rows change.key change.after = elim c.match-pop_front.branch [
      | in-Some w ↦ w.self-is ∙ (w.settle.ensures
          ∙ ap (λ after. set key_cmp rows change.key after)
          (first_copy change rest c.loop-change.copies.items c.pop_front.new.self.items w.in-Some.after copies w.in-Some.ensures.items))
      | in_default w ↦ no_copy change rest c.loop-change.copies.items c.pop_front.new.self.items copies c.pop_front.ensures.rest w.in_default.ensures.items
    ] in record {
      sorted = subst (IsSorted key_cmp) (sym made) (sorted-set key_order rows change.key change.after now.sorted);
      apart = apart_left change rest apart;
      places = subst (λ (rs : Rows). (k : Key) → IsSome (last_at key_cmp k (changes_of rest)) → IsSome (at key_cmp rs k)) (sym made)
          (places_left rows change rest change.after now.sorted apart
          (subst (λ (cs : List Change). (k : Key) → IsSome (last_at key_cmp k (changes_of cs)) → IsSome (at key_cmp rows k)) split now.places));
      copies = c.pop_front.ensures.rest ∙ ap (drop 1) copies;
      left = ap (λ (rs : Rows). changed key_cmp rs (changes_of rest)) made ∙ (ap (λ (cs : List Change). changed key_cmp rows (changes_of cs)) (sym split) ∙ now.left);
    }
