use Rattle.std.proofs.Common.{◌≡◌, ℕ, true, None, cond, ap, sym, subst, ◌∙◌}
use Rattle.std.specs.Ordering.{eq_by_cmp, is_eq}
use Rattle.map_model.specs.Maps.{at, IsSorted}
use Rattle.merge_model.specs.Kept.{has}
use Rattle.ejson_value.specs.declared.key.Key.{Key}
use Rattle.ejson_value.specs.Key.{key_cmp}
use Rattle.kept_document.specs.Changes.{held_in}
use Rattle.kept_document.proofs.Places.{same_on}
use Rattle.merge_box.specs.Index.{lists_of, is_listed}
use Rattle.merge_box.specs.Slots.{key_in}
use Rattle.merge_box.specs.Inside.{Changes, changes_of, after_at, AreNamed}
use Rattle.merge_box.proofs.InOrder.{last_above, last_value, last_taken, rest_sorted}
use Rattle.merge_box.proofs.Naming.{changes_more, named_before, changes_stay, named_stay, rest_stays}
use Rattle.merge_box.proofs.Plans.{same_step, held_step, ready_step, will_list_step, kept_listed_step}
use Rattle.merge_box.proofs.plan.take_all.Goals as goal

pub loop-slot-preserved : goal.loop-slot-preserved
loop-slot-preserved c =
    let before = c.loop-slot.invariant in
    let keys = c.loop-slot.kept.keys in
    let now = c.take_counted-count.new.kept.keys in
    let items = c.pop.new.self.items in
    let slot = c.in-Some.field-0.slot in
    let change = c.in-Some.field-0.change in
    let key = key_in keys slot in
    let plan = changes_of keys c.loop-slot.changes.items in
    let below = changes_of keys items in
    let rest = changes_of now items in
    let split = ap (changes_of keys) c.in-Some.ensures.items ∙ changes_more keys items c.in-Some.field-0 in
    let named = named_before keys items c.in-Some.field-0 (subst (AreNamed keys) c.in-Some.ensures.items before.named) in
    let took = c.take_counted-count.ensures.taken in
    let stay = rest_stays keys now key took.names items named.0 (last_above plan below key change split before.by_key) in
    let same = changes_stay keys now items stay in
    let old = c.loop-slot.kept.docs in
    let new = c.take_counted-count.new.kept.docs in
    let value = last_value plan below key change split before.by_key in
    let updates = subst (λ (m : Changes). (k : Key) → at key_cmp m k ≡ cond (is_eq (key_cmp key k)) None (at key_cmp plan k)) (sym same) (last_taken plan below key change split before.by_key) in
    let index = c.loop-slot.index.entries in
    let left = c.unlist_unpublished.new.index.entries in
    let stays = subst (λ q. (k : Key) (s : ℕ) → (eq_by_cmp key_cmp k q ≡ true → has s (held_in change).publishers ≡ true) → is_listed (lists_of index) s k ≡ true → is_listed (lists_of left) s k ≡ true) c.key.ensures c.unlist_unpublished.ensures in
    record {
      same = λ k. same_on (after_at (changes_of c.args.kept.now.keys c.args.changes.items) c.args.kept.now.docs k) (after_at plan old k) (after_at rest new k) (before.same k) (same_step plan rest old new key change value updates took.same took.others k);
      held = held_step plan rest old new key change value updates took.same took.others took.held before.held;
      listed = kept_listed_step plan rest old new key change value updates took.same took.others index left before.will_list stays before.listed;
      ready = ready_step plan rest old new key change value updates took.same took.others before.ready;
      named = named_stay keys now items stay;
      by_key = subst (λ m. IsSorted key_cmp m) (sym same) (rest_sorted plan below key change split before.by_key);
      count = c.take_counted-count.ensures.count;
      will_list = will_list_step plan rest old new key change value updates took.same took.others index left before.will_list stays;
    }

pub key-requires : goal.key-requires
key-requires c =
    (named_before c.loop-slot.kept.keys c.pop.new.self.items c.in-Some.field-0
    (subst (AreNamed c.loop-slot.kept.keys) c.in-Some.ensures.items c.loop-slot.invariant.named)).1

pub take_counted-count-requires-clause-slot : goal.take_counted-count-requires-clause-slot
take_counted-count-requires-clause-slot c =
    (named_before c.loop-slot.kept.keys c.pop.new.self.items c.in-Some.field-0
    (subst (AreNamed c.loop-slot.kept.keys) c.in-Some.ensures.items c.loop-slot.invariant.named)).1

pub take_counted-count-requires-clause-ready : goal.take_counted-count-requires-clause-ready
take_counted-count-requires-clause-ready c =
    let keys = c.loop-slot.kept.keys in
    let items = c.pop.new.self.items in
    let slot = c.in-Some.field-0.slot in
    let change = c.in-Some.field-0.change in
    let split = ap (changes_of keys) c.in-Some.ensures.items ∙ changes_more keys items c.in-Some.field-0 in
    c.loop-slot.invariant.ready (key_in keys slot) change (last_value (changes_of keys c.loop-slot.changes.items) (changes_of keys items) (key_in keys slot) change split c.loop-slot.invariant.by_key)
