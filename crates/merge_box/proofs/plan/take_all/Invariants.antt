use Rattle.std.proofs.Common.{◌≡◌, ℕ, true, Some, vec_len}
use Rattle.map_model.specs.Maps.{at, IsSorted}
use Rattle.merge_model.specs.Kept.{has, kept_at, publishers_at}
use Rattle.ejson_value.specs.declared.key.Key.{Key}
use Rattle.ejson_value.specs.Key.{key_cmp}
use Rattle.kept_document.specs.declared.held.Change.{Change}
use Rattle.kept_document.specs.Held.{IsHeld, SameDoc}
use Rattle.kept_document.specs.Changes.{held_in}
use Rattle.merge_box.specs.Index.{lists_of, is_listed}
use Rattle.merge_box.specs.State.{shared_count}
use Rattle.merge_box.specs.Inside.{changes_of, after_at, AreNamed, IsReady}
use Rattle.merge_box.proofs.plan.take_all.Given as goal

abbrev pub invariant-loop-slot : goal.invariant-loop-slot
invariant-loop-slot l = record {
  same : (k : Key) → SameDoc (after_at (changes_of l.initial.kept.keys l.initial.changes.items) l.initial.kept.docs k) (after_at (changes_of l.kept.keys l.changes.items) l.kept.docs k);
  held : (k : Key) → IsHeld (kept_at key_cmp l.kept.docs k);
  listed : (k : Key) (s : ℕ) → has s (publishers_at key_cmp l.kept.docs k) ≡ true → is_listed (lists_of l.index.entries) s k ≡ true;
  ready : (k : Key) (change : Change) → at key_cmp (changes_of l.kept.keys l.changes.items) k ≡ Some change → IsReady l.kept.docs k change;
  named : AreNamed l.kept.keys l.changes.items;
  by_key : IsSorted key_cmp (changes_of l.kept.keys l.changes.items);
  count : l.count ≡ shared_count l.kept.docs;
  will_list : (k : Key) (change : Change) (s : ℕ) → at key_cmp (changes_of l.kept.keys l.changes.items) k ≡ Some change → has s (held_in change).publishers ≡ true → is_listed (lists_of l.index.entries) s k ≡ true;
}

abbrev pub decreases-loop-slot : goal.decreases-loop-slot
decreases-loop-slot l = vec_len l.changes
