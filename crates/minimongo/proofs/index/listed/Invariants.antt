use Rattle.std.proofs.Common.{◌≡◌, ◌||◌}
use Rattle.ejson_value.specs.declared.key.Key.{Key}
use Rattle.minimongo.specs.Index.{is_key_among, is_listed_by}
use Rattle.minimongo.proofs.index.listed.Given as goal

abbrev pub invariant-loop-number : goal.invariant-loop-number
invariant-loop-number l = record {
  can_next : goal.iterator-loop-number.can_next l.number-iterator;
  is_finite : goal.iterator-loop-number.is_finite l.number-iterator;
  left : (k : Key) → (is_listed_by l.index.entries l.number-iterator k || is_key_among l.all.items k) ≡ is_listed_by l.index.entries l.initial.number-iterator k;
}
