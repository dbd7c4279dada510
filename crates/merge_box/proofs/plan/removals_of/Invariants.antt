use Rattle.std.proofs.Common.{◌≡◌, ◌++◌, None, List, map}
use Rattle.ejson_value.specs.declared.key.Key.{Key}
use Rattle.ejson_value.specs.Changes.{news_of}
use Rattle.merge_box.proofs.plan.removals_of.Given as goal

abbrev pub invariant-loop-key : goal.invariant-loop-key
invariant-loop-key l = record {
  can_next : goal.iterator-loop-key.can_next l.key-iterator;
  is_finite : goal.iterator-loop-key.is_finite l.key-iterator;
  done : List Key;
  whole : l.initial.key-iterator ≡ done ++ l.key-iterator;
  made : news_of l.news ≡ map (λ k. (k, None)) done;
}
