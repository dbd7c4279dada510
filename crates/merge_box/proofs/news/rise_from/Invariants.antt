use Rattle.std.proofs.Common.{◌∷◌, length}
use Rattle.std.specs.Map.{keys_of}
use Rattle.std.specs.List.Sorted.{IsStrictlySortedBy}
use Rattle.ejson_value.specs.Key.{key_cmp}
use Rattle.ejson_value.specs.Changes.{news_of}
use Rattle.merge_box.proofs.news.rise_from.Given as goal

abbrev pub invariant-loop-next : goal.invariant-loop-next
invariant-loop-next l = record {
  whole : IsStrictlySortedBy key_cmp (l.last ∷ keys_of (news_of l.rest)) → IsStrictlySortedBy key_cmp (l.key ∷ keys_of (news_of l.news));
}

abbrev pub decreases-loop-next : goal.decreases-loop-next
decreases-loop-next l = length l.rest
