use Rattle.std.proofs.Common.{ap, sym, ◌∙◌}
use Rattle.std.specs.Ordering.{eq_by_cmp}
use Rattle.std.proofs.lemmas.List.Filters.{dedup_is}
use Rattle.std.proofs.lemmas.List.Kept.{IsStrictlySortedBy-dedup}
use Rattle.std.proofs.lemmas.List.Sorted.{list_any-IsPermutation}
use Rattle.ejson_value.specs.contracts.key.KeyOrd.TheImpl.Laws.{matches_eq-law}
use Rattle.ejson_value.specs.Key.{key_cmp, key_order}
use Rattle.minimongo.specs.Index.{is_key_among}
use Rattle.minimongo.proofs.Listing.{among_dedup}
use Rattle.minimongo.proofs.index.put_in_order.Goals as goal

pub returns-clause-rising : goal.returns-clause-rising
returns-clause-rising c = rw (dedup_is _ _ _ c.dedup.ensures.filtered) (IsStrictlySortedBy-dedup key_order.total matches_eq-law _ c.sort_unstable.ensures.sorted)

pub returns-clause-same : goal.returns-clause-same
returns-clause-same c = λ k.
    ap (λ ks. is_key_among ks k) (dedup_is _ _ _ c.dedup.ensures.filtered)
    ∙ among_dedup _ matches_eq-law k _
    ∙ sym (list_any-IsPermutation (eq_by_cmp key_cmp k) _ _ c.sort_unstable.ensures.permutation)
