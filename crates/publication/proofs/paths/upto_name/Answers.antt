use Rattle.std.specs.Prelude.{map}
use Rattle.std.specs.Borrow.{Bor}
use Rattle.std.specs.List.{AllByRecursion}
use Rattle.std.proofs.Common.{◌≡◌, ◌+◌, ℕ, List, take, drop, false, rules, ap, sym, subst, ◌∙◌, arith}
use Rattle.std.proofs.lemmas.List.Sorted.{IsPartitionPoint-from_clause}
use Rattle.publication.specs.Parts.{paths_in, below, is_before, is_upto, IsRising, AreLonger}
use Rattle.publication.specs.Projected.{APath, rests_below}
use Rattle.publication.proofs.SortedPaths.{upto_down, by_rising, tails, begin_taken, taken, longer, rising-tails, rising-take, below-tails, below_by}
use Rattle.publication.proofs.paths.upto_name.Goals as goal

pub returns : goal.returns
returns c =
    let name = c.args.name.now in
    let level = c.args.level in
    let xs = c.args.paths.now in
    let i = c.partition_point-end.result in
    let now = λ (r : Bor (List (List ℕ))). r.now in
    let at = λ (r : Bor (List (List ℕ))). drop level r.now in
    let all = below_by now level xs in
    let up : IsRising (map at xs) = subst IsRising all c.requires.rising in
    let none : AllByRecursion (λ (q : APath). is_before name q ≡ false) (map at xs) = subst (λ qs. AllByRecursion (λ (q : APath). is_before name q ≡ false) qs) all c.requires.none_before in
    let point = IsPartitionPoint-from_clause (λ r. is_upto name (at r)) xs i c.partition_point-end.ensures.partitioned (by_rising at (is_upto name) (upto_down name) xs up) (λ a r q k. search rules) in
    let front = below_by now level (take i xs) in
    let deeper : below (level + 1) (paths_in (take i xs)) ≡ tails (map at (take i xs)) = below-tails level (paths_in (take i xs)) ∙ ap tails front in
    let begins = begin_taken name at xs i none (λ k d within. point.0 k d (omega arith) within) in
    record {
      rests = deeper ∙ (taken name at xs i none (λ k d within. point.0 k d (omega arith) within) (λ k d from within. point.1 k d from within) ∙ ap (λ qs. rests_below name qs) (sym all));
      longer = subst AreLonger (sym front) (longer name (map at (take i xs)) begins);
      rising = subst IsRising (sym deeper) (rising-tails name (map at (take i xs)) begins (rising-take at xs i up));
    }
