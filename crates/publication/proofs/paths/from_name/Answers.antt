use Rattle.std.specs.Prelude.{map}
use Rattle.std.specs.Borrow.{Bor}
use Rattle.std.specs.List.{AllByRecursion}
use Rattle.std.proofs.Common.{◌≡◌, ℕ, List, drop, false, rules, ap, sym, subst, ◌∙◌, arith}
use Rattle.std.proofs.lemmas.List.Sorted.{IsPartitionPoint-from_clause}
use Rattle.publication.specs.Parts.{paths_in, below, is_before, IsRising}
use Rattle.publication.specs.Projected.{APath, rests_below}
use Rattle.publication.proofs.SortedPaths.{before_down, by_rising, passed_over, none_left, rising-drop, below_by}
use Rattle.publication.proofs.paths.from_name.Goals as goal

pub returns : goal.returns
returns c =
    let name = c.args.name.now in
    let level = c.args.level in
    let xs = c.args.paths.now in
    let i = c.partition_point-start.result in
    let now = λ (r : Bor (List (List ℕ))). r.now in
    let at = λ (r : Bor (List (List ℕ))). drop level r.now in
    let all = below_by now level xs in
    let up : IsRising (map at xs) = subst IsRising all c.requires in
    let point = IsPartitionPoint-from_clause (λ r. is_before name (at r)) xs i c.partition_point-start.ensures.partitioned (by_rising at (is_before name) (before_down name) xs up) (λ a r q k. search rules) in
    let left : below level (paths_in c.split_at.result.1.now) ≡ map at (drop i xs) = ap (λ ys. below level (paths_in ys)) c.split_at.ensures.back ∙ below_by now level (drop i xs) in
    record {
      same = ap (λ qs. rests_below name qs) left ∙ (passed_over name at xs i (λ k d within. point.0 k d (omega arith) within) ∙ ap (λ qs. rests_below name qs) (sym all));
      none_before = subst (λ qs. AllByRecursion (λ (q : APath). is_before name q ≡ false) qs) (sym left) (none_left name at xs i (λ k d from within. point.1 k d from within));
      rising = subst IsRising (sym left) (rising-drop at xs i up);
    }
