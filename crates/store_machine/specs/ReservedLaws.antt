-- The steps that runs have still to make.
use Rattle.std.specs.Prelude.{◌≡◌, ℕ, ◌+◌, ◌≤◌, List, [], ◌∷◌, length, sum_by, cond, Option, None, Some}
use Rattle.std.specs.List.{AllByRecursion}
use Rattle.std.specs.Map.{keys_of}
use Rattle.std.specs.BTreeMap.{insert_entry}
use Rattle.std.specs.declared.cmp.Ordering.TheVariants.{Less, Equal, Greater}
use Rattle.std.specs.Ordering.{is_eq, match_ordering}
use Rattle.std.proofs.Common.{ap, ◌∙◌, refl, arith}
use Rattle.std.proofs.lemmas.List.Sums.{sum_by-cons}
use Rattle.std.proofs.lemmas.Map.Keys.{sorted_head, sorted_tail}
use Rattle.map_model.specs.Maps.{at, set, IsSorted}
use Rattle.history_model.specs.History.{RunKey, run_cmp, Begun, Runs, reserved}
use Rattle.history_model.specs.HistoryLaws.{run_order}
use Rattle.history_model.specs.LimitLaws.{left_of}

abbrev weight : RunKey × Begun → ℕ
weight r = length r.1.run.left

none_behind : (key : RunKey) (runs : Runs) → AllByRecursion (λ k. run_cmp key k ≡ Less) (keys_of runs) → at run_cmp runs key ≡ None
none_behind key [] h = refl
none_behind key (r ∷ runs) h = ap (λ o. cond (is_eq o) (Some r.1) (at run_cmp runs key)) h.0 ∙ none_behind key runs h.1

behind_all : (key first : RunKey) (ks : List RunKey) → run_cmp key first ≡ Less → AllByRecursion (λ k. run_cmp first k ≡ Less) ks →
    AllByRecursion (λ k. run_cmp key k ≡ Less) ks
behind_all key first [] e h = tt
behind_all key first (k ∷ ks) e h = (run_order.total.trans key first k e h.0, behind_all key first ks e h.1)

-- a run that is put in place of one brings its steps for those of that
pub reserved-set : (runs : Runs) (key : RunKey) (b : Begun) → IsSorted run_cmp runs →
    reserved (set run_cmp runs key (Some b)) + left_of (at run_cmp runs key) ≡ reserved runs + length b.run.left
reserved-set [] key b s = omega (arith, sum_by-cons weight (key, b) [])
reserved-set (r ∷ runs) key b s =
    let rest = reserved-set runs key b (sorted_tail run_cmp r.0 (keys_of runs) s) in
    let put = insert_entry run_cmp runs key b in
    elim (run_cmp key r.0)
    as (λ o. run_cmp key r.0 ≡ o → sum_by weight (match_ordering o ((key, b) ∷ r ∷ runs) ((r.0, b) ∷ runs) (r ∷ put))
    + left_of (cond (is_eq o) (Some r.1) (at run_cmp runs key)) ≡ sum_by weight (r ∷ runs) + length b.run.left) [
      | Less ↦ λ e.
          let none : left_of (at run_cmp runs key) ≡ 0 =
          ap left_of (none_behind key runs (behind_all key r.0 (keys_of runs) e (sorted_head run_cmp r.0 (keys_of runs) s))) in
          omega (arith, none, sum_by-cons weight (key, b) (r ∷ runs))
      | Equal ↦ λ e. omega (arith, sum_by-cons weight r runs, sum_by-cons weight (r.0, b) runs)
      | Greater ↦ λ e. omega (arith, sum_by-cons weight r runs, sum_by-cons weight r put, rest)
    ] refl
