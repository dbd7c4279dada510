-- Lemmas of marks on operands.
use Rattle.std.proofs.Common.{◌≡◌, ◌≢◌, ◌⊎◌, ℕ, zero, suc, ◌+◌, ◌<◌, ◌&&◌, ◌||◌, not, Bool, true, false, cond, List, [], ◌∷◌, ◌++◌, length, map, take, drop, get_or, set, length-append, Option, Some, None, refl, ap, sym, ◌∙◌, ⊎_elim, inl, inr, arith}
use Rattle.std.specs.List.{list_any, list_all}
use Rattle.std.specs.Option.{option_map_or}
use Rattle.std.specs.Ordering.{is_eq, ordering_reverse}
use Rattle.std.proofs.Math.Bool.{or_assoc}
use Rattle.std.proofs.lemmas.Bool.{false≢true, cases_lt, cases_Bool}
use Rattle.std.proofs.lemmas.List.{get_or-set_same, get_or-set_other, get_or_append_left, get_or-append-add, map-append, take-append-drop}
use Rattle.std.proofs.lemmas.List.Folds.{list_any_at}
use Rattle.value_model.specs.Val.{Val, null, vals_of, list_of}
use Rattle.value_model.specs.Order.{compare}
use Rattle.value_model.specs.OrderLaws.{compare_reverse, compare_itself}
use Rattle.value_model.specs.Branches.{Branch}
use Rattle.ejson_value.specs.declared.value.Value.{Value}
use Rattle.ejson_value.specs.View.{view, views}
use Rattle.ejson_value.proofs.Branching.{list_any-flat_map}
use Rattle.selector_match.specs.Holds.{list_in, elements, branch_candidates, equals, has_equal}
use Rattle.selector_match.specs.Operands.{IsRising, PassAlike, Marked, met_at, met}
use Rattle.selector_match.proofs.Loops.{list_any-map, elements-list}

pub or_none : (b : Bool) → b ≡ (b || false)
or_none true = refl
or_none false = refl

or_true : (b : Bool) → true ≡ (b || true)
or_true true = refl
or_true false = refl

module _ (vs : List Val) where
  pub marked_both : (p q : Val → Bool) (old between new : List Bool) → Marked vs p old between → Marked vs q between new → Marked vs (λ v. p v || q v) old new
  marked_both p q old between new first second k h = second k h ∙ (ap (λ b. b || q (get_or vs k null)) (first k h) ∙ or_assoc (get_or old k false) (p (get_or vs k null)) (q (get_or vs k null)))

  pub marked_as : (p q : Val → Bool) (old new : List Bool) → ((v : Val) → p v ≡ q v) → Marked vs p old new → Marked vs q old new
  marked_as p q old new is marked k h = marked k h ∙ ap (λ b. get_or old k false || b) (is (get_or vs k null))

  pub unmarked : (p : Val → Bool) (ms : List Bool) → ((k : ℕ) → k < length vs → p (get_or vs k null) ≡ false) → Marked vs p ms ms
  unmarked p ms fails k h = or_none (get_or ms k false) ∙ ap (λ b. get_or ms k false || b) (sym (fails k h))

  pub fails_at : (p : Val → Bool) → list_any p vs ≡ false → (k : ℕ) → k < length vs → p (get_or vs k null) ≡ false
  fails_at p none k h = ⊎_elim (λ holds. absurd (false≢true (sym none ∙ list_any_at p vs k null h holds))) (λ fails. fails) (cases_Bool (p (get_or vs k null)))

  apart : IsRising vs → (i k : ℕ) → i < length vs → k < length vs → k ≢ i → is_eq (compare (get_or vs i null) (get_or vs k null)) ≡ false
  apart rising i k at h other =
      ⊎_elim (λ less. ap is_eq (rising i k less h))
      (λ le. ap is_eq (compare_reverse (get_or vs i null) (get_or vs k null) ∙ ap ordering_reverse (rising k i (omega (arith, le, other)) at)))
      (cases_lt i k)

  -- a mark on the operand that equals a value
  pub marked_one : IsRising vs → (c : Val) (ms : List Bool) (i : ℕ) → length ms ≡ length vs → i < length vs → get_or vs i null ≡ c → Marked vs (λ v. is_eq (compare c v)) ms (set ms i true)
  marked_one rising c ms i as_many at is k h =
      ⊎_elim
      (λ same. ap (λ j. get_or (set ms i true) j false) same ∙ (get_or-set_same ms i true false (omega arith)
      ∙ (or_true (get_or ms k false) ∙ ap (λ b. get_or ms k false || b) (sym (ap (λ j. is_eq (compare c (get_or vs j null))) same ∙ (ap (λ v. is_eq (compare c v)) is ∙ ap is_eq (compare_itself c)))))))
      (λ other. get_or-set_other ms i k true false other
      ∙ (or_none (get_or ms k false) ∙ ap (λ b. get_or ms k false || b) (sym (ap (λ v. is_eq (compare v (get_or vs k null))) (sym is) ∙ apart rising i k at h other))))
      (same_or_not k i)
    where
      same_or_not : (a b : ℕ) → (a ≡ b) ⊎ (a ≢ b)
      same_or_not a b = ⊎_elim (λ less. inr (λ same. omega (arith, less, same))) (λ le. ⊎_elim (λ less. inr (λ same. omega (arith, less, same))) (λ ge. inl (omega (arith, le, ge))) (cases_lt b a)) (cases_lt a b)

-- The candidates of one branch.

pub at_whole : (v : Val) (r : Option Val) (whole : Bool) → whole ≡ true → equals v r ≡ met_at v r whole
at_whole v r whole is = or_none (equals v r) ∙ ap (λ w. equals v r || list_any (λ c. equals v c) (cond w [] (map Some (elements r)))) (sym is)

pub no_elements : (v : Val) (r : Option Val) (whole : Bool) → whole ≡ false → None ≡ list_in r → equals v r ≡ met_at v r whole
no_elements v r whole is none =
    or_none (equals v r)
    ∙ (ap (λ vs. equals v r || list_any (λ c. equals v c) (map Some (option_map_or list_of vs []))) none
    ∙ ap (λ w. equals v r || list_any (λ c. equals v c) (cond w [] (map Some (elements r)))) (sym is))

pub with_elements : (v : Val) (r : Option Val) (whole : Bool) (vs : List Val) → whole ≡ false → list_in r ≡ Some (vals_of vs) → (equals v r || list_any (λ w. equals v (Some w)) vs) ≡ met_at v r whole
with_elements v r whole vs is some =
    ap (λ ws. equals v r || list_any (λ w. equals v (Some w)) ws) (sym (elements-list r vs some))
    ∙ (ap (λ b. equals v r || b) (sym (list_any-map (λ c. equals v c) Some (elements r)))
    ∙ ap (λ w. equals v r || list_any (λ c. equals v c) (cond w [] (map Some (elements r)))) (sym is))

pub has_equal-is : (v : Val) (bs : List Branch) → met v bs ≡ has_equal v bs
has_equal-is v bs = sym (list_any-flat_map (λ c. equals v c) branch_candidates bs)

-- All of them.

all_at_points : (test : Val → Bool) (ms : List Bool) (vs : List Val) → length ms ≡ length vs → ((k : ℕ) → k < length vs → get_or ms k false ≡ test (get_or vs k null)) → list_all (λ m. m) ms ≡ list_all test vs
all_at_points test [] [] as_many at = refl
all_at_points test [] (v ∷ vs) as_many at = absurd (omega (arith, as_many))
all_at_points test (m ∷ ms) [] as_many at = absurd (omega (arith, as_many))
all_at_points test (m ∷ ms) (v ∷ vs) as_many at =
    ap (λ b. b && list_all (λ m. m) ms) (at zero (omega arith))
    ∙ ap (λ b. test v && b) (all_at_points test ms vs (omega (arith, as_many)) (λ k h. at (suc k) (omega (arith, h))))

pub all_marked : (vs : List Val) (test : Val → Bool) (old new : List Bool) → length new ≡ length vs → ((k : ℕ) → k < length vs → get_or old k false ≡ false) → Marked vs test old new → list_all (λ m. m) new ≡ list_all test vs
all_marked vs test old new as_many none marked = all_at_points test new vs as_many (λ k h. marked k h ∙ ap (λ b. b || test (get_or vs k null)) (none k h))

all_by_any : (test : Val → Bool) (vs : List Val) → list_all test vs ≡ not (list_any (λ v. not (test v)) vs)
all_by_any test [] = refl
all_by_any test (v ∷ vs) = by (test v) (all_by_any test vs)
  where
    by : (b : Bool) → list_all test vs ≡ not (list_any (λ v. not (test v)) vs) → (b && list_all test vs) ≡ not (not b || list_any (λ v. not (test v)) vs)
    by true e = e
    by false e = refl

pub all_alike : (test : Val → Bool) (vs ws : List Val) → PassAlike vs ws → list_all test vs ≡ list_all test ws
all_alike test vs ws alike = all_by_any test vs ∙ (ap not (alike (λ v. not (test v))) ∙ sym (all_by_any test ws))

-- A list in two parts.

pub in_parts : (n : ℕ) (xs front back : List Value) → front ≡ take n xs → back ≡ drop n xs → views front ++ views back ≡ views xs
in_parts n xs front back is_front is_back =
    sym (map-append view front back) ∙ (ap (λ ys. views (ys ++ back)) is_front ∙ (ap (λ ys. views (take n xs ++ ys)) is_back ∙ ap views (take-append-drop n xs)))

pub rising-front : (vs ws : List Val) → IsRising (vs ++ ws) → IsRising vs
rising-front vs ws rising i j less h =
    ap (λ v. compare v (get_or vs j null)) (sym (get_or_append_left vs ws null i (omega (arith, less, h))))
    ∙ (ap (λ v. compare (get_or (vs ++ ws) i null) v) (sym (get_or_append_left vs ws null j h))
    ∙ rising i j less (omega (arith, h, length-append vs ws)))

pub rising-back : (vs ws : List Val) → IsRising (vs ++ ws) → IsRising ws
rising-back vs ws rising i j less h =
    ap (λ v. compare v (get_or ws j null)) (sym (get_or-append-add vs ws i null))
    ∙ (ap (λ v. compare (get_or (vs ++ ws) (length vs + i) null) v) (sym (get_or-append-add vs ws j null))
    ∙ rising (length vs + i) (length vs + j) (omega (arith, less)) (omega (arith, h, length-append vs ws)))
