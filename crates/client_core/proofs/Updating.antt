-- When the methods of an `updated` are refused, one after another.
use Rattle.std.specs.Prelude.{decimal, length, take, drop, not, ◌&&◌, ◌||◌, option_to_list, Option, Some, None, is_some, option_and_then}
use Rattle.std.specs.List.{list_any, list_all}
use Rattle.std.specs.Ordering.{nat_cmp, eq_by_cmp}
use Rattle.std.proofs.Common.{◌≡◌, ℕ, suc, ◌<◌, get_or, Bool, true, false, true≢false, cond, List, [], ◌∷◌, ◌++◌, refl, sym, ap, ap₂, ◌∙◌}
use Rattle.std.proofs.lemmas.List.Folds.{list_all-append, list_any-append}
use Rattle.std.proofs.lemmas.Slice.Eq.{bytes_eq-Decides}
use Rattle.std.proofs.Math.Seq.{take-suc}
use Rattle.std.proofs.lemmas.List.{take-append-drop}
use Rattle.map_model.specs.MapLaws.{key_is, eq_by_cmp-self}
use Rattle.value_model.specs.Size.{is_name}
use Rattle.view_model.specs.Pending.{is_among}
use Rattle.view_model.specs.PendingLaws.{number_order}
use Rattle.client_model.specs.Client.{Call}
use Rattle.client_model.specs.Taking.{number_of, numbers_of, behind, call_at, call_of, awaits_update, are_distinct, updated_refusal}
use Rattle.client_core.specs.Numbered.{number_if, number_where, new_number}
use Rattle.client_core.proofs.Ids.{number_written, numbers_more}

-- each is a call that awaits it, and none stands twice
abbrev are_fine : List Call → List (List ℕ) → Bool
are_fine calls ids = list_all (λ id. awaits_update (call_of calls id)) ids && are_distinct ids

-- and else 9 refuses them
abbrev refused_unless : Bool → Option ℕ
refused_unless b = cond b None (Some 9)

fine_if : (b : Bool) → refused_unless b ≡ None → b ≡ true
fine_if true e = refl
fine_if false e = cc e

both : (a b : Bool) → (a && b) ≡ true → (a ≡ true) × (b ≡ true)
both true b e = (refl, e)
both false b e = cc e

neither : (a b : Bool) → (a || b) ≡ false → (a ≡ false) × (b ≡ false)
neither true b e = cc e
neither false b e = (refl, e)

not_false : (b : Bool) → not b ≡ true → b ≡ false
not_false true e = cc e
not_false false e = refl

distinct_front : (ids more : List (List ℕ)) → are_distinct (ids ++ more) ≡ true → are_distinct ids ≡ true
distinct_front [] more e = refl
distinct_front (id ∷ ids) more e =
    let parts = both (not (list_any (is_name id) (ids ++ more))) (are_distinct (ids ++ more)) e in
    let none = neither (list_any (is_name id) ids) (list_any (is_name id) more) (sym (list_any-append (is_name id) ids more) ∙ not_false (list_any (is_name id) (ids ++ more)) parts.0) in
    ap₂ (λ a b. not a && b) none.0 (distinct_front ids more parts.1)

-- what is refused of a front is refused of the whole
pub front_fine : (calls : List Call) (ids more : List (List ℕ)) → updated_refusal calls (ids ++ more) ≡ None → updated_refusal calls ids ≡ None
front_fine calls ids more e =
    let awaits = λ (id : List ℕ). awaits_update (call_of calls id) in
    let parts = both (list_all awaits (ids ++ more)) (are_distinct (ids ++ more)) (fine_if (are_fine calls (ids ++ more)) e) in
    let first = both (list_all awaits ids) (list_all awaits more) (sym (list_all-append awaits ids more) ∙ parts.0) in
    ap₂ (λ a b. refused_unless (a && b)) first.0 (distinct_front ids more parts.1)

pub front_refused : (calls : List Call) (ids more : List (List ℕ)) → updated_refusal calls ids ≡ Some 9 → updated_refusal calls (ids ++ more) ≡ Some 9
front_refused calls ids more e = by (are_fine calls (ids ++ more)) refl
  where
    by : (b : Bool) → are_fine calls (ids ++ more) ≡ b → refused_unless b ≡ Some 9
    by true all = let no : None ≡ Some 9 = sym (front_fine calls ids more (ap refused_unless all)) ∙ e in cc no
    by false all = refl

name_swap : (a b : List ℕ) → is_name a b ≡ is_name b a
name_swap a b =
    elim (is_name a b) as (λ x. is_name a b ≡ x → x ≡ is_name b a) [
      | true ↦ λ e. sym ((bytes_eq-Decides b a).1 (sym ((bytes_eq-Decides a b).0 e)))
      | false ↦ λ e. other (is_name b a) refl e
    ] refl
  where
    other : (y : Bool) → is_name b a ≡ y → is_name a b ≡ false → false ≡ y
    other true f e = absurd (true≢false (sym ((bytes_eq-Decides a b).1 (sym ((bytes_eq-Decides b a).0 f))) ∙ e))
    other false f e = refl

and_swap : (a b c d : Bool) → (not (a || b) && (c && not d)) ≡ ((not a && c) && not (b || d))
and_swap true b c d = refl
and_swap false true c true = elim c as (λ c. false ≡ (c && false)) [ true ↦ refl | false ↦ refl ]
and_swap false true c false = elim c as (λ c. false ≡ (c && false)) [ true ↦ refl | false ↦ refl ]
and_swap false false c d = refl

-- one id more
distinct_more : (ids : List (List ℕ)) (id : List ℕ) → are_distinct (ids ++ id ∷ []) ≡ (are_distinct ids && not (list_any (is_name id) ids))
distinct_more [] id = refl
distinct_more (x ∷ ids) id =
    ap₂ (λ a b. not a && b) (list_any-append (is_name x) ids (id ∷ []) ∙ ap (λ b. list_any (is_name x) ids || b) (or_none (is_name x id) ∙ name_swap x id)) (distinct_more ids id)
    ∙ and_swap (list_any (is_name x) ids) (is_name id x) (are_distinct ids) (list_any (is_name id) ids)
  where
    or_none : (b : Bool) → (b || false) ≡ b
    or_none true = refl
    or_none false = refl

-- two ids of one number are one
among_same : (count : ℕ) (ids : List (List ℕ)) (id : List ℕ) (n : ℕ) → number_of count id ≡ Some n → is_among (numbers_of count ids) n ≡ list_any (is_name id) ids
among_same count [] id n e = refl
among_same count (x ∷ ids) id n e = by (among_same count ids id n e) (number_of count x) refl
  where
    differs : number_of count x ≡ None → is_name id x ≡ false
    differs none = not_named (is_name id x) refl
      where
        not_named : (b : Bool) → is_name id x ≡ b → b ≡ false
        not_named true same = let is : None ≡ Some n = sym none ∙ ap (number_of count) (sym ((bytes_eq-Decides id x).0 same)) ∙ e in cc is
        not_named false same = refl

    same_test : (m : ℕ) → number_of count x ≡ Some m → (b : Bool) → is_name id x ≡ b → eq_by_cmp nat_cmp n m ≡ b
    same_test m is true same =
        let equal : Some n ≡ Some m = sym e ∙ ap (number_of count) ((bytes_eq-Decides id x).0 same) ∙ is in
        let one : n ≡ m = cc equal in ap (λ k. eq_by_cmp nat_cmp n k) (sym one) ∙ eq_by_cmp-self number_order n
    same_test m is false other = unequal (eq_by_cmp nat_cmp n m) refl
      where
        unequal : (b : Bool) → eq_by_cmp nat_cmp n m ≡ b → b ≡ false
        unequal true equal =
            let one = key_is number_order n m equal in
            absurd (true≢false (sym ((bytes_eq-Decides id x).1 (sym (number_written count n id e) ∙ ap decimal one ∙ number_written count m x is)) ∙ other))
        unequal false equal = refl

    by : is_among (numbers_of count ids) n ≡ list_any (is_name id) ids → (o : Option ℕ) → number_of count x ≡ o → is_among (behind o (numbers_of count ids)) n ≡ (is_name id x || list_any (is_name id) ids)
    by rest None is = rest ∙ ap (λ b. b || list_any (is_name id) ids) (sym (differs is))
    by rest (Some m) is = ap₂ (λ a b. a || b) (same_test m is (is_name id x) refl) rest

-- an id has a new number where it is a call that awaits it and stands for the first time
new_is : (calls : List Call) (ids : List (List ℕ)) (id : List ℕ) → is_some (new_number calls (numbers_of (length calls) ids) id) ≡ (awaits_update (call_of calls id) && not (list_any (is_name id) ids))
new_is calls ids id = by (number_of (length calls) id) refl
  where
    by : (o : Option ℕ) → number_of (length calls) id ≡ o
        → is_some (number_if (λ n. not (is_among (numbers_of (length calls) ids) n)) (number_if (λ n. awaits_update (call_at calls n)) o)) ≡ (awaits_update (option_and_then (call_at calls) o) && not (list_any (is_name id) ids))
    by None is = refl
    by (Some n) is = filtered n (awaits_update (call_at calls n)) (not (is_among (numbers_of (length calls) ids) n)) refl ∙ ap (λ b. awaits_update (call_at calls n) && not b) (among_same (length calls) ids id n is)
      where
        filtered : (n : ℕ) (a b : Bool) → not (is_among (numbers_of (length calls) ids) n) ≡ b → is_some (number_if (λ n. not (is_among (numbers_of (length calls) ids) n)) (cond a (Some n) None)) ≡ (a && b)
        filtered n true true e = ap (λ b. is_some (cond b (Some n) None)) e
        filtered n true false e = ap (λ b. is_some (cond b (Some n) None)) e
        filtered n false b e = refl

-- so one id more is refused or not
pub more_fine : (calls : List Call) (ids : List (List ℕ)) (id : List ℕ) → updated_refusal calls ids ≡ None
    → updated_refusal calls (ids ++ id ∷ []) ≡ refused_unless (is_some (new_number calls (numbers_of (length calls) ids) id))
more_fine calls ids id fine =
    let awaits = λ (x : List ℕ). awaits_update (call_of calls x) in
    let so_far = both (list_all awaits ids) (are_distinct ids) (fine_if (are_fine calls ids) fine) in
    ap refused_unless (
    ap₂ (λ a b. a && b) (list_all-append awaits ids (id ∷ []) ∙ ap₂ (λ a b. a && b) so_far.0 (and_true (awaits id))) (distinct_more ids id ∙ ap (λ a. a && not (list_any (is_name id) ids)) so_far.1)
    ∙ sym (new_is calls ids id)
    )
  where
    and_true : (b : Bool) → (b && true) ≡ b
    and_true true = refl
    and_true false = refl

filter_same : (test : ℕ → Bool) (o : Option ℕ) → is_some (number_if test o) ≡ true → number_if test o ≡ o
filter_same test None e = refl
filter_same test (Some n) e = kept (test n) e
  where
    kept : (b : Bool) → is_some (cond b (Some n) None) ≡ true → cond b (Some n) None ≡ Some n
    kept true is = refl
    kept false is = cc is

new_there : (calls : List Call) (numbers : List ℕ) (id : List ℕ) → is_some (new_number calls numbers id) ≡ true → new_number calls numbers id ≡ number_of (length calls) id
new_there calls numbers id e =
    let outer = filter_same (λ n. not (is_among numbers n)) (number_where awaits_update calls id) e in
    outer ∙ filter_same (λ n. awaits_update (call_at calls n)) (number_of (length calls) id) (ap is_some (sym outer) ∙ e)

-- an id with a new number is taken, and its number is put behind the others
pub one_more : (calls : List Call) (ids : List (List ℕ)) (id : List ℕ) (numbers : List ℕ) → updated_refusal calls ids ≡ None → numbers ≡ numbers_of (length calls) ids → is_some (new_number calls numbers id) ≡ true
    → (updated_refusal calls (ids ++ id ∷ []) ≡ None) × (numbers ++ option_to_list (new_number calls numbers id) ≡ numbers_of (length calls) (ids ++ id ∷ []))
one_more calls ids id numbers fine same new = (
  more_fine calls ids id fine ∙ ap refused_unless (ap (λ ns. is_some (new_number calls ns id)) (sym same) ∙ new),
  ap₂ (λ (ns : List ℕ) (o : Option ℕ). ns ++ option_to_list o) same (new_there calls numbers id new) ∙ sym (numbers_more (length calls) ids id),
)

-- one without is refused, whatever stands behind it
pub one_refused : (calls : List Call) (ids more : List (List ℕ)) (id : List ℕ) (numbers : List ℕ) → updated_refusal calls ids ≡ None → numbers ≡ numbers_of (length calls) ids → is_some (new_number calls numbers id) ≡ false
    → updated_refusal calls ((ids ++ id ∷ []) ++ more) ≡ Some 9
one_refused calls ids more id numbers fine same none =
    front_refused calls (ids ++ id ∷ []) more (more_fine calls ids id fine ∙ ap refused_unless (ap (λ ns. is_some (new_number calls ns id)) (sym same) ∙ none))

next_taken : (all : List (List ℕ)) (i j : ℕ) (id : List ℕ) → j ≡ suc i → i < length all → id ≡ get_or all i id → take j all ≡ take i all ++ id ∷ []
next_taken all i j id further within is = ap (λ k. take k all) further ∙ take-suc all i id within ∙ ap (λ x. take i all ++ x ∷ []) (sym is)

-- one id of the list more
pub goes_on : (calls : List Call) (all : List (List ℕ)) (i j : ℕ) (id : List ℕ) (numbers after : List ℕ) → j ≡ suc i → i < length all → id ≡ get_or all i id
    → updated_refusal calls (take i all) ≡ None → numbers ≡ numbers_of (length calls) (take i all) → is_some (new_number calls numbers id) ≡ true → after ≡ numbers ++ option_to_list (new_number calls numbers id)
    → (updated_refusal calls (take j all) ≡ None) × (after ≡ numbers_of (length calls) (take j all))
goes_on calls all i j id numbers after further within is fine same new put =
    let taken = next_taken all i j id further within is in
    let more = one_more calls (take i all) id numbers fine same new in
    (ap (updated_refusal calls) taken ∙ more.0, put ∙ more.1 ∙ ap (numbers_of (length calls)) (sym taken))

-- one that is refused
pub cut_short : (calls : List Call) (all : List (List ℕ)) (i : ℕ) (id : List ℕ) (numbers : List ℕ) → i < length all → id ≡ get_or all i id
    → updated_refusal calls (take i all) ≡ None → numbers ≡ numbers_of (length calls) (take i all) → is_some (new_number calls numbers id) ≡ false → updated_refusal calls all ≡ Some 9
cut_short calls all i id numbers within is fine same none =
    ap (updated_refusal calls) (sym (take-append-drop (suc i) all) ∙ ap (λ front. front ++ drop (suc i) all) (next_taken all i (suc i) id refl within is))
    ∙ one_refused calls (take i all) (drop (suc i) all) id numbers fine same none
