-- Calls of which nothing more becomes.
use Rattle.std.proofs.Common.{◌≡◌, ℕ, zero, suc, ◌+◌, ◌≤◌, ◌<◌, List, [], ◌∷◌, ◌++◌, map, length, drop, get_or, Bool, true, false, cond, Option, None, Some, refl, ap, ap₂, sym, ◌∙◌, arith}
use Rattle.std.specs.Prelude.{◌&&◌, IfSome}
use Rattle.std.proofs.lemmas.Bool.{ne_eqb, false≢true}
use Rattle.std.proofs.lemmas.List.{map-append}
use Rattle.value_model.specs.TruthLaws.{both_true}
use Rattle.session_model.specs.Methods.{Phase, running, refused, finished, told, Method, turned}
use Rattle.session_state.specs.declared.progress.Progress.{Progress}
use Rattle.session_state.specs.declared.calls.Method.{Method as TheMethod}
use Rattle.session_state.specs.Calls.{as_method, fired_by, fire_by, fire_from, told_now_by, told_from, is_settled, are_settled, passed_by}
use Rattle.session_state.specs.Progress.{turned_phase}

both : (a b : Bool) → a ≡ true → b ≡ true → (a && b) ≡ true
both true b e f = f
both false b e f = absurd (false≢true e)

-- ---- so many, and others

pub fewer : (n k : ℕ) (ms : List Method) → k ≤ n → are_settled n ms ≡ true → are_settled k ms ≡ true
fewer n zero ms le s = refl
fewer zero (suc k) ms le s = absurd (omega (arith, le))
fewer (suc n) (suc k) [] le s = absurd (false≢true s)
fewer (suc n) (suc k) (m ∷ ms) le s =
    let parts = both_true (is_settled m.phase) (are_settled n ms) s in
    both (is_settled m.phase) (are_settled k ms) parts.0 (fewer n k ms (omega (arith, le)) parts.1)

pub still_settled : (n : ℕ) (ms more : List Method) → are_settled n ms ≡ true → are_settled n (ms ++ more) ≡ true
still_settled zero ms more s = refl
still_settled (suc n) [] more s = absurd (false≢true s)
still_settled (suc n) (m ∷ ms) more s =
    let parts = both_true (is_settled m.phase) (are_settled n ms) s in
    both (is_settled m.phase) (are_settled n (ms ++ more)) parts.0 (still_settled n ms more parts.1)

-- one more call behind them, or none where the memory lacked
pub grown_settled : (n : ℕ) (b : Bool) (ms after : List TheMethod) (m : TheMethod) → after ≡ cond b (ms ++ m ∷ []) ms → are_settled n (map as_method ms) ≡ true → are_settled n (map as_method after) ≡ true
grown_settled n true ms after m is s = ap (λ (xs : List TheMethod). are_settled n (map as_method xs)) is ∙ (ap (are_settled n) (map-append as_method ms (m ∷ [])) ∙ still_settled n (map as_method ms) (as_method m ∷ []) s)
grown_settled n false ms after m is s = ap (λ (xs : List TheMethod). are_settled n (map as_method xs)) is ∙ s

pub turned_settled : (n k : ℕ) (p : Phase) (ms : List Method) → n ≤ k → are_settled n ms ≡ true → are_settled n (turned k p ms) ≡ true
turned_settled zero k p ms le s = refl
turned_settled (suc n) k p [] le s = absurd (false≢true s)
turned_settled (suc n) zero p (m ∷ ms) le s = absurd (omega (arith, le))
turned_settled (suc n) (suc k) p (m ∷ ms) le s =
    let parts = both_true (is_settled m.phase) (are_settled n ms) s in
    both (is_settled m.phase) (are_settled n (turned k p ms)) parts.0 (turned_settled n k p ms (omega (arith, le)) parts.1)

-- one more
pub one_more : (n : ℕ) (ms : List TheMethod) (m : TheMethod) → n < length ms → m ≡ get_or ms n m → is_settled (as_method m).phase ≡ true → are_settled n (map as_method ms) ≡ true → are_settled (suc n) (map as_method ms) ≡ true
one_more n [] m within is e s = absurd (omega (arith, within))
one_more zero (x ∷ ms) m within is e s = both (is_settled (as_method x).phase) true (sym (ap (λ (y : TheMethod). is_settled (as_method y).phase) is) ∙ e) refl
one_more (suc n) (x ∷ ms) m within is e s =
    let parts = both_true (is_settled (as_method x).phase) (are_settled n (map as_method ms)) s in
    both (is_settled (as_method x).phase) (are_settled (suc n) (map as_method ms)) parts.0 (one_more n ms m (omega (arith, within)) is e parts.1)

pub no_more : (n : ℕ) (ms : List Method) → are_settled n ms ≡ true → n ≤ length ms
no_more zero ms s = omega arith
no_more (suc n) [] s = absurd (false≢true s)
no_more (suc n) (m ∷ ms) s = let rest : n ≤ length ms = no_more n ms (both_true (is_settled m.phase) (are_settled n ms) s).1 in omega (arith, rest)

-- ---- they are left as they are

fired_same : (p : Progress) (q : Phase) → is_settled q ≡ true → fired_by p q ≡ q
fired_same p running s = absurd (false≢true s)
fired_same p refused s = refl
fired_same p (finished place) s = absurd (false≢true s)
fired_same p (told place) s = refl

pub fire_settled : (p : Progress) (n : ℕ) (ms : List Method) → are_settled n ms ≡ true → fire_from p n ms ≡ fire_by p ms
fire_settled p zero ms s = refl
fire_settled p (suc n) [] s = refl
fire_settled p (suc n) (m ∷ ms) s =
    let parts = both_true (is_settled m.phase) (are_settled n ms) s in
    ap₂ (λ (q : Phase) (rest : List Method). record m { phase = q } ∷ rest) (sym (fired_same p m.phase parts.0)) (fire_settled p n ms parts.1)

pub settled_fired : (p : Progress) (n : ℕ) (ms : List Method) → are_settled n ms ≡ true → are_settled n (fire_by p ms) ≡ true
settled_fired p zero ms s = refl
settled_fired p (suc n) [] s = absurd (false≢true s)
settled_fired p (suc n) (m ∷ ms) s =
    let parts = both_true (is_settled m.phase) (are_settled n ms) s in
    both (is_settled (fired_by p m.phase)) (are_settled n (fire_by p ms)) (ap is_settled (fired_same p m.phase parts.0) ∙ parts.0) (settled_fired p n ms parts.1)

-- ---- none of them is told

told_none : (p : Progress) (id : List ℕ) (q : Phase) → is_settled q ≡ true → told_now_by p id q ≡ []
told_none p id running s = refl
told_none p id refused s = refl
told_none p id (finished place) s = absurd (false≢true s)
told_none p id (told place) s = refl

not_ended : (ended : Option (ℕ × ℕ)) (n q : ℕ) (p : Phase) → n < q → IfSome ended (λ (e : ℕ × ℕ). q ≤ e.0) → turned_phase ended n p ≡ p
not_ended None n q p less far = refl
not_ended (Some e) n q p less far = ap (λ b. cond b (finished e.1) p) (ne_eqb e.0 n (λ same. omega (arith, same, less, far)))

pub told_settled : (p : Progress) (ended : Option (ℕ × ℕ)) (n k q : ℕ) (ms : List TheMethod) → q ≡ n + k → are_settled k (map as_method ms) ≡ true → IfSome ended (λ (e : ℕ × ℕ). q ≤ e.0) →
    told_from p ended q (map as_method (drop k ms)) ≡ told_from p ended n (map as_method ms)
told_settled p ended n zero q ms is s far = ap (λ (x : ℕ). told_from p ended x (map as_method ms)) (omega (arith, is))
told_settled p ended n (suc k) q [] is s far = absurd (false≢true s)
told_settled p ended n (suc k) q (m ∷ ms) is s far =
    let parts = both_true (is_settled (as_method m).phase) (are_settled k (map as_method ms)) s in
    let same = not_ended ended n q (as_method m).phase (omega (arith, is)) far in
    let none : told_now_by p m.id (turned_phase ended n (as_method m).phase) ≡ [] = ap (told_now_by p m.id) same ∙ told_none p m.id (as_method m).phase parts.0 in
    told_settled p ended (suc n) k q ms (omega (arith, is)) parts.1 far ∙ sym (ap (λ xs. xs ++ told_from p ended (suc n) (map as_method ms)) none)

pub passed_before : (n : ℕ) (ended : Option (ℕ × ℕ)) → IfSome ended (λ (e : ℕ × ℕ). passed_by n ended ≤ e.0)
passed_before n None = tt
passed_before n (Some e) = omega arith

pub passed_least : (n : ℕ) (ended : Option (ℕ × ℕ)) → passed_by n ended ≤ n
passed_least n None = omega arith
passed_least n (Some e) = omega arith
