-- The first lines of an input, and what follows them.
use Rattle.std.specs.Prelude.{◌≡◌, ◌≢◌, ℕ, zero, suc, ◌+◌, ◌<◌, List, [], ◌∷◌, ◌++◌, length, take, drop, get_or, Bool, true, false, if◌then◌else◌}
use Rattle.std.specs.Prelude.{◌==◌, IsUtf8, refl}
use Rattle.std.proofs.Common.{ap, sym, ◌∙◌, arith, take_all, take-append-drop}
use Rattle.std.specs.Io.BufRead.{take_through}
use Rattle.std.proofs.BufReadLemmas.{take_through-nil}
use Rattle.std.specs.Str.{is_utf8}
use Rattle.std.proofs.lemmas.Str.{IsUtf8-from_is_utf8, is_utf8-from_IsUtf8}
use Rattle.std.proofs.lemmas.Bool.{eqb-true}
use Rattle.std.proofs.Common.{eq-eqb}
use Rattle.std.specs.Prelude.{Option, None}
use Rattle.std.specs.Result.{result_ok}
use Rattle.value_model.specs.Val.{Val}
use Rattle.ejson_codec.specs.Reading.{parsed}
use Rattle.checking.specs.Input.{line_feed, with_byte, lines_in, lines_to, value_in}

not_feed : (b : ℕ) → b ≢ line_feed → (b == line_feed) ≡ false
not_feed b n = by (b == line_feed) refl
  where
    by : (t : Bool) → (b == line_feed) ≡ t → (b == line_feed) ≡ false
    by true e = absurd (n (eqb-true b line_feed e))
    by false e = e

-- a line up to the first line feed
pub lines-cut : (xs : List ℕ) (i : ℕ) → i < length xs → ((k : ℕ) → k < i → get_or xs k 0 ≢ line_feed) → get_or xs i 0 ≡ line_feed →
    lines_in xs ≡ take i xs ∷ lines_in (drop (suc i) xs)
lines-cut [] i less before here = absurd (omega (arith, less))
lines-cut (b ∷ bs) zero less before here = ap (λ t. if t then [] ∷ lines_in bs else with_byte b (lines_in bs)) (eq-eqb b line_feed here)
lines-cut (b ∷ bs) (suc i) less before here =
    let first : b ≢ line_feed = before 0 (omega arith) in
    let shorter : i < length bs = omega (arith, less) in
    ap (λ t. if t then [] ∷ lines_in bs else with_byte b (lines_in bs)) (not_feed b first)
    ∙ ap (with_byte b) (lines-cut bs i shorter (λ k h. before (suc k) (omega (arith, h))) here)

-- a last line without a line feed
pub lines-last : (b : ℕ) (bs : List ℕ) → ((k : ℕ) → k < length (b ∷ bs) → get_or (b ∷ bs) k 0 ≢ line_feed) → lines_in (b ∷ bs) ≡ (b ∷ bs) ∷ []
lines-last b [] before = ap (λ t. if t then [] ∷ lines_in [] else with_byte b (lines_in [])) (not_feed b (before 0 (omega arith)))
lines-last b (c ∷ bs) before =
    ap (λ t. if t then [] ∷ lines_in (c ∷ bs) else with_byte b (lines_in (c ∷ bs))) (not_feed b (before 0 (omega arith)))
    ∙ ap (with_byte b) (lines-last c bs (λ k h. before (suc k) (omega (arith, h))))

pub lines-whole : (xs : List ℕ) → 0 < length xs → ((k : ℕ) → k < length xs → get_or xs k 0 ≢ line_feed) → lines_in xs ≡ xs ∷ []
lines-whole [] less before = absurd (omega (arith, less))
lines-whole (b ∷ bs) less before = lines-last b bs before

-- there is a line where there is a byte
lines-some : (b : ℕ) (bs : List ℕ) → lines_in (b ∷ bs) ≡ [] → ⊥
lines-some b bs = by (b == line_feed) (lines_in bs)
  where
    by : (t : Bool) (ls : List (List ℕ)) → (if t then [] ∷ ls else with_byte b ls) ≡ [] → ⊥
    by true ls e = cc e
    by false [] e = cc e
    by false (l ∷ ls) e = cc e

-- no line, no byte
pub lines-none : (xs : List ℕ) → lines_in xs ≡ [] → xs ≡ []
lines-none [] e = refl
lines-none (b ∷ bs) e = absurd (lines-some b bs e)

with_byte-more : (b : ℕ) (ls more : List (List ℕ)) → (ls ≡ [] → ⊥) → with_byte b (ls ++ more) ≡ with_byte b ls ++ more
with_byte-more b [] more some = absurd (some refl)
with_byte-more b (l ∷ ls) more some = refl

split-step : (b c : ℕ) (cs : List ℕ) (i : ℕ) → lines_in (c ∷ cs) ≡ lines_in (take (suc i) (c ∷ cs)) ++ lines_in (drop (suc i) (c ∷ cs)) →
    lines_in (b ∷ c ∷ cs) ≡ lines_in (take (suc (suc i)) (b ∷ c ∷ cs)) ++ lines_in (drop (suc (suc i)) (b ∷ c ∷ cs))
split-step b c cs i whole = by (b == line_feed)
  where
    by : (t : Bool) → (if t then [] ∷ lines_in (c ∷ cs) else with_byte b (lines_in (c ∷ cs))) ≡
        (if t then [] ∷ lines_in (take (suc i) (c ∷ cs)) else with_byte b (lines_in (take (suc i) (c ∷ cs)))) ++ lines_in (drop (suc i) (c ∷ cs))
    by true = ap (λ ls. [] ∷ ls) whole
    by false = ap (with_byte b) whole ∙ with_byte-more b (lines_in (take (suc i) (c ∷ cs))) (lines_in (drop (suc i) (c ∷ cs))) (lines-some c (take i cs))

-- two parts, of which the first ends at a line feed
pub lines-split : (xs : List ℕ) (i : ℕ) → i < length xs → get_or xs i 0 ≡ line_feed → lines_in xs ≡ lines_in (take (suc i) xs) ++ lines_in (drop (suc i) xs)
lines-split [] i less here = absurd (omega (arith, less))
lines-split (b ∷ bs) zero less here =
    ap (λ t. if t then [] ∷ lines_in bs else with_byte b (lines_in bs)) (eq-eqb b line_feed here)
    ∙ ap (λ t. (if t then [] ∷ [] else with_byte b []) ++ lines_in bs) (sym (eq-eqb b line_feed here))
lines-split (b ∷ []) (suc i) less here = absurd (omega (arith, less))
lines-split (b ∷ c ∷ cs) (suc i) less here = split-step b c cs i (lines-split (c ∷ cs) i (omega (arith, less)) here)

-- the bytes up to the first line feed, or all of them
through-cut : (xs : List ℕ) (i : ℕ) → i < length xs → ((k : ℕ) → k < i → get_or xs k 0 ≢ line_feed) → get_or xs i 0 ≡ line_feed →
    take (suc i) xs ≡ take_through line_feed xs
through-cut [] i less before here = absurd (omega (arith, less))
through-cut (b ∷ bs) zero less before here = sym (ap (λ t. if t then b ∷ [] else b ∷ take_through line_feed bs) (eq-eqb b line_feed here))
through-cut (b ∷ bs) (suc i) less before here =
    ap (λ l. b ∷ l) (through-cut bs i (omega (arith, less)) (λ k h. before (suc k) (omega (arith, h))) here)
    ∙ sym (ap (λ t. if t then b ∷ [] else b ∷ take_through line_feed bs) (not_feed b (before 0 (omega arith))))

through-whole : (xs : List ℕ) → ((k : ℕ) → k < length xs → get_or xs k 0 ≢ line_feed) → xs ≡ take_through line_feed xs
through-whole [] before = refl
through-whole (b ∷ bs) before =
    ap (λ l. b ∷ l) (through-whole bs (λ k h. before (suc k) (omega (arith, h))))
    ∙ sym (ap (λ t. if t then b ∷ [] else b ∷ take_through line_feed bs) (not_feed b (before 0 (omega arith))))

take-on : (p k : ℕ) (xs : List ℕ) → take (p + k) xs ≡ take p xs ++ take k (drop p xs)
take-on zero k xs = let on : zero + k ≡ k = omega arith in ap (λ n. take n xs) on
take-on (suc p) k [] = let on : suc p + k ≡ suc (p + k) = omega arith in ap (λ n. take n []) on ∙ sym (take_all k [] (omega arith))
take-on (suc p) k (x ∷ xs) = let on : suc p + k ≡ suc (p + k) = omega arith in ap (λ n. take n (x ∷ xs)) on ∙ ap (λ l. x ∷ l) (take-on p k xs)

-- the lines up to a place, where a line feed stands from there on, and where none does
pub lines_to-cut : (xs : List ℕ) (place i : ℕ) → i < length (drop place xs) → ((k : ℕ) → k < i → get_or (drop place xs) k 0 ≢ line_feed) →
    get_or (drop place xs) i 0 ≡ line_feed →
    take (place + suc i) xs ≡ lines_to place xs
lines_to-cut xs place i less before here = take-on place (suc i) xs ∙ ap (λ l. take place xs ++ l) (through-cut (drop place xs) i less before here)

pub lines_to-whole : (xs : List ℕ) (place : ℕ) → ((k : ℕ) → k < length (drop place xs) → get_or (drop place xs) k 0 ≢ line_feed) → xs ≡ lines_to place xs
lines_to-whole xs place before = sym (take-append-drop place xs) ∙ ap (λ l. take place xs ++ l) (through-whole (drop place xs) before)

first_none : (xs ys : List ℕ) → xs ++ ys ≡ [] → xs ≡ []
first_none [] ys e = refl
first_none (x ∷ xs) ys e = cc e

other_none : (xs ys : List ℕ) → xs ++ ys ≡ [] → ys ≡ []
other_none [] ys e = e
other_none (x ∷ xs) ys e = cc e

-- there are some, but of no bytes
pub lines_to-none : (place : ℕ) (xs : List ℕ) → lines_to place xs ≡ [] → xs ≡ []
lines_to-none place xs none =
    let left : drop place xs ≡ [] =
    take_through-nil line_feed (drop place xs) (ap length (other_none (take place xs) (take_through line_feed (drop place xs)) none)) in
    sym (take-append-drop place xs) ∙ (ap (λ l. l ++ drop place xs) (first_none (take place xs) (take_through line_feed (drop place xs)) none) ∙ left)

pub not_utf8 : (bs : List ℕ) → ¬ (IsUtf8 bs) → is_utf8 bs ≡ false
not_utf8 bs n = by (is_utf8 bs) refl
  where
    by : (t : Bool) → is_utf8 bs ≡ t → is_utf8 bs ≡ false
    by true e = absurd (n (IsUtf8-from_is_utf8 bs e))
    by false e = e

pub take_length : {A : Type 0} (xs : List A) (n : ℕ) → length xs ≡ n → take n xs ≡ xs
take_length [] zero e = refl
take_length [] (suc n) e = refl
take_length (x ∷ xs) zero e = cc
take_length (x ∷ xs) (suc n) e = let e' : length xs ≡ n = omega (arith, e) in ap (λ ys. x ∷ ys) (take_length xs n e')

-- what parsing answers, as the value of a line
pub value_of_text : (line : List ℕ) (o : Option Val) → IsUtf8 line → result_ok (parsed line) ≡ o → value_in line ≡ o
value_of_text line o u e = ap (λ t. if t then result_ok (parsed line) else None) (is_utf8-from_IsUtf8 line u) ∙ e

pub no_value : (line : List ℕ) → ¬ (IsUtf8 line) → value_in line ≡ None
no_value line n = ap (λ t. if t then result_ok (parsed line) else None) (not_utf8 line n)
