use Rattle.std.proofs.Common.{◌≡◌, ℕ, ◌<◌, ◌^◌, ◌==◌, Bool, true, false, not, ◌&&◌, ◌||◌, slice_index, refl, length, cond, nat_lt, Some, None, Result, Ok, Err, ap, sym, ◌∙◌, arith}
use Rattle.std.specs.Result.{OkIff, result_ok}
use Rattle.std.specs.Str.{all_ascii_digits}
use Rattle.std.specs.Str.Parse.{digits_value}
use Rattle.std.proofs.lemmas.Str.Parse.{IsNumeralModel, numerals_by_value, tells_all_ascii_digits, parse_digits}
use Rattle.std.proofs.lemmas.Bool.Decides.{nat_tests}
use Rattle.value_model.specs.Branches.{has_plain_digits}
use Rattle.command_words.proofs.number.number_of.Goals as goal

below : (n : ℕ) → nat_lt 0 n ≡ true → 0 < n
below n e = grind (arith, nat_tests, e)

kept : {E : Type 0} (v n : ℕ) (r : Result ℕ E) (P : Type 0) → OkIff r (P × (v < n)) v → P → result_ok r ≡ cond (nat_lt v n) (Some v) None
kept v n (Ok x) P h p = grind (arith, nat_tests, h.0.1, h.1)
kept v n (Err e) P h p = let no : ¬ (v < n) = λ lt. h (p, lt) in grind (arith, nat_tests, no)

both : (a b d : Bool) → (a && b && d) ≡ true → (a ≡ true) × (b ≡ true)
both true true d e = (refl, refl)
both true false d e = cc
both false b d e = cc

digits : IsNumeralModel (λ ds. all_ascii_digits ds ≡ true) (digits_value 10)
digits = numerals_by_value (λ ds. all_ascii_digits ds ≡ true) tells_all_ascii_digits

pub returns-then-has_plain_digits : goal.returns-then-has_plain_digits
returns-then-has_plain_digits c =
    let word = c.args.word.now in
    let value = digits_value 10 word in
    let plain : has_plain_digits word ≡ true = sym c.has_plain_digits.ensures ∙ c.if-has_plain_digits.true in
    let parts = both (nat_lt 0 (length word)) (all_ascii_digits word) (length word == 1 || not (slice_index word 0 == 48)) plain in
    c.ok.ensures.value
    ∙ (kept value (2 ^ 32) c.parse.result (0 < length word) (parse_digits digits 32 word c.parse.result c.parse.ensures.value.0 parts.1) (below (length word) parts.0)
    ∙ ap (λ b. cond (b && nat_lt value (2 ^ 32)) (Some value) None) (sym plain))
