-- Modifiers of one operator with one path, whose templates are filled to short values.
use Rattle.std.specs.Prelude.{nat_lt, option_and_then, if◌then◌else◌, sum_by, max}
use Rattle.std.proofs.Common.{◌≡◌, ℕ, suc, ◌*◌, ◌≤◌, Bool, true, false, length, List, [], ◌∷◌, None, Some, Ok, Err, refl, ap, sym, ◌∙◌, arith}
use Rattle.std.proofs.lemmas.Bool.Decides.{nat_tests}
use Rattle.std.proofs.lemmas.List.Sums.{sum_by-cons}
use Rattle.value_model.specs.Val.{Val, int, object, no_fields, field}
use Rattle.value_model.specs.Depth.{depth}
use Rattle.value_model.specs.Size.{size, escape_size, has_short_escape, is_special}
use Rattle.ejson_value.specs.Results.{made, with_both}
use Rattle.selector_match.specs.Reading.{begins_with_dollar}
use Rattle.modifier_apply.specs.Change.{Modification}
use Rattle.modifier_apply.specs.Reading.{one_operator, reading}
use Rattle.program_steps.specs.declared.fault.FillFault.TheVariants as fault
use Rattle.program_steps.specs.Template.{placeholder_in, in_place, filling, within_limits, limited, filled, max_depth, max_size, FillsShort}
use Rattle.program_model.specs.Run.{if_ok}
use Rattle.program_run.specs.OneOperator.{max_name}

-- ---- how large the text of a name is

escape_least : (b : ℕ) → escape_size b ≤ 6
escape_least b = by (has_short_escape b) (nat_lt b 32)
  where
    by : (short control : Bool) → (if short then 2 else (if control then 6 else 1)) ≤ 6
    by true control = omega arith
    by false true = omega arith
    by false false = omega arith

escapes_least : (s : List ℕ) → sum_by escape_size s ≤ 6 * length s
escapes_least [] = omega arith
escapes_least (b ∷ s) = omega (arith, sum_by-cons escape_size b s, escape_least b, escapes_least s)

special_least : (b : Bool) → (if b then 12 else 0) ≤ 12
special_least true = omega arith
special_least false = omega arith

within : (v : Val) → nat_lt max_depth (depth v) ≡ false → nat_lt max_size (size v) ≡ false → within_limits v ≡ Ok v
within v flat short =
    ap (λ b. if b then Err fault.TooDeep else (if nat_lt max_size (size v) then Err fault.TooLarge else Ok v)) flat
    ∙ ap (λ b. if b then Err fault.TooLarge else Ok v) short

-- ---- a modifier of one operator with one path

no_operator : (written : List ℕ) (v : Val) → begins_with_dollar written ≡ false → placeholder_in (field written v no_fields) ≡ None
no_operator [] (int z) plain = refl
no_operator (b ∷ bs) (int z) plain = grind (arith, nat_tests, plain)
no_operator written v plain = refl

filled_one : (params : List Val) (ids : List (List ℕ)) (n written : List ℕ) (template v : Val) →
    length n ≤ max_name → length written ≤ max_name → begins_with_dollar written ≡ false → FillsShort params template v →
    filled params ids (one_operator n written template) ≡ Ok (one_operator n written v)
filled_one params ids n written template v n_short written_short plain is =
    ap limited
    (ap (λ r. made object (with_both (λ w ws. field n w ws) r (Ok no_fields)))
    (ap (λ p. in_place params ids p (made object (with_both (λ w ws. field written w ws) (filling params ids template) (Ok no_fields)))) (no_operator written template plain)
    ∙ ap (λ r. made object (with_both (λ w ws. field written w ws) r (Ok no_fields))) (is.fills ids)))
    ∙ within (one_operator n written v)
    (ap (λ d. nat_lt max_depth (suc (max (suc (max d 0)) 0))) is.value.flat)
    (grind (arith, nat_tests, is.value.short, escapes_least n, escapes_least written, n_short, written_short, special_least (is_special (n ∷ [])), special_least (is_special (written ∷ []))))

pub modifier_by_one : (params : List Val) (ids : List (List ℕ)) (n written : List ℕ) (template v : Val) (m : Modification) →
    length n ≤ max_name → length written ≤ max_name → begins_with_dollar written ≡ false → FillsShort params template v →
    reading (one_operator n written v) ≡ Ok m →
    Some m ≡ option_and_then (λ w. if_ok (reading w)) (if_ok (filled params ids (one_operator n written template)))
modifier_by_one params ids n written template v m n_short written_short plain is read =
    sym (ap (λ r. option_and_then (λ w. if_ok (reading w)) (if_ok r)) (filled_one params ids n written template v n_short written_short plain is) ∙ ap if_ok read)
