use Rattle.std.proofs.Common.{◌≡◌, ℕ, ◌+◌, count_by, ◌==◌, ◌&&◌, Bool, true, nat_lt, nat_le, ap, sym, ◌∙◌, arith}
use Rattle.std.proofs.lemmas.List.Splits.{length-slice_split}
use Rattle.std.proofs.lemmas.Bool.Decides.{nat_tests}
use Rattle.ejson_value.proofs.path.writes_path.Goals as goal

few : (filled : Bool) (dots n : ℕ) → filled ≡ true → n ≡ dots + 1 → nat_lt dots 32 ≡ (nat_lt 0 n && nat_le n 32 && filled)
few filled dots n f e = grind (arith, nat_tests, f, e)

pub returns-then-has_filled_parts : goal.returns-then-has_filled_parts
returns-then-has_filled_parts c =
    ap (λ n. nat_lt n 32) c.count_dots.ensures ∙ few _ (count_by (λ b. b == 46) c.args.text.now) _ (sym c.has_filled_parts.ensures ∙ c.if-has_filled_parts.true) (length-slice_split (λ b. b == 46) c.args.text.now)
