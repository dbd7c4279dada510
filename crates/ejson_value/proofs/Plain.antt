-- Texts whose bytes stand in JSON as they are.
use Rattle.std.specs.Prelude.{◌==◌, sum_by, nat_lt, if◌then◌else◌}
use Rattle.std.specs.List.{list_all}
use Rattle.std.proofs.Common.{◌≡◌, ℕ, ◌+◌, ◌<◌, Bool, true, false, List, [], ◌∷◌, length, refl, ap, arith}
use Rattle.std.proofs.lemmas.Bool.{lt-ltb, and_parts, eqb-true}
use Rattle.std.proofs.lemmas.List.Sums.{sum_by-cons}
use Rattle.value_model.specs.Size.{has_short_escape, escape_size, text_size}

-- a control character takes two bytes or six
pub control_escaped : (b : ℕ) → b < 32 → (escape_size b == 1) ≡ false
control_escaped b low =
    elim (has_short_escape b)
    as (λ (s : Bool). ((if s then 2 else (if nat_lt b 32 then 6 else 1)) == 1) ≡ false) [
      | true ↦ refl
      | false ↦ ap (λ (t : Bool). (if t then 6 else 1) == 1) (lt-ltb b 32 low)
    ]

plain_sum : (bs : List ℕ) → list_all (λ b. escape_size b == 1) bs ≡ true → sum_by escape_size bs ≡ length bs
plain_sum [] e = refl
plain_sum (b ∷ bs) e =
    let parts = and_parts (escape_size b == 1) (list_all (λ b. escape_size b == 1) bs) e in
    omega (arith, sum_by-cons escape_size b bs, eqb-true (escape_size b) 1 parts.0, plain_sum bs parts.1)

pub plain_size : (bs : List ℕ) → list_all (λ b. escape_size b == 1) bs ≡ true → text_size bs ≡ 2 + length bs
plain_size bs e = omega (arith, plain_sum bs e)
