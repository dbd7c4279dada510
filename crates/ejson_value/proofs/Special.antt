-- Names of special forms.
use Rattle.std.specs.Prelude.{bytes_eq, codes, slice_index, ◌==◌, ◌&&◌, ◌||◌}
use Rattle.std.proofs.Common.{◌≡◌, ℕ, Bool, false, List, [], ◌∷◌, refl, ap}
use Rattle.value_model.specs.Size.{is_name, is_special}

-- names whose first one begins with no `$` are those of no special form
pub begins_plain : (name : List ℕ) (names : List (List ℕ)) → (slice_index name 0 == 36) ≡ false → is_special (name ∷ names) ≡ false
begins_plain [] [] e = refl
begins_plain [] (b ∷ []) e = refl
begins_plain [] (b ∷ c ∷ names) e = refl
begins_plain (x ∷ xs) [] e =
    ap (λ (d : Bool). (d && bytes_eq xs (codes "date")) || (d && bytes_eq xs (codes "binary")) || (d && bytes_eq xs (codes "escape")) || (d && bytes_eq xs (codes "InfNaN"))) e
begins_plain (x ∷ xs) (b ∷ []) e =
    ap (λ (d : Bool). ((d && bytes_eq xs (codes "flags")) && is_name b (codes "$regexp")) || ((d && bytes_eq xs (codes "type")) && is_name b (codes "$value"))) e
begins_plain (x ∷ xs) (b ∷ c ∷ names) e = refl
