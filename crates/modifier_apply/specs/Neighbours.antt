-- Paths that stand in order, part by part.
use Rattle.std.specs.Prelude.{ℕ, Bool, false, List, [], ◌∷◌, ◌||◌}
use Rattle.std.specs.declared.cmp.Ordering.{Ordering}
use Rattle.std.specs.Cmp.Lexicographic.{slice_cmp}
use Rattle.value_model.specs.Order.{text_cmp}
use Rattle.modifier_apply.specs.Modified.{is_prefix}

abbrev pub parts_cmp : List (List ℕ) → List (List ℕ) → Ordering
parts_cmp a b = slice_cmp text_cmp a b

abbrev pub begins_first : List (List ℕ) → List (List (List ℕ)) → Bool
begins_first path [] = false
begins_first path (next ∷ others) = is_prefix path next

-- a path begins the one right behind it
abbrev pub begins_next : List (List (List ℕ)) → Bool
begins_next [] = false
begins_next (path ∷ paths) = begins_first path paths || begins_next paths
