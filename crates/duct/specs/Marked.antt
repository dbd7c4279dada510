-- What passes one way through a ring: texts, and one mark, None, behind the last of them.
use Rattle.std.specs.Prelude.{ℕ, Bool, true, false, List, [], ◌∷◌, Option, Some, None}

-- the texts before the mark
abbrev pub texts_of : List (Option (List ℕ)) → List (List ℕ)
texts_of [] = []
texts_of (None ∷ items) = []
texts_of (Some text ∷ items) = text ∷ texts_of items

-- whether the mark is among them
abbrev pub has_mark : List (Option (List ℕ)) → Bool
has_mark [] = false
has_mark (None ∷ items) = true
has_mark (Some text ∷ items) = has_mark items
