-- Where a field stands among those of a document, and where a new one would.
use Rattle.std.specs.Prelude.{◌≡◌, ℕ, ◌≤◌, List, Option, length, take, drop, slice_get}
use Rattle.std.specs.List.{AllByRecursion}
use Rattle.std.specs.declared.cmp.Ordering.TheVariants.{Less}
use Rattle.std.specs.Map.{keys_of}
use Rattle.map_model.specs.Orders.{IsAbove}
use Rattle.value_model.specs.Val.{Entries}
use Rattle.value_model.specs.Order.{text_cmp}

-- the name of the field at this place
abbrev pub name_at : Entries → ℕ → Option (List ℕ)
name_at es place = slice_get (keys_of es) place

-- each of the names is behind this one
abbrev pub IsBelow : List ℕ → List (List ℕ) → Type 0
IsBelow name names = AllByRecursion (λ q. text_cmp name q ≡ Less) names

-- the name is not in the document and would stand at this place
pub record IsGapFor (es : Entries) (name : List ℕ) (place : ℕ) : Type 0 where
  pub within : place ≤ length es
  pub above : IsAbove text_cmp name (take place (keys_of es))
  pub below : IsBelow name (drop place (keys_of es))
