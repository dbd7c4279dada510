-- Parts of paths by reference, as the paths that they are, and paths in order.
use Rattle.std.specs.Prelude.{◌≡◌, ℕ, Bool, true, false, List, [], ◌∷◌, map, drop, length, ◌<◌, Option, None, Some}
use Rattle.std.specs.Borrow.{Bor}
use Rattle.std.specs.List.{AllByRecursion}
use Rattle.std.specs.Ordering.{is_lt, is_le}
use Rattle.value_model.specs.Val.{Val, Entries}
use Rattle.value_model.specs.Doc.{put}
use Rattle.value_model.specs.Order.{text_cmp}
use Rattle.app_model.specs.Fields.{path_cmp, SameTests}
use Rattle.app_model.specs.declared.publication.Projection.{Projection}
use Rattle.app_model.specs.declared.publication.Projection.TheVariants as projection
use Rattle.publication.specs.Projected.{APath}

abbrev pub paths_in : List (Bor (List (List ℕ))) → List APath
paths_in ps = map (λ (p : Bor (List (List ℕ))). p.now) ps

-- what the paths say below a level
abbrev pub below : ℕ → List APath → List APath
below level ps = map (λ (p : APath). drop level p) ps

-- whether the path's first part comes before the name, or is no greater; that of the empty path does, and is
abbrev pub is_before : List ℕ → APath → Bool
is_before name [] = true
is_before name (part ∷ rest) = is_lt (text_cmp part name)

abbrev pub is_upto : List ℕ → APath → Bool
is_upto name [] = true
is_upto name (part ∷ rest) = is_le (text_cmp part name)

-- no path comes before one that it stands behind
abbrev pub IsRising : List APath → Type 0
IsRising [] = Unit {0}
IsRising (p ∷ ps) = AllByRecursion (λ q. is_lt (path_cmp q p) ≡ false) ps × IsRising ps

-- none of the paths is empty
abbrev pub AreLonger : List APath → Type 0
AreLonger ps = AllByRecursion (λ (p : APath). 0 < length p) ps

pub record AreSorted (paths sorted : List APath) : Type 0 where
  pub same : SameTests sorted paths
  pub rising : IsRising sorted

-- the paths of a projection
abbrev pub paths_of : Projection → List APath
paths_of projection.All = []
paths_of (projection.Only paths) = paths
paths_of (projection.Without paths) = paths

-- a document with a field, if there is one
abbrev pub put_some : Entries → List ℕ → Option Val → Entries
put_some es name None = es
put_some es name (Some v) = put es name v
