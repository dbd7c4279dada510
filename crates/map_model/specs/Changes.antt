-- Lists of changes that lead from one map to another.
use Rattle.std.specs.Prelude.{◌≡◌, cond, List, [], ◌∷◌, Option, Some, None}
use Rattle.std.specs.Option.{option_or}
use Rattle.std.specs.declared.cmp.Ordering.{Ordering}
use Rattle.std.specs.Ordering.{eq_by_cmp}
use Rattle.map_model.specs.Maps.{at, set}

-- what stood at a key, and what stands there afterwards; None is no value
pub record Change (K X : Type 0) : Type 0 where
  pub key : K
  pub before : Option X
  pub after : Option X

module _ {K X : Type 0} (R : K → K → Ordering) where
  -- the map after the changes, one after another: each puts its `after` at its key, all else staying
  abbrev pub changed : List (K × X) → List (Change K X) → List (K × X)
  changed a [] = a
  changed a (c ∷ cs) = changed (set R a c.key c.after) cs

  -- taken in order from a, each change's `before` is what stands at its key
  abbrev pub Fit : List (K × X) → List (Change K X) → Type 0
  Fit a [] = Unit {0}
  Fit a (c ∷ cs) = (at R a c.key ≡ c.before) × Fit (set R a c.key c.after) cs

  -- the changes lead from a to b. A key may stand more than once
  pub record Leads (changes : List (Change K X)) (a b : List (K × X)) : Type 0 where
    pub fit : Fit a changes
    pub ends : changed a changes ≡ b

  -- what the last change at the key leaves there; None where no change is at the key
  abbrev pub last_at : K → List (Change K X) → Option (Option X)
  last_at q [] = None
  last_at q (c ∷ cs) = option_or (last_at q cs) (cond (eq_by_cmp R q c.key) (Some c.after) None)
