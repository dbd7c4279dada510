-- What the contracts of `Fences` cite. A method whose writes its client has yet to see is owed the message
-- `updated` ("Remote procedure calls" of Meteor's DDP specification); its fence stays armed until then.
use Rattle.std.specs.Prelude.{ℕ, ◌≤◌, List, Option, Some, None, IsSomeAnd}
use Rattle.std.specs.Ordering.{nat_cmp}
use Rattle.map_model.specs.Maps as map

-- the armed fences: the map from each one's method number to the length of the history at that method's end
abbrev pub Armed : Type 0
Armed = List (ℕ × ℕ)

-- the least cursor has come to the end `at`; with no cursor there is nothing to wait for
abbrev pub IsReached : Option ℕ → ℕ → Type 0
IsReached (Some least) at = at ≤ least
IsReached None at = Unit {0}

-- the fence of method k is armed, and its end is reached
abbrev pub CanFire : Armed → Option ℕ → ℕ → Type 0
CanFire armed least k = IsSomeAnd (map.at nat_cmp armed k) (IsReached least)

-- k is the least number of a fence that can fire
pub record IsLeastToFire (armed : Armed) (least : Option ℕ) (k : ℕ) : Type 0 where
  pub can_fire : CanFire armed least k
  pub is_least : (j : ℕ) → CanFire armed least j → k ≤ j
