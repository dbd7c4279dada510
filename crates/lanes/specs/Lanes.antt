-- A map from names that is kept in lanes: maps of which none has a name of another. Threads visit the values of each lane, and that is as if they
-- were visited one after another.
--     AreApart a b      no name is in both
--     AreLanes a b      two lanes of a map: the names of each rise, and none is in both
--     IsVisit P a b name r      what a visit to the value of a name, if one is there, makes of a map
--     IsWritten a name w b      what a value that is written in the place of one makes of a map
--     EachTold Tells names a b flag      those of these names that are there are told, one after another; whether there was anything to tell
--     AreLed Who Leads steps a b      values of some are led on, one after another
--     AreTold Tells Leads names a b r      those of these names are told; where memory runs out, some of them were led on
use Rattle.std.specs.Prelude.{◌≡◌, ◌⊎◌, ◌||◌, ℕ, List, [], ◌∷◌, Bool, false, Option, None, Some, Result, Ok, Err}
use Rattle.std.specs.BTreeMap.{insert_entry}
use Rattle.map_model.specs.Maps.{at, IsSorted}
use Rattle.value_model.specs.Order.{text_cmp}

-- values by name
abbrev pub Named : Type 0 → Type 0
Named X = List (List ℕ × X)

-- no name is in both
abbrev pub AreApart : {X : Type 0} → Named X → Named X → Type 0
AreApart a b = (name : List ℕ) → (at text_cmp a name ≡ None) ⊎ (at text_cmp b name ≡ None)

-- two lanes: the names of each rise, and none is in both
pub record AreLanes {X : Type 0} (a b : Named X) : Type 0 where
  pub one : IsSorted text_cmp a
  pub other : IsSorted text_cmp b
  pub apart : AreApart a b

-- ---- the value of a name, if one is there

abbrev pub VisitBy : {X R : Type 0} → Option X → (X → X → R → Type 0) → R → Named X → Named X → List ℕ → R → Type 0
VisitBy None P none a b name r = (b ≡ a) × (r ≡ none)
VisitBy {X} (Some old) P none a b name r = (new : X) × (b ≡ insert_entry text_cmp a name new) × P old new r

-- P of the value before and after and the answer; another answer where nobody has the name
abbrev pub IsVisit : {X R : Type 0} → (X → X → R → Type 0) → R → Named X → Named X → List ℕ → R → Type 0
IsVisit P none a b name r = VisitBy (at text_cmp a name) P none a b name r

-- w stands in the place of the value of a name, if one is there
abbrev pub IsWritten : {X : Type 0} → Named X → List ℕ → X → Named X → Type 0
IsWritten a name w b = IsVisit {R = Unit {0}} (λ old new r. new ≡ w) tt a b name tt

-- ---- those of some names, one after another

abbrev pub EachTold : {X : Type 0} → (X → X → Bool → Type 0) → List (List ℕ) → Named X → Named X → Bool → Type 0
EachTold Tells [] a b flag = (b ≡ a) × (flag ≡ false)
EachTold {X} Tells (name ∷ names) a b flag =
    (mid : Named X) × (now : Bool) × (rest : Bool) × IsVisit Tells false a mid name now × EachTold Tells names mid b rest × (flag ≡ (now || rest))

-- who is among these
abbrev pub IsAmong : List (List ℕ) → List ℕ → Type 0
IsAmong [] name = ⊥
IsAmong (q ∷ names) name = (name ≡ q) ⊎ IsAmong names name

-- values of some who are there are led on, to these
abbrev pub AreLed : {X : Type 0} → (List ℕ → Type 0) → (X → X → Type 0) → Named X → Named X → Named X → Type 0
AreLed Who Leads [] a b = b ≡ a
AreLed {X} Who Leads (step ∷ steps) a b = (old : X) × (at text_cmp a step.0 ≡ Some old) × Leads old step.1 × AreLed Who Leads steps
    (insert_entry text_cmp a step.0 step.1) b × Who step.0

-- those of these names are told; where memory runs out, some of them were led on
abbrev pub AreTold : {X E : Type 0} → (X → X → Bool → Type 0) → (X → X → Type 0) → List (List ℕ) → Named X → Named X → Result Bool E → Type 0
AreTold Tells Leads names a b (Ok flag) = EachTold Tells names a b flag
AreTold {X} Tells Leads names a b (Err e) = (steps : Named X) × AreLed (IsAmong names) Leads steps a b

-- the same of one
abbrev pub Hears : {X E : Type 0} → (X → X → Bool → Type 0) → (X → X → Type 0) → X → X → Result Bool E → Type 0
Hears Tells Leads x y (Ok flag) = Tells x y flag
Hears Tells Leads x y (Err e) = Leads x y

-- whether any was told, unless memory ran out
abbrev pub either : {E : Type 0} → Result Bool E → Result Bool E → Result Bool E
either (Err e) r = Err e
either (Ok f) (Err e) = Err e
either (Ok f) (Ok g) = Ok (f || g)
