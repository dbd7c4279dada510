-- What changes of one document.
use Rattle.std.specs.Prelude.{◌≡◌, ℕ, true, List, Option, IsSome}
use Rattle.map_model.specs.Maps.{at, union}
use Rattle.value_model.specs.Val.{Val, Entries}
use Rattle.value_model.specs.Order.{text_cmp}
use Rattle.kept_document.specs.declared.held.Change.{Change}
use Rattle.kept_document.specs.declared.held.Change.TheVariants.{Whole, Part}
use Rattle.kept_document.specs.Held.{KeptDoc, is_shared, IsHeld, IsKeptAfter}

-- what the change holds
abbrev pub held_in : Change → KeptDoc
held_in (Whole e) = e
held_in (Part e) = e

-- the fields after a change. That in part leaves those that it does not name
abbrev pub fields_after : List (List ℕ × List (ℕ × Val)) → Change → List (List ℕ × List (ℕ × Val))
fields_after fields (Whole e) = e.fields
fields_after fields (Part e) = union text_cmp e.fields fields

-- what is kept after a change
abbrev pub with_change : KeptDoc → Change → KeptDoc
with_change old change = record { publishers = (held_in change).publishers; fields = fields_after old.fields change }

-- what several subscriptions publish can be changed in part
abbrev pub IsFor : KeptDoc → Change → Type 0
IsFor old (Whole e) = Unit {0}
IsFor old (Part e) = is_shared old.publishers ≡ true

-- the change is what the subscription's document, or none, makes of what is kept
pub record IsChange (sub : ℕ) (doc : Option Entries) (old : KeptDoc) (change : Change) : Type 0 where
  pub was : IsHeld old
  pub form : IsFor old change
  pub after : IsKeptAfter sub doc old (with_change old change)
  pub held : IsHeld (with_change old change)

-- there is a place for each field of a change in part
pub record HasFields (old part : KeptDoc) : Type 0 where
  pub shared : is_shared old.publishers ≡ true
  pub names : (f : List ℕ) → IsSome (at text_cmp part.fields f) → IsSome (at text_cmp old.fields f)

-- the change can be taken over with no memory
abbrev pub HasPlaces : KeptDoc → Change → Type 0
HasPlaces old (Whole e) = Unit {0}
HasPlaces old (Part e) = HasFields old e
