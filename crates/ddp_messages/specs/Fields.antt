-- The fields of a message: a JSON object's members, by key.
use Rattle.std.specs.Prelude.{◌≡◌, ℕ, List, Option, Some, None, option_map, option_and_then, Result, Ok, Err, codes}
use Rattle.serde_json.specs.Data.{Data}
use Rattle.serde_json.specs.Find.{get, as_str}
use Rattle.ddp_messages.specs.declared.fault.FieldFault.{FieldFault}
use Rattle.ddp_messages.specs.declared.fault.FieldFault.TheVariants.{Malformed, Memory}

-- a field that must be there
abbrev pub needed : {A : Type 0} → (Data → Option A) → List ℕ → Data → Option A
needed form key d = option_and_then form (get key d)

-- a form, where a tree is there
abbrev pub may_be : {A : Type 0} → (Data → Option A) → Option Data → Option (Option A)
may_be form None = Some None
may_be form (Some d) = option_map Some (form d)

-- a field that may be missing; one that is there, be it null, must have its form
abbrev pub optional : {A : Type 0} → (Data → Option A) → List ℕ → Data → Option (Option A)
optional form key d = may_be form (get key d)

abbrev pub or_default : {A : Type 0} → A → (Data → Option A) → Option Data → Option A
or_default a form None = Some a
or_default a form (Some d) = form d

-- a field that counts as this where it is missing
abbrev pub defaulted : {A : Type 0} → A → (Data → Option A) → List ℕ → Data → Option A
defaulted a form key d = or_default a form (get key d)

-- the name of the message, the text at `msg`
abbrev pub name_of : Data → Option (List ℕ)
name_of d = needed as_str (codes "msg") d

-- ---- as facts

-- the object is a message of this name
abbrev pub IsNamed : List ℕ → Data → Type 0
IsNamed name d = name_of d ≡ Some name

-- the object has this field, of this form, and it stands for a
abbrev pub Has : {A : Type 0} → List ℕ → (Data → Option A) → Data → A → Type 0
Has key form d a = needed form key d ≡ Some a

-- the same, where the field may be missing
abbrev pub MayHave : {A : Type 0} → List ℕ → (Data → Option A) → Data → Option A → Type 0
MayHave key form d o = optional form key d ≡ Some o

-- the same, where a missing field stands for the default
abbrev pub HasOr : {A : Type 0} → A → List ℕ → (Data → Option A) → Data → A → Type 0
HasOr default key form d a = defaulted default form key d ≡ Some a

-- ---- answers made of answers

abbrev pub map₂ : {A B R : Type 0} → (A → B → R) → Option A → Option B → Option R
map₂ f None b = None
map₂ f (Some a) b = option_map (f a) b

abbrev pub map₃ : {A B C R : Type 0} → (A → B → C → R) → Option A → Option B → Option C → Option R
map₃ f None b c = None
map₃ f (Some a) b c = map₂ (f a) b c

abbrev pub map₄ : {A B C D R : Type 0} → (A → B → C → D → R) → Option A → Option B → Option C → Option D → Option R
map₄ f None b c d = None
map₄ f (Some a) b c d = map₃ (f a) b c d

-- The call answers this, want of memory aside.
abbrev pub Gives : {A B : Type 0} → (A → B) → Result A FieldFault → Option B → Type 0
Gives f (Ok a) answer = answer ≡ Some (f a)
Gives f (Err Malformed) answer = answer ≡ None
Gives f (Err Memory) answer = Unit {0}
