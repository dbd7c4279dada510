-- The additions of items.
use Rattle.std.proofs.Common.{◌≡◌, Option, Some, None, Bor, refl}
use Rattle.std.specs.Prelude.{Result, Ok, Err, IfOk, is_some, option_copied}
use Rattle.session_laws.specs.session_model.Items.{Item}
use Rattle.session_core.specs.declared.adding.Addition.{Addition}
use Rattle.session_core.specs.declared.asked.Asked.{Asked}
use Rattle.session_core.specs.Asked.{Adds}

-- what is added for a message is what is added for the item
pub if_adds : {E : Type 0} (asked : Asked) (r : Result Addition E) (P : Addition → Type 0) (i : Item) → ((a : Addition) → P a → Adds asked i a) → IfOk r P → IfOk r (λ a. Adds asked i a)
if_adds asked (Ok a) P i k h = k a h
if_adds asked (Err e) P i k h = tt

pub some_copied : {A : Type 0} (o : Option (Bor A)) → is_some (option_copied o) ≡ is_some o
some_copied None = refl
some_copied (Some x) = refl
