-- An operation that is refused has a code: no definition of what it makes answers want of memory.
use Rattle.std.specs.Prelude.{◌≡◌, None, Ok, Err}
use Rattle.modifier_apply.specs.Modified.{refusal_number}
use Rattle.modifier_apply.specs.Modified as apply
use Rattle.collection_store.specs.Outcome.{Outcome, code_of}

-- ---- modifiers

abbrev pub HasNumber : {X : Type 0} → apply.Outcome X → Type 0
HasNumber (Ok x) = Unit {0}
HasNumber (Err e) = refusal_number e ≡ None → ⊥

-- ---- operations

abbrev pub IsCoded : {X : Type 0} → Outcome X → Type 0
IsCoded (Ok x) = Unit {0}
IsCoded (Err e) = code_of e ≡ None → ⊥
