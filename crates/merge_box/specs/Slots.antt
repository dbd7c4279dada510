-- What is kept of documents, each in a slot of its own.
use Rattle.std.specs.Prelude.{◌≡◌, ℕ, List, [], map, Option, Some, None, option_map, unwrap_or, slice_index_or}
use Rattle.map_model.specs.Maps.{at}
use Rattle.merge_model.specs.Kept.{nothing_kept}
use Rattle.ejson_value.specs.declared.key.Key.{Key}
use Rattle.ejson_value.specs.Key.{key_cmp}
use Rattle.kept_document.specs.Held.{KeptDoc}
use Rattle.slab.specs.Slab.{Slab, get}
use Rattle.merge_box.specs.declared.kept.Slot.{Slot}
use Rattle.merge_box.specs.State.{KeptDocs}

-- what is kept of documents, by key, and of each slot the key of the document in it
pub record SlotState : Type 0 where
  pub docs : KeptDocs
  pub keys : List (Option Key)

-- the key of the document in a slot, if there is one
abbrev pub named : List (Option Key) → ℕ → Option Key
named keys slot = slice_index_or keys slot None

-- the same of a slot with a document
abbrev pub key_in : List (Option Key) → ℕ → Key
key_in keys slot = unwrap_or (named keys slot) (record { collection = []; id = [] })

abbrev pub IsNamed : List (Option Key) → ℕ → Type 0
IsNamed keys slot = named keys slot ≡ Some (key_in keys slot)

-- ---- slots, and by key where they are
abbrev pub Places : Type 0
Places = List (Key × ℕ)

abbrev pub slot_key : Option Slot → Option Key
slot_key slot = option_map (λ s. s.key) slot

abbrev pub keys_in : Slab Slot → List (Option Key)
keys_in slots = map slot_key slots.slots

abbrev pub held_at : Slab Slot → ℕ → KeptDoc
held_at slots slot = unwrap_or (option_map (λ s. s.held) (get slots slot)) nothing_kept

abbrev pub docs_in : Places → Slab Slot → KeptDocs
docs_in places slots = map (λ e. (e.0, held_at slots e.1)) places

-- each document is where its key says, and each slot with a document is where the document's key says
pub record IsPlaced (places : Places) (slots : Slab Slot) : Type 0 where
  pub there : (k : Key) (slot : ℕ) → at key_cmp places k ≡ Some slot → slot_key (get slots slot) ≡ Some k
  pub back : (k : Key) (slot : ℕ) → slot_key (get slots slot) ≡ Some k → at key_cmp places k ≡ Some slot
