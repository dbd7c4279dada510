-- Two maps side by side: each key of either, with what each has there.
use Rattle.std.specs.Prelude.{ℕ, List, [], ◌∷◌, map, Option, Some, None, option_map}
use Rattle.std.specs.Borrow.{Bor}
use Rattle.std.specs.declared.cmp.Ordering.{Ordering}
use Rattle.std.specs.Ordering.{match_ordering}
use Rattle.std.specs.Map.Iter.{deref_pair}
use Rattle.value_model.specs.Val.{Val}
use Rattle.value_model.specs.Order.{text_cmp}
use Rattle.ejson_value.specs.declared.value.Value.{Value}
use Rattle.ejson_value.specs.View.{entries}

-- what two maps have at a key
abbrev pub Both : Type 0 → Type 0 → Type 0
Both X Y = Option X × Option Y

module _ {K X Y : Type 0} (R : K → K → Ordering) where
  -- an entry of the first map beside the entries b of the second, where `others` has the first one's later entries
  abbrev pub entry_beside : K → X → (List (K × Y) → List (K × Both X Y)) → List (K × Y) → List (K × Both X Y)
  entry_beside k x others [] = (k, (Some x, None)) ∷ others []
  entry_beside k x others (e ∷ b) = match_ordering (R k e.0)
      ((k, (Some x, None)) ∷ others (e ∷ b))
      ((k, (Some x, Some e.1)) ∷ others b)
      ((e.0, (None, Some e.1)) ∷ entry_beside k x others b)

  -- each key of two maps, with what each has there
  abbrev pub side_by_side : List (K × X) → List (K × Y) → List (K × Both X Y)
  side_by_side [] b = map (λ e. (e.0, (None, Some e.1))) b
  side_by_side (e ∷ a) b = entry_beside e.0 e.1 (side_by_side a) b

-- what is at a key in either map, if anything is
abbrev pub joined : {X Y : Type 0} → Option X → Option Y → Option (Both X Y)
joined None None = None
joined None (Some y) = Some (None, Some y)
joined (Some x) w = Some (Some x, w)

-- an entry that may be there, with those behind it. Where it is not there, there are none
abbrev pub begun : {E : Type 0} → Option E → List E → List E
begun None rest = []
begun (Some e) rest = e ∷ rest

-- what is left of a walk over the fields that are kept and those of a document: the next one of each, and those behind it
abbrev pub fields_left : {X : Type 0} → Option (Bor (List ℕ) × Bor X) → List (List ℕ × X) → Option (Bor (List ℕ) × Bor Value) → List (List ℕ × Value) →
    List (List ℕ × Both X Val)
fields_left old olds new news = side_by_side text_cmp (begun (option_map deref_pair old) olds) (entries (begun (option_map deref_pair new) news))

-- what is left of a walk over the fields of two documents
abbrev pub pairs_left : Option (Bor (List ℕ) × Bor Value) → List (List ℕ × Value) → Option (Bor (List ℕ) × Bor Value) → List (List ℕ × Value) →
    List (List ℕ × Both Val Val)
pairs_left old olds new news = side_by_side text_cmp (entries (begun (option_map deref_pair old) olds)) (entries (begun (option_map deref_pair new) news))
