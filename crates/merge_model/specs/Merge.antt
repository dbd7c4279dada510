-- The merge of what several subscriptions show: for each field of a document the value of the subscription that has
-- published it longest without a break. (Meteor's docs on publish and subscribe: a document that several subscriptions
-- publish is merged by top-level field. The precedence is this project's own rule.)
use Rattle.std.specs.Prelude.{◌≡◌, ℕ, ◌≢◌, ◌<◌, ◌↔◌, Bool, List, [], ◌∷◌, length, Option, Some, IsSome, option_and_then, if◌then◌else◌}
use Rattle.std.specs.declared.cmp.Ordering.{Ordering}
use Rattle.map_model.specs.Maps.{at, IsSorted}
use Rattle.map_model.specs.Differences.{AreDocs}

-- since when a fact has held that holds now: the number of the last event before which it did not hold.
-- The newest event stands first, and the oldest has number 1; 0 where the fact has always held
abbrev pub since : {C : Type 0} → (List C → Bool) → List C → ℕ
since holds [] = 0
since holds (event ∷ past) = if holds past then since holds past else length (event ∷ past)

module _ {K N V : Type 0} (R : K → K → Ordering) (S : N → N → Ordering) where
  -- the value of a field of a document
  abbrev pub field : List (K × List (N × V)) → K → N → Option V
  field m k f = option_and_then (λ d. at S d f) (at R m k)

  -- v is the field's value at the subscription that has published it longest
  pub record IsFirst (shown : ℕ → List (K × List (N × V))) (since : ℕ → K → N → ℕ) (k : K) (f : N) (v : V) : Type 0 where
    pub sub : ℕ
    pub has : field (shown sub) k f ≡ Some v
    pub longest : (other : ℕ) → other ≢ sub → IsSome (field (shown other) k f) → since sub k f < since other k f

  -- m is the merge of what each subscription shows: it has the documents that some subscription shows, and each field of
  -- a document has the value of the subscription that has published it longest
  pub record IsMerge (shown : ℕ → List (K × List (N × V))) (since : ℕ → K → N → ℕ) (m : List (K × List (N × V))) : Type 0 where
    pub by_key : IsSorted R m
    pub by_name : AreDocs S R m
    pub keys : (k : K) → IsSome (at R m k) ↔ ((s : ℕ) × IsSome (at R (shown s) k))
    pub fields : (k : K) (f : N) (v : V) → (field m k f ≡ Some v) ↔ IsFirst shown since k f v
