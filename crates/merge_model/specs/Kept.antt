-- What a merge box keeps, and how a call changes it: per document who publishes it, and per field the values in the order
-- in which their subscriptions began to publish it.
use Rattle.std.specs.Prelude.{◌≡◌, ℕ, ◌<◌, ◌==◌, Bool, true, false, not, List, [], ◌∷◌, filter, Option, Some, None, is_some, option_and_then}
use Rattle.std.specs.Prelude.{unwrap_or, if◌then◌else◌}
use Rattle.std.specs.List.{AllByRecursion, list_any}
use Rattle.std.specs.declared.cmp.Ordering.{Ordering}
use Rattle.std.specs.Map.{keys_of, lookup}
use Rattle.map_model.specs.Maps.{at, IsSorted, filter_map_entries}
use Rattle.merge_model.specs.Merge.{field}
use Rattle.merge_model.specs.Publishing.{Call, sub_of, says}

-- Claims: each subscription that publishes a field, with its value, the one that began first at the front.
module _ {V : Type 0} where
  -- the subscription's value
  abbrev pub claimed : ℕ → List (ℕ × V) → Option V
  claimed s claims = lookup (λ r. s == r) claims

  -- with v for the subscription s: in its place where it has one, else behind all others
  abbrev pub give : List (ℕ × V) → ℕ → V → List (ℕ × V)
  give [] s v = (s, v) ∷ []
  give (e ∷ claims) s v = if s == e.0 then (e.0, v) ∷ claims else e ∷ give claims s v

  -- with what the subscription s publishes now, where None is nothing
  abbrev pub placed : ℕ → Option V → List (ℕ × V) → List (ℕ × V)
  placed s None claims = filter (λ e. not (s == e.0)) claims
  placed s (Some v) claims = give claims s v

  -- the value that the client sees
  abbrev pub first_value : List (ℕ × V) → Option V
  first_value [] = None
  first_value (e ∷ claims) = Some e.1

-- strictly rising by `time`
abbrev pub Rising : (ℕ → ℕ) → List ℕ → Type 0
Rising time [] = Unit {0}
Rising time (s ∷ ss) = AllByRecursion (λ r. time s < time r) ss × Rising time ss

-- the claims are the values that `value` says, in the order of `time`
pub record IsCell {V : Type 0} (time : ℕ → ℕ) (value : ℕ → Option V) (claims : List (ℕ × V)) : Type 0 where
  pub holds : (s : ℕ) → claimed s claims ≡ value s
  pub rising : Rising time (keys_of claims)

-- what is kept of a document: the subscriptions that publish it, and the claims on each field
pub record Kept (N V : Type 0) : Type 0 where
  pub publishers : List ℕ
  pub fields : List (N × List (ℕ × V))

abbrev pub nothing_kept : {N V : Type 0} → Kept N V
nothing_kept = record { publishers = []; fields = [] }

abbrev pub has : ℕ → List ℕ → Bool
has s publishers = list_any (λ r. s == r) publishers

abbrev pub is_empty : {X : Type 0} → List X → Bool
is_empty [] = true
is_empty (x ∷ xs) = false

-- what a client sees of a document: each field's first value. Where nobody publishes it there is no document
module _ {N V : Type 0} where
  abbrev pub merged_fields : List (N × List (ℕ × V)) → List (N × V)
  merged_fields fields = filter_map_entries (λ f claims. first_value claims) fields

  abbrev pub merged_doc : Kept N V → Option (List (N × V))
  merged_doc e = if is_empty e.publishers then None else Some (merged_fields e.fields)

-- what a client sees of all documents
abbrev pub merged : {K N V : Type 0} → List (K × Kept N V) → List (K × List (N × V))
merged box = filter_map_entries (λ k e. merged_doc e) box

module _ {K N V : Type 0} (R : K → K → Ordering) where
  -- what is kept at a key
  abbrev pub kept_at : List (K × Kept N V) → K → Kept N V
  kept_at box k = unwrap_or (at R box k) nothing_kept

  abbrev pub publishers_at : List (K × Kept N V) → K → List ℕ
  publishers_at box k = (kept_at box k).publishers

-- whether the subscription s publishes the document, after the subscription r has said w of it
abbrev pub there_after : {D : Type 0} → ℕ → Option (Option D) → ℕ → Bool → Bool
there_after r None s was = was
there_after r (Some d) s was = if s == r then is_some d else was

module _ {N V : Type 0} (S : N → N → Ordering) where
  -- the claims on a field of a document
  abbrev pub claims_of : Kept N V → N → List (ℕ × V)
  claims_of e f = unwrap_or (at S e.fields f) []

  -- the claims on the field f, after the subscription r has said w of the document
  abbrev pub claims_after : ℕ → Option (Option (List (N × V))) → N → List (ℕ × V) → List (ℕ × V)
  claims_after r None f claims = claims
  claims_after r (Some d) f claims = placed r (option_and_then (λ doc. at S doc f) d) claims

module _ {K N V : Type 0} (R : K → K → Ordering) (S : N → N → Ordering) where
  abbrev pub claims_at : List (K × Kept N V) → K → N → List (ℕ × V)
  claims_at box k f = claims_of S (kept_at R box k) f

  -- the keys and the names are in order
  pub record IsInOrder (box : List (K × Kept N V)) : Type 0 where
    pub by_key : IsSorted R box
    pub by_name : (k : K) → IsSorted S (kept_at R box k).fields

  -- the box stands for what each subscription shows, and since when
  pub record Stands (shown : ℕ → List (K × List (N × V))) (since : ℕ → K → N → ℕ) (box : List (K × Kept N V)) : Type 0 where
    pub order : IsInOrder box
    pub publishers : (k : K) (s : ℕ) → has s (publishers_at R box k) ≡ is_some (at R (shown s) k)
    pub cells : (k : K) (f : N) → IsCell (λ s. since s k f) (λ s. field R S (shown s) k f) (claims_at box k f)

  -- new is the box old after the call
  pub record IsAfter (call : Call K (List (N × V))) (old new : List (K × Kept N V)) : Type 0 where
    pub publishers : (k : K) (s : ℕ) → has s (publishers_at R new k) ≡ there_after (sub_of call) (says R call k) s (has s (publishers_at R old k))
    pub claims : (k : K) (f : N) → claims_at new k f ≡ claims_after S (sub_of call) (says R call k) f (claims_at old k f)
