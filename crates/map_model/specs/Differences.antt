-- The difference of two maps of documents, as one data message per key. A document is a map from field names to values.
-- The messages are those of DDP's data: `added` with all fields, `changed` with fields and cleared names, `removed`
-- (Meteor's DDP.md, "Managing data").
use Rattle.std.specs.Prelude.{◌≡◌, Bool, false, not, List, [], ◌∷◌, filter, Option, Some, None, is_some, IfSome}
use Rattle.std.specs.declared.cmp.Ordering.{Ordering}
use Rattle.std.specs.Map.{keys_of, remove_entry}
use Rattle.std.specs.BTreeMap.{is_at, insert_entry}
use Rattle.map_model.specs.Maps.{at, set, IsSorted, union, collect}

-- one message about one document
pub data Step (N V : Type 0) : Type 0 where
  added : List (N × V) → Step N V
  changed : List (N × V) → List N → Step N V
  removed : Step N V

module _ {N V : Type 0} (S : N → N → Ordering) where
  -- the document without these names
  abbrev pub without : List (N × V) → List N → List (N × V)
  without a [] = a
  without a (n ∷ names) = remove_entry (is_at (S n)) (without a names)

  -- the document with these fields; the first one counts where a name stands twice
  abbrev pub with_fields : List (N × V) → List (N × V) → List (N × V)
  with_fields a [] = a
  with_fields a (e ∷ fields) = insert_entry S (with_fields a fields) e.0 e.1

  -- what a reader of the messages has of the document after one more. A `changed` of an absent document says nothing
  abbrev pub taken : Option (List (N × V)) → Step N V → Option (List (N × V))
  taken old (added d) = Some d
  taken None (changed fields names) = None
  taken (Some a) (changed fields names) = Some (with_fields (without a names) fields)
  taken old removed = None

  -- the same where there may be no message
  abbrev pub step_at : Option (Step N V) → Option (List (N × V)) → Option (List (N × V))
  step_at None old = old
  step_at (Some s) old = taken old s

  -- every document of the map is a map itself
  abbrev pub AreDocs : {K : Type 0} → (K → K → Ordering) → List (K × List (N × V)) → Type 0
  AreDocs {K} R m = (k : K) → IfSome (at R m k) (IsSorted S)

  -- the map after the messages, one after another
  abbrev pub all_taken : {K : Type 0} → (K → K → Ordering) → List (K × List (N × V)) → List (K × Step N V) → List (K × List (N × V))
  all_taken R a [] = a
  all_taken R a (m ∷ ms) = all_taken R (set R a m.0 (taken (at R a m.0) m.1)) ms

module _ {N V : Type 0} (S : N → N → Ordering) (same : V → V → Bool) where
  -- whether the value v is what stands there
  abbrev pub is_there : V → Option V → Bool
  is_there v None = false
  is_there v (Some w) = same w v

  -- the fields of b that a does not have, or has otherwise
  abbrev pub new_fields : List (N × V) → List (N × V) → List (N × V)
  new_fields a b = filter (λ e. not (is_there e.1 (at S a e.0))) b

  -- the names of a that b does not have
  abbrev pub cleared : List (N × V) → List (N × V) → List N
  cleared a b = keys_of (filter (λ e. not (is_some (at S b e.0))) a)

  -- no message where there is nothing to say
  abbrev pub changed_unless_same : List (N × V) → List N → Option (Step N V)
  changed_unless_same [] [] = None
  changed_unless_same (e ∷ fields) names = Some (changed (e ∷ fields) names)
  changed_unless_same [] (n ∷ names) = Some (changed [] (n ∷ names))

  -- the message that leads from the one document to the other; None is no document
  abbrev pub between : Option (List (N × V)) → Option (List (N × V)) → Option (Step N V)
  between None None = None
  between None (Some b) = Some (added b)
  between (Some a) None = Some removed
  between (Some a) (Some b) = changed_unless_same (new_fields a b) (cleared a b)

  -- one message per key that differs, by key
  abbrev pub diff : {K : Type 0} → (K → K → Ordering) → List (K × List (N × V)) → List (K × List (N × V)) → List (K × Step N V)
  diff R a b = collect (λ k. between (at R a k) (at R b k)) (keys_of (union R a b))

  -- the messages are the difference of a and b: by key, and at each key the one that leads from a's document to b's
  pub record IsDiff {K : Type 0} (R : K → K → Ordering) (a b : List (K × List (N × V))) (messages : List (K × Step N V)) : Type 0 where
    pub by_key : IsSorted R messages
    pub each : (k : K) → at R messages k ≡ between (at R a k) (at R b k)
