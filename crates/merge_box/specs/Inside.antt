-- What a box keeps inside: documents with places for what a plan brings, and the changes of the last plan.
use Rattle.std.specs.Prelude.{◌≡◌, ℕ, true, false, List, [], ◌∷◌, map, Option, Some, None, IsSome, if◌then◌else◌}
use Rattle.std.specs.Ordering.{eq_by_cmp}
use Rattle.std.specs.Option.{option_flatten}
use Rattle.map_model.specs.Maps.{at, IsSorted, union, filter_map_entries}
use Rattle.map_model.specs.Differences.{Step, between}
use Rattle.value_model.specs.Val.{Val, Entries}
use Rattle.value_model.specs.Order.{text_cmp}
use Rattle.merge_model.specs.Kept.{has, is_empty, kept_at, merged_doc, publishers_at}
use Rattle.merge_model.specs.Box.{unless_empty}
use Rattle.ejson_value.specs.declared.key.Key.{Key}
use Rattle.ejson_value.specs.Key.{key_cmp}
use Rattle.kept_document.specs.declared.held.Change.{Change}
use Rattle.kept_document.specs.declared.held.Change.TheVariants.{Whole}
use Rattle.kept_document.specs.Held.{KeptDoc, same_value, alone_if, IsAlone, IsHeld, SameDoc, IsDocGrown}
use Rattle.kept_document.specs.Changes.{held_in, with_change, IsChange, HasPlaces}
use Rattle.merge_box.specs.Index.{Lists, is_listed}
use Rattle.merge_box.specs.declared.plan.Planned.{Planned}
use Rattle.merge_box.specs.State.{KeptDocs, Told}
use Rattle.known_texts.specs.Places.{Texts}
use Rattle.merge_box.specs.declared.plan.Word.{Word}
use Rattle.merge_box.specs.Words.{HasTold}
use Rattle.merge_box.specs.Slots.{SlotState, named, key_in, IsNamed}

-- the fields with claims
abbrev pub claimed_fields : List (List ℕ × List (ℕ × Val)) → List (List ℕ × List (ℕ × Val))
claimed_fields fields = filter_map_entries (λ f claims. unless_empty claims) fields

-- the document without its empty places, if somebody publishes it
abbrev pub published_doc : KeptDoc → Option KeptDoc
published_doc e = if is_empty e.publishers then None else Some (record { publishers = e.publishers; fields = claimed_fields e.fields })

-- the documents that somebody publishes
abbrev pub docs_of : KeptDocs → KeptDocs
docs_of kept = filter_map_entries (λ k e. published_doc e) kept

-- what changes of documents, by key
abbrev pub Changes : Type 0
Changes = List (Key × Change)

-- the same of changes by slot
abbrev pub changes_of : List (Option Key) → List Planned → Changes
changes_of keys plan = map (λ p. (key_in keys p.slot, p.change)) plan

-- each is of a slot with a document
abbrev pub AreNamed : List (Option Key) → List Planned → Type 0
AreNamed keys [] = Unit {0}
AreNamed keys (p ∷ plan) = IsNamed keys p.slot × AreNamed keys plan

-- what is kept once the changes are carried out
abbrev pub carried_out : Changes → KeptDocs → KeptDocs
carried_out changes kept = union key_cmp (filter_map_entries (λ k change. Some (with_change (kept_at key_cmp kept k) change)) changes) kept

abbrev pub with_change_if : Option Change → KeptDoc → KeptDoc
with_change_if None e = e
with_change_if (Some change) e = with_change e change

-- the same at a key
abbrev pub after_at : Changes → KeptDocs → Key → KeptDoc
after_at changes kept k = with_change_if (at key_cmp changes k) (kept_at key_cmp kept k)

-- the same is kept of each document, in no fewer places
pub record IsGrown (old new : KeptDocs) : Type 0 where
  pub keys : (k : Key) → IsSome (at key_cmp old k) → IsSome (at key_cmp new k)
  pub docs : (k : Key) → IsDocGrown (kept_at key_cmp old k) (kept_at key_cmp new k)

-- and each document stays in its slot
pub record HasGrown (old new : SlotState) : Type 0 where
  pub docs : IsGrown old.docs new.docs
  pub names : (slot : ℕ) (k : Key) → named old.keys slot ≡ Some k → named new.keys slot ≡ Some k

-- the change of a document can be carried out, with no memory
pub record IsReady (kept : KeptDocs) (k : Key) (change : Change) : Type 0 where
  pub place : IsSome (at key_cmp kept k)
  pub places : HasPlaces (kept_at key_cmp kept k) change
  pub held : IsHeld (with_change (kept_at key_cmp kept k) change)

-- the change of the document at the key is carried out, and every other document stays as it is, in its slot
pub record IsTaken (old new : SlotState) (key : Key) (change : Change) : Type 0 where
  pub same : SameDoc (with_change (kept_at key_cmp old.docs key) change) (kept_at key_cmp new.docs key)
  pub held : IsHeld (kept_at key_cmp new.docs key)
  pub others : (k : Key) → eq_by_cmp key_cmp k key ≡ false → at key_cmp new.docs k ≡ at key_cmp old.docs k
  pub names : (slot : ℕ) (k : Key) → eq_by_cmp key_cmp k key ≡ false → named old.keys slot ≡ Some k → named new.keys slot ≡ Some k

-- each document is kept whole and is listed under its publishers, and the changes can be carried out
pub record IsInside (kept : KeptDocs) (changes : Changes) (lists : Lists) : Type 0 where
  pub by_key : IsSorted key_cmp kept
  pub held : (k : Key) → IsHeld (kept_at key_cmp kept k)
  pub listed : (k : Key) (s : ℕ) → has s (publishers_at key_cmp kept k) ≡ true → is_listed lists s k ≡ true
  pub changes_by_key : IsSorted key_cmp changes
  pub ready : (k : Key) (change : Change) → at key_cmp changes k ≡ Some change → IsReady kept k change
  pub will_list : (k : Key) (change : Change) (s : ℕ) → at key_cmp changes k ≡ Some change → has s (held_in change).publishers ≡ true →
      is_listed lists s k ≡ true

-- what a plan has at a key: the change that the subscription's news of the document make, if there are any
abbrev pub IsPlannedAt : ℕ → Option (Option Entries) → KeptDoc → Option Change → Type 0
IsPlannedAt sub w old None = w ≡ None
IsPlannedAt sub w old (Some change) = (d : Option Entries) × (w ≡ Some d) × IsChange sub d old change × HasPlaces old change

-- what a client is told of a document after a change, if it sees it otherwise then
abbrev pub step_of : KeptDoc → Change → Option (Step (List ℕ) Val)
step_of old change = between text_cmp same_value (merged_doc old) (merged_doc (with_change old change))

-- the same of each document that changes
abbrev pub told_of : KeptDocs → Changes → Told
told_of kept changes = filter_map_entries (λ k change. step_of (kept_at key_cmp kept k) change) changes

-- the change of a document, e, is planned, its key is listed, and what the client is told of it is added
pub record IsNext (sub : ℕ) (texts : Texts) (place : ℕ) (key : Key) (doc : Option Entries) (e : KeptDoc) (lists : Lists) (before after : List Word)
    (change : Change) : Type 0 where
  pub listed : IsSome doc → is_listed lists sub key ≡ true
  pub is : IsChange sub doc e change
  pub alone : IsAlone sub e.publishers → change ≡ Whole (alone_if sub doc)
  pub places : HasPlaces e change
  pub told : HasTold sub texts place key e.publishers (step_of e change) before after

-- the news are of a document
abbrev pub IsPublished : Option (Option Entries) → Type 0
IsPublished w = IsSome (option_flatten w)
