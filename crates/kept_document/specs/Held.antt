-- What contracts see of what is kept of one document.
use Rattle.std.specs.Prelude.{◌≡◌, ℕ, Bool, true, false, not, ◌==◌, List, [], ◌∷◌, ◌++◌, map, filter, Option, Some, None, IsSome, is_some}
use Rattle.std.specs.Prelude.{option_and_then, option_map, refl, if◌then◌else◌}
use Rattle.std.specs.List.{list_any}
use Rattle.std.proofs.lemmas.Map.Entries.{option_filter}
use Rattle.std.specs.declared.cmp.Ordering.{Ordering}
use Rattle.std.specs.BTreeMap.{insert_entry}
use Rattle.map_model.specs.Differences.{is_there}
use Rattle.std.specs.Coded.{Coded, code_by, coded×, coded_list, coded_ℕ}
use Rattle.map_model.specs.Maps.{at, IsSorted, filter_map_entries}
use Rattle.value_model.specs.Val.{Val, Entries}
use Rattle.value_model.specs.Order.{text_cmp}
pub use Rattle.value_model.specs.Order.{same_value}
use Rattle.merge_model.specs.Kept.{Kept, nothing_kept, claimed, placed, has, there_after, claims_of, claims_after}
use Rattle.kept_document.specs.Claims.{claims_code}

-- what is kept of a document
abbrev pub KeptDoc : Type 0
KeptDoc = Kept (List ℕ) Val

abbrev pub kept_code : Coded KeptDoc
kept_code =
    code_by (List ℕ × List (List ℕ × List (ℕ × Val))) (coded× (coded_list coded_ℕ) (coded_list (coded× (coded_list coded_ℕ) claims_code)))
    (λ e. (e.publishers, e.fields)) (λ p. record { publishers = p.0; fields = p.1 }) (λ _. refl)

-- the value of a field of a document, if there is one
abbrev pub value_in : Option Entries → List ℕ → Option Val
value_in doc name = option_and_then (λ d. at text_cmp d name) doc

-- the map with the value at the key, if there is one
abbrev pub put_some : {K X : Type 0} → (K → K → Ordering) → List (K × X) → K → Option X → List (K × X)
put_some R m k None = m
put_some R m k (Some v) = insert_entry R m k v

-- the value, unless it was there before
abbrev pub new_of : Option Val → Option Val → Option Val
new_of before now = option_filter (λ v. not (is_there text_cmp same_value v before)) now

-- the value that was there before, where there is none any more
abbrev pub lost_of : Option Val → Option Val → Option Val
lost_of before now = option_filter (λ v. not (is_some now)) before

abbrev pub same_option : Option Val → Option Val → Bool
same_option None None = true
same_option (Some v) (Some w) = same_value v w
same_option v w = false

-- whether the subscription has this value already, where None is no value
abbrev pub keeps : ℕ → Option Val → List (ℕ × Val) → Bool
keeps sub value claims = same_option (claimed sub claims) value

-- the claims on a field, where the subscription's value changes them
abbrev pub changed_claims : ℕ → Option Val → List (ℕ × Val) → Option (List (ℕ × Val))
changed_claims sub value claims = if keeps sub value claims then None else Some (placed sub value claims)

-- the same, where no claims may be there yet
abbrev pub changed_field : ℕ → Option (List (ℕ × Val)) → Option Val → Option (List (ℕ × Val))
changed_field sub None value = option_map (λ v. (sub, v) ∷ []) value
changed_field sub (Some claims) value = changed_claims sub value claims

-- two or more subscriptions publish the document
abbrev pub is_shared : List ℕ → Bool
is_shared [] = false
is_shared (s ∷ others) = list_any (λ r. not (r == s)) others

-- another subscription publishes the document
abbrev pub has_other : ℕ → List ℕ → Bool
has_other sub publishers = list_any (λ r. not (r == sub)) publishers

-- nobody publishes it, or this subscription alone
abbrev pub IsAlone : ℕ → List ℕ → Type 0
IsAlone sub publishers = has_other sub publishers ≡ false

-- the publisher, if there is one alone
abbrev pub sole : List ℕ → Option ℕ
sole [] = None
sole (s ∷ others) = if list_any (λ r. not (r == s)) others then None else Some s

-- the publishers, where the subscription is one of them now or no longer
abbrev pub publishers_with : ℕ → Bool → List ℕ → List ℕ
publishers_with sub now publishers = filter (λ s. not (s == sub)) publishers ++ (if now then sub ∷ [] else [])

-- what is kept of a document that the subscription alone publishes
abbrev pub alone : ℕ → Entries → KeptDoc
alone sub doc = record { publishers = sub ∷ []; fields = map (λ e. (e.0, (sub, e.1) ∷ [])) doc }

-- the same, where it may be no document
abbrev pub alone_if : ℕ → Option Entries → KeptDoc
alone_if sub None = nothing_kept
alone_if sub (Some doc) = alone sub doc

-- what is kept once the subscription alone is left
abbrev pub left_to : ℕ → KeptDoc → KeptDoc
left_to sub e = alone sub (filter_map_entries (λ f claims. claimed sub claims) e.fields)

-- each subscription has one claim
abbrev pub AreOnce : List (ℕ × Val) → Type 0
AreOnce [] = Unit {0}
AreOnce (c ∷ claims) = (claimed c.0 claims ≡ None) × AreOnce claims

-- the names are in order, and each subscription with a claim publishes the document, and has one claim on a field
pub record IsHeld (e : KeptDoc) : Type 0 where
  pub by_name : IsSorted text_cmp e.fields
  pub published : (f : List ℕ) (s : ℕ) → IsSome (claimed s (claims_of text_cmp e f)) → has s e.publishers ≡ true
  pub once : (f : List ℕ) → AreOnce (claims_of text_cmp e f)

-- kept whole, of a document that two or more subscriptions publish
pub record IsShared (e : KeptDoc) : Type 0 where
  pub held : IsHeld e
  pub shared : is_shared e.publishers ≡ true

-- new is what is kept after the subscription has said that the document is this one, or none
pub record IsKeptAfter (sub : ℕ) (doc : Option Entries) (old new : KeptDoc) : Type 0 where
  pub publishers : (s : ℕ) → has s new.publishers ≡ there_after sub (Some doc) s (has s old.publishers)
  pub claims : (f : List ℕ) → claims_of text_cmp new f ≡ claims_after text_cmp sub (Some doc) f (claims_of text_cmp old f)

-- the same publishers, and the same claims on each field. A field with no claims is the same as none: it is a place for what a plan brings
pub record SameDoc (old new : KeptDoc) : Type 0 where
  pub publishers : new.publishers ≡ old.publishers
  pub claims : (f : List ℕ) → claims_of text_cmp new f ≡ claims_of text_cmp old f

-- new is old, with more places
pub record IsDocGrown (old new : KeptDoc) : Type 0 where
  pub same : SameDoc old new
  pub names : (f : List ℕ) → IsSome (at text_cmp old.fields f) → IsSome (at text_cmp new.fields f)
  pub held : IsHeld old → IsHeld new
