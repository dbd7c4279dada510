-- Places for what a plan brings change nothing of what is kept of the documents.
use Rattle.std.proofs.Common.{◌≡◌, ℕ, true, false, cond, List, [], ◌∷◌, Option, Some, None, IsSome, option_and_then, unwrap_or, refl, sym, ap, ap₂, subst, ◌∙◌}
use Rattle.std.specs.Option.{option_or}
use Rattle.map_model.specs.Maps.{at, IsSorted, filter_map_entries}
use Rattle.std.specs.Ordering.{eq_by_cmp, is_eq}
use Rattle.map_model.specs.MapLaws.{key_is, same_maps, sorted-nil, sorted-union, sorted-filter_map_entries, at-union, at-filter_map_entries}
use Rattle.value_model.specs.Val.{Val}
use Rattle.value_model.specs.Order.{text_cmp}
use Rattle.merge_model.specs.Kept.{is_empty, kept_at, nothing_kept, merged, merged_doc, claims_of}
use Rattle.merge_model.specs.Box.{unless_empty}
use Rattle.merge_model.specs.KeptLaws.{at-merged}
use Rattle.ejson_value.specs.declared.key.Key.{Key}
use Rattle.ejson_value.specs.Key.{name_order, key_cmp, key_order}
use Rattle.kept_document.specs.declared.held.Change.{Change}
use Rattle.kept_document.specs.Held.{KeptDoc, IsHeld, SameDoc, IsDocGrown}
use Rattle.kept_document.specs.Changes.{with_change}
use Rattle.kept_document.proofs.Places.{same_change, held_same, merged_same, none_published, grown_itself, grown_on}
use Rattle.kept_document.proofs.Puts.{put_grows, put_or}
use Rattle.kept_document.proofs.Telling.{no_claims}
use Rattle.merge_box.specs.State.{KeptDocs}
use Rattle.merge_box.specs.Slots.{SlotState}
use Rattle.merge_box.specs.Inside.{Changes, claimed_fields, published_doc, docs_of, carried_out, with_change_if, after_at, IsGrown, HasGrown}

-- ---- without places
unless_of : (x : Option (List (ℕ × Val))) → option_and_then (λ claims. unless_empty claims) x ≡ unless_empty (unwrap_or x [])
unless_of None = refl
unless_of (Some claims) = refl

or_empty : {X : Type 0} (xs : List X) → unwrap_or (unless_empty xs) [] ≡ xs
or_empty [] = refl
or_empty (x ∷ xs) = refl

at-claimed : (e : KeptDoc) (f : List ℕ) → IsSorted text_cmp e.fields → at text_cmp (claimed_fields e.fields) f ≡ unless_empty (claims_of text_cmp e f)
at-claimed e f sorted = at-filter_map_entries name_order (λ q claims. unless_empty claims) e.fields f sorted ∙ unless_of (at text_cmp e.fields f)

sorted-claimed : (e : KeptDoc) → IsSorted text_cmp e.fields → IsSorted text_cmp (claimed_fields e.fields)
sorted-claimed e sorted = sorted-filter_map_entries text_cmp (λ q claims. unless_empty claims) e.fields sorted

abbrev pub stripped : KeptDoc → KeptDoc
stripped e = record { publishers = e.publishers; fields = claimed_fields e.fields }

pub stripped_same : (e : KeptDoc) → IsSorted text_cmp e.fields → SameDoc e (stripped e)
stripped_same e sorted = record { publishers = refl; claims = λ f. ap (λ x. unwrap_or x []) (at-claimed e f sorted) ∙ or_empty (claims_of text_cmp e f) }

pub published_same : (a b : KeptDoc) → SameDoc a b → IsSorted text_cmp a.fields → IsSorted text_cmp b.fields → published_doc b ≡ published_doc a
published_same a b same sorted_a sorted_b =
    ap₂ (λ ps fields. cond (is_empty ps) None (Some (record { publishers = ps; fields = fields }))) same.publishers
    (same_maps name_order (claimed_fields b.fields) (claimed_fields a.fields) (sorted-claimed b sorted_b) (sorted-claimed a sorted_a)
    (λ f. at-claimed b f sorted_b ∙ ap unless_empty (same.claims f) ∙ sym (at-claimed a f sorted_a)))

-- ---- all documents
published_of : (x : Option KeptDoc) → option_and_then (λ e. published_doc e) x ≡ published_doc (unwrap_or x nothing_kept)
published_of None = refl
published_of (Some e) = refl

pub at-docs_of : (kept : KeptDocs) (k : Key) → IsSorted key_cmp kept → at key_cmp (docs_of kept) k ≡ published_doc (kept_at key_cmp kept k)
at-docs_of kept k sorted = at-filter_map_entries key_order (λ q e. published_doc e) kept k sorted ∙ published_of (at key_cmp kept k)

pub sorted-docs_of : (kept : KeptDocs) → IsSorted key_cmp kept → IsSorted key_cmp (docs_of kept)
sorted-docs_of kept sorted = sorted-filter_map_entries key_cmp (λ q e. published_doc e) kept sorted

-- the same is kept: the same documents are published
pub docs_same : (a b : KeptDocs) → IsSorted key_cmp a → IsSorted key_cmp b → ((k : Key) → IsHeld (kept_at key_cmp a k)) → ((k : Key) → IsHeld (kept_at key_cmp b k)) → ((k : Key) → SameDoc (kept_at key_cmp a k) (kept_at key_cmp b k)) → docs_of b ≡ docs_of a
docs_same a b sorted_a sorted_b held_a held_b same =
    same_maps key_order (docs_of b) (docs_of a) (sorted-docs_of b sorted_b) (sorted-docs_of a sorted_a)
    (λ k. at-docs_of b k sorted_b ∙ published_same (kept_at key_cmp a k) (kept_at key_cmp b k) (same k) (held_a k).by_name (held_b k).by_name ∙ sym (at-docs_of a k sorted_a))

-- what is kept of a document that somebody publishes is what is kept of it inside
pub kept_same : (kept : KeptDocs) (k : Key) → IsSorted key_cmp kept → IsHeld (kept_at key_cmp kept k) → SameDoc (kept_at key_cmp kept k) (kept_at key_cmp (docs_of kept) k)
kept_same kept k sorted held =
    let e = kept_at key_cmp kept k in
    subst (λ x. SameDoc e (unwrap_or x nothing_kept)) (sym (at-docs_of kept k sorted))
    (elim (is_empty e.publishers) as (λ b. is_empty e.publishers ≡ b → SameDoc e (unwrap_or (cond b None (Some (stripped e))) nothing_kept)) [
      | true ↦ λ none. record { publishers = sym (none_published e.publishers none); claims = λ f. sym (no_claims e f held none) }
      | false ↦ λ _. stripped_same e held.by_name
    ] refl)

pub held_docs : (kept : KeptDocs) (k : Key) → IsSorted key_cmp kept → IsHeld (kept_at key_cmp kept k) → IsHeld (kept_at key_cmp (docs_of kept) k)
held_docs kept k sorted held = held_same (kept_at key_cmp kept k) (kept_at key_cmp (docs_of kept) k) (kept_same kept k sorted held) names held
  where
    names : IsSorted text_cmp (kept_at key_cmp (docs_of kept) k).fields
    names = subst (λ x. IsSorted text_cmp (unwrap_or x nothing_kept).fields) (sym (at-docs_of kept k sorted))
        (elim (is_empty (kept_at key_cmp kept k).publishers) as (λ b. IsSorted text_cmp (unwrap_or (cond b None (Some (stripped (kept_at key_cmp kept k)))) nothing_kept).fields) [
          | true ↦ sorted-nil text_cmp
          | false ↦ sorted-claimed (kept_at key_cmp kept k) held.by_name
        ])

-- what a client sees of each document
pub seen_docs : (kept : KeptDocs) → IsSorted key_cmp kept → ((k : Key) → IsHeld (kept_at key_cmp kept k)) → (k : Key) → merged_doc (kept_at key_cmp (docs_of kept) k) ≡ merged_doc (kept_at key_cmp kept k)
seen_docs kept sorted held k = merged_same (kept_at key_cmp kept k) (kept_at key_cmp (docs_of kept) k) (kept_same kept k sorted (held k)) (held k).by_name (held_docs kept k sorted (held k)).by_name

pub merged_docs : (kept : KeptDocs) → IsSorted key_cmp kept → ((k : Key) → IsHeld (kept_at key_cmp kept k)) → merged (docs_of kept) ≡ merged kept
merged_docs kept sorted held =
    same_maps key_order (merged (docs_of kept)) (merged kept) (sorted-filter_map_entries key_cmp (λ k e. merged_doc e) (docs_of kept) (sorted-docs_of kept sorted)) (sorted-filter_map_entries key_cmp (λ k e. merged_doc e) kept sorted)
    (λ k. at-merged key_order name_order (docs_of kept) k (sorted-docs_of kept sorted)
    ∙ seen_docs kept sorted held k
    ∙ sym (at-merged key_order name_order kept k sorted))

-- ---- once the changes are carried out
or_kept : (x : Option Change) (y : Option KeptDoc) (e : KeptDoc) → e ≡ unwrap_or y nothing_kept → unwrap_or (option_or (option_and_then (λ change. Some (with_change e change)) x) y) nothing_kept ≡ with_change_if x e
or_kept None y e is = sym is
or_kept (Some change) y e is = refl

pub kept_at-carried_out : (changes : Changes) (kept : KeptDocs) (k : Key) → IsSorted key_cmp changes → kept_at key_cmp (carried_out changes kept) k ≡ after_at changes kept k
kept_at-carried_out changes kept k sorted =
    ap (λ x. unwrap_or x nothing_kept) (
    at-union key_order (filter_map_entries (λ q change. Some (with_change (kept_at key_cmp kept q) change)) changes) kept k
    ∙ ap (λ x. option_or x (at key_cmp kept k)) (at-filter_map_entries key_order (λ q change. Some (with_change (kept_at key_cmp kept q) change)) changes k sorted))
    ∙ or_kept (at key_cmp changes k) (at key_cmp kept k) (kept_at key_cmp kept k) refl

pub sorted-carried_out : (changes : Changes) (kept : KeptDocs) → IsSorted key_cmp kept → IsSorted key_cmp (carried_out changes kept)
sorted-carried_out changes kept sorted = sorted-union key_order (filter_map_entries (λ q change. Some (with_change (kept_at key_cmp kept q) change)) changes) kept sorted

pub after_same : (x : Option Change) (a b : KeptDoc) → SameDoc a b → SameDoc (with_change_if x a) (with_change_if x b)
after_same None a b same = same
after_same (Some change) a b same = same_change a b change same

-- ---- growth
pub IsGrown-equal : (old new : KeptDocs) → ((k : Key) → IsSome (at key_cmp old k) → IsSome (at key_cmp new k)) → ((k : Key) → kept_at key_cmp new k ≡ kept_at key_cmp old k) → IsGrown old new
IsGrown-equal old new keys same = record { keys = keys; docs = λ k. subst (IsDocGrown (kept_at key_cmp old k)) (sym (same k)) (grown_itself (kept_at key_cmp old k)) }

pub IsGrown-itself : (kept : KeptDocs) → IsGrown kept kept
IsGrown-itself kept = record { keys = λ k h. h; docs = λ k. grown_itself (kept_at key_cmp kept k) }

pub IsGrown-on : (a b c : KeptDocs) → IsGrown a b → IsGrown b c → IsGrown a c
IsGrown-on a b c p q = record { keys = λ k h. q.keys k (p.keys k h); docs = λ k. grown_on (kept_at key_cmp a k) (kept_at key_cmp b k) (kept_at key_cmp c k) (p.docs k) (q.docs k) }

pub grown_at : (old new : KeptDocs) (key : Key) (e grown : KeptDoc) → kept_at key_cmp old key ≡ e → ((k : Key) → at key_cmp new k ≡ cond (is_eq (key_cmp key k)) (Some grown) (at key_cmp old k)) → IsDocGrown e grown → IsGrown old new
grown_at old new key e grown value change grows = record {
  keys = put_grows key_order old new key (Some grown) change refl;
  docs = λ k. subst (IsDocGrown (kept_at key_cmp old k)) (sym (put_or key_order old new key (Some grown) change nothing_kept grown refl k))
      (elim (eq_by_cmp key_cmp k key) as (λ b. eq_by_cmp key_cmp k key ≡ b → IsDocGrown (kept_at key_cmp old k) (cond b grown (kept_at key_cmp old k))) [
        | true ↦ λ t. subst (λ x. IsDocGrown x grown) (sym (ap (kept_at key_cmp old) (key_is key_order k key t) ∙ value)) grows
        | false ↦ λ _. grown_itself (kept_at key_cmp old k)
      ] refl);
}

pub HasGrown-itself : (s : SlotState) → HasGrown s s
HasGrown-itself s = record { docs = IsGrown-itself s.docs; names = λ slot k h. h }

pub HasGrown-on : (a b c : SlotState) → HasGrown a b → HasGrown b c → HasGrown a c
HasGrown-on a b c p q = record { docs = IsGrown-on a.docs b.docs c.docs p.docs q.docs; names = λ slot k h. q.names slot k (p.names slot k h) }
