-- Places for what a plan brings change nothing of what is kept of a document.
use Rattle.std.proofs.Common.{◌≡◌, ℕ, true, cond, List, [], ◌∷◌, Option, Some, None, is_some, IsSome, unwrap_or, refl, sym, ap, ap₂, subst, ◌∙◌, true≢false}
use Rattle.map_model.specs.Maps.{at, IsSorted}
use Rattle.map_model.specs.MapLaws.{same_maps, sorted-nil, sorted-union, sorted-filter_map_entries}
use Rattle.value_model.specs.Val.{Val, Entries}
use Rattle.value_model.specs.Order.{text_cmp}
use Rattle.merge_model.specs.Kept.{claimed, has, is_empty, nothing_kept, first_value, merged_doc, merged_fields, there_after, claims_of, claims_after}
use Rattle.merge_model.specs.KeptLaws.{at-merged_fields}
use Rattle.ejson_value.specs.Key.{name_order, key_order}
use Rattle.kept_document.specs.declared.held.Change.{Change}
use Rattle.kept_document.specs.declared.held.Change.TheVariants.{Whole, Part}
use Rattle.kept_document.specs.Held.{KeptDoc, is_shared, AreOnce, IsHeld, SameDoc, IsDocGrown}
use Rattle.kept_document.specs.Changes.{with_change, IsChange, IsFor, HasPlaces}
use Rattle.kept_document.proofs.KeptAfter.{claims-with_part}
use Rattle.kept_document.proofs.Telling.{no_claims}

-- ---- one document
pub same_itself : (e : KeptDoc) → SameDoc e e
same_itself e = record { publishers = refl; claims = λ f. refl }

pub same_on : (a b c : KeptDoc) → SameDoc a b → SameDoc b c → SameDoc a c
same_on a b c p q = record { publishers = q.publishers ∙ p.publishers; claims = λ f. q.claims f ∙ p.claims f }

pub same_change : (a b : KeptDoc) (change : Change) → SameDoc a b → SameDoc (with_change a change) (with_change b change)
same_change a b (Whole e) same = record { publishers = refl; claims = λ f. refl }
same_change a b (Part e) same = record {
  publishers = refl;
  claims = λ f. claims-with_part b e f ∙ ap (unwrap_or (at text_cmp e.fields f)) (same.claims f) ∙ sym (claims-with_part a e f);
}

pub held_same : (a b : KeptDoc) → SameDoc a b → IsSorted text_cmp b.fields → IsHeld a → IsHeld b
held_same a b same sorted held = record {
  by_name = sorted;
  published = λ f s some. ap (has s) same.publishers ∙ held.published f s (ap (λ claims. is_some (claimed s claims)) (sym (same.claims f)) ∙ some);
  once = λ f. subst AreOnce (sym (same.claims f)) (held.once f);
}

-- a change makes of the same document one that is kept whole as well
pub change_held : (a b : KeptDoc) (change : Change) → SameDoc a b → IsSorted text_cmp b.fields → IsHeld (with_change a change) → IsHeld (with_change b change)
change_held a b (Whole e) same sorted held = held
change_held a b (Part e) same sorted held = held_same (with_change a (Part e)) (with_change b (Part e)) (same_change a b (Part e) same) (sorted-union name_order e.fields b.fields sorted) held

pub grown_itself : (e : KeptDoc) → IsDocGrown e e
grown_itself e = record { same = same_itself e; names = λ f h. h; held = λ h. h }

pub grown_on : (a b c : KeptDoc) → IsDocGrown a b → IsDocGrown b c → IsDocGrown a c
grown_on a b c p q = record { same = same_on a b c p.same q.same; names = λ f h. q.names f (p.names f h); held = λ h. q.held (p.held h) }

pub form_on : (a b : KeptDoc) (change : Change) → SameDoc a b → IsFor a change → IsFor b change
form_on a b (Whole e) same is = tt
form_on a b (Part e) same is = ap is_shared same.publishers ∙ is

pub places_on : (a b : KeptDoc) (change : Change) → IsDocGrown a b → HasPlaces a change → HasPlaces b change
places_on a b (Whole e) grown has = tt
places_on a b (Part e) grown has = record { shared = ap is_shared grown.same.publishers ∙ has.shared; names = λ f h. grown.names f (has.names f h) }

-- a change of a document is one of the document with more places
pub change_grown : (sub : ℕ) (doc : Option Entries) (a b : KeptDoc) (change : Change) → IsDocGrown a b → IsChange sub doc a change → IsChange sub doc b change
change_grown sub doc a b change grown is = record {
  was = grown.held is.was;
  form = form_on a b change grown.same is.form;
  after = record {
    publishers = λ s. is.after.publishers s ∙ ap (λ ps. there_after sub (Some doc) s (has s ps)) (sym grown.same.publishers);
    claims = λ f. (same_change a b change grown.same).claims f ∙ is.after.claims f ∙ ap (claims_after text_cmp sub (Some doc) f) (sym (grown.same.claims f));
  };
  held = change_held a b change grown.same (grown.held is.was).by_name is.held;
}

-- what a client sees of it
pub merged_same : (a b : KeptDoc) → SameDoc a b → IsSorted text_cmp a.fields → IsSorted text_cmp b.fields → merged_doc b ≡ merged_doc a
merged_same a b same sorted_a sorted_b =
    ap₂ (λ ps fields. cond (is_empty ps) None (Some fields)) same.publishers
    (same_maps name_order (merged_fields b.fields) (merged_fields a.fields) (sorted-filter_map_entries text_cmp (λ f claims. first_value claims) b.fields sorted_b) (sorted-filter_map_entries text_cmp (λ f claims. first_value claims) a.fields sorted_a)
    (λ f. at-merged_fields key_order name_order b f sorted_b ∙ ap first_value (same.claims f) ∙ sym (at-merged_fields key_order name_order a f sorted_a)))

-- ---- more places
-- places in one document
pub places_grown : (ps : List ℕ) (old new : List (List ℕ × List (ℕ × Val))) → ((f : List ℕ) → unwrap_or (at text_cmp new f) [] ≡ unwrap_or (at text_cmp old f) []) → ((f : List ℕ) → IsSome (at text_cmp old f) → IsSome (at text_cmp new f)) → IsSorted text_cmp new
    → IsDocGrown (record { publishers = ps; fields = old }) (record { publishers = ps; fields = new })
places_grown ps old new same grows sorted = record { same = same_fields; names = grows; held = λ h. held_same (record { publishers = ps; fields = old }) (record { publishers = ps; fields = new }) same_fields sorted h }
  where
    same_fields : SameDoc (record { publishers = ps; fields = old }) (record { publishers = ps; fields = new })
    same_fields = record { publishers = refl; claims = same }

pub none_published : (ps : List ℕ) → is_empty ps ≡ true → ps ≡ []
none_published [] e = refl
none_published (p ∷ ps) e = absurd (true≢false (sym e))

-- ---- what is left of a document that is taken over, or that nobody publishes any more
pub take_same : (old part : KeptDoc) (new : List (List ℕ × List (ℕ × Val))) → ((f : List ℕ) → unwrap_or (at text_cmp new f) [] ≡ unwrap_or (at text_cmp part.fields f) (claims_of text_cmp old f)) → SameDoc (with_change old (Part part)) (record { publishers = part.publishers; fields = new })
take_same old part new is = record { publishers = refl; claims = λ f. is f ∙ sym (claims-with_part old part f) }

pub gone_same : (e : KeptDoc) → IsHeld e → is_empty e.publishers ≡ true → SameDoc e nothing_kept
gone_same e held none = record { publishers = sym (none_published e.publishers none); claims = λ f. sym (no_claims e f held none) }

pub nothing_held : IsHeld nothing_kept
nothing_held = record { by_name = sorted-nil text_cmp; published = λ f s h. absurd (true≢false (sym h)); once = λ f. tt }
