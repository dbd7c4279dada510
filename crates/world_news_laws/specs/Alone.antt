-- A document that one subscription alone publishes: what a client sees of it is what the subscription shows.
use Rattle.std.specs.Prelude.{◌≡◌, ℕ, ◌==◌, Bool, true, false, not, cond, ◌||◌, List, [], ◌∷◌, Option, Some, None, is_some, IfSome, option_and_then, refl}
use Rattle.std.specs.List.{list_any}
use Rattle.std.proofs.Common.{sym, ap, ◌∙◌, subst, true≢false}
use Rattle.map_model.specs.Maps.{at, IsSorted}
use Rattle.map_model.specs.MapLaws.{same_maps}
use Rattle.merge_model.specs.Merge.{field}
use Rattle.merge_model.specs.Kept.{claimed, first_value, IsCell, has, is_empty, merged_fields, merged_doc, kept_at, publishers_at, claims_at, Stands}
use Rattle.merge_model.specs.PublishingLaws.{same_sub, sub-self}
use Rattle.merge_model.specs.KeptLaws.{at-merged, field-merged, merged_is}
use Rattle.value_model.specs.Val.{Val, Entries}
use Rattle.value_model.specs.Order.{text_cmp}
use Rattle.ejson_value.specs.declared.key.Key.{Key}
use Rattle.ejson_value.specs.Key.{key_cmp, key_order, name_order}
use Rattle.ejson_value.specs.Rows.{Rows}
use Rattle.kept_document.specs.Held.{KeptDoc, IsAlone}
use Rattle.merge_box.specs.State.{KeptDocs}
use Rattle.multiplexer.specs.Known.{IsSeenAs}

-- ---- one way of seeing it

pub seen_once : (one other shown : Option Entries) → IsSeenAs one shown → IsSeenAs other shown → one ≡ other
seen_once None None shown p q = refl
seen_once None (Some doc) shown p q = absurd (true≢false (q.there ∙ sym p.there))
seen_once (Some doc) None shown p q = absurd (true≢false (p.there ∙ sym q.there))
seen_once (Some one) (Some other) shown p q = ap Some (same_maps name_order one other p.by_name q.by_name (λ name. p.fields name ∙ sym (q.fields name)))

-- ---- publishers

this_one : (p s : ℕ) (rest : Bool) → (not (p == s) || rest) ≡ false → ((p == s) ≡ true) × (rest ≡ false)
this_one p s rest = elim (p == s) as (λ b. (not b || rest) ≡ false → (b ≡ true) × (rest ≡ false)) [ true ↦ λ e. (refl, e) | false ↦ λ e. absurd (true≢false e) ]

one_has : (s : ℕ) (ps : List ℕ) → IsAlone s ps → has s ps ≡ not (is_empty ps)
one_has s [] alone = refl
one_has s (p ∷ ps) alone =
    let here : p ≡ s = same_sub p s (this_one p s (list_any (λ r. not (r == s)) ps) alone).0 in
    ap (λ r. (s == r) || has s ps) here ∙ ap (λ b. b || has s ps) (sub-self s)

no_other : (s q : ℕ) (ps : List ℕ) → IsAlone s ps → has q ps ≡ true → q ≡ s
no_other s q [] alone e = absurd (true≢false (sym e))
no_other s q (p ∷ ps) alone e =
    let both = this_one p s (list_any (λ r. not (r == s)) ps) alone in
    let later = no_other s q ps both.1 in
    elim (q == p) as (λ b. (q == p) ≡ b → (b || has q ps) ≡ true → q ≡ s) [
      | true ↦ λ is _. same_sub q p is ∙ same_sub p s both.0
      | false ↦ λ _ h. later h
    ] refl e

-- ---- what is seen

has_doc : (m : Rows) (k : Key) (f : List ℕ) → is_some (field key_cmp text_cmp m k f) ≡ true → is_some (at key_cmp m k) ≡ true
has_doc m k f e = elim (at key_cmp m k) as
    (λ x. is_some (option_and_then (λ d. at text_cmp d f) x) ≡ true → is_some x ≡ true) [ None ↦ λ h. h | Some d ↦ λ _. refl ] e

some_doc : (e : KeptDoc) → is_some (merged_doc e) ≡ not (is_empty e.publishers)
some_doc e = elim (is_empty e.publishers) as (λ b. is_some (cond b None (Some (merged_fields e.fields))) ≡ not b) [ true ↦ refl | false ↦ refl ]

module _ (show : ℕ → Rows) (time : ℕ → Key → List ℕ → ℕ) (box : KeptDocs) (h : Stands key_cmp text_cmp show time box) (sub : ℕ) (k : Key)
    (alone : IsAlone sub (publishers_at key_cmp box k)) where
  -- each claim is the subscription's
  its_claim : (f : List ℕ) (claims : List (ℕ × Val)) → IsCell (λ r. time r k f) (λ r. field key_cmp text_cmp (show r) k f) claims →
      first_value claims ≡ claimed sub claims
  its_claim f [] cell = refl
  its_claim f (c ∷ claims) cell =
      let own : claimed c.0 (c ∷ claims) ≡ Some c.1 = ap (λ b. cond b (Some c.1) (claimed c.0 claims)) (sub-self c.0) in
      let shows : is_some (at key_cmp (show c.0) k) ≡ true = has_doc (show c.0) k f (ap is_some (sym (cell.holds c.0) ∙ own)) in
      let same : c.0 ≡ sub = no_other sub c.0 (publishers_at key_cmp box k) alone (h.publishers k c.0 ∙ shows) in
      sym own ∙ ap (λ r. claimed r (c ∷ claims)) same

  -- what a client sees of the document is what the subscription shows
  pub seen_alone : IsSeenAs (merged_doc (kept_at key_cmp box k)) (at key_cmp (show sub) k)
  seen_alone = record {
    there = some_doc (kept_at key_cmp box k) ∙ (sym (one_has sub (publishers_at key_cmp box k) alone) ∙ h.publishers k sub);
    fields = λ f. ap (option_and_then (λ d. at text_cmp d f)) (sym (at-merged key_order name_order box k h.order.by_key))
        ∙ (field-merged key_order name_order show time box h k f ∙ (its_claim f (claims_at key_cmp text_cmp box k f) (h.cells k f) ∙ (h.cells k f).holds sub));
    by_name = subst (λ (x : Option Entries). IfSome x (IsSorted text_cmp)) (at-merged key_order name_order box k h.order.by_key)
        ((merged_is key_order name_order show time box h).by_name k);
  }
