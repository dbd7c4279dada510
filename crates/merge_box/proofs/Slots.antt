-- What is kept of documents in slots, and after one slot is written, taken or emptied.
use Rattle.std.proofs.Common.{◌≡◌, ◌≢◌, ℕ, true, false, cond, List, [], ◌∷◌, map, Option, Some, None, option_map, is_some, IsSome, unwrap_or, slice_index_or, refl, sym, ap, ap₂, subst, subst₂, ⊎_elim, ◌∙◌, true≢false}
use Rattle.std.specs.Map.{keys_of}
use Rattle.std.specs.Ordering.{eq_by_cmp, is_eq}
use Rattle.std.specs.List.Sorted.{IsStrictlySortedBy}
use Rattle.std.proofs.Math.ListN.{get_or-map}
use Rattle.std.proofs.lemmas.Bool.{cases_eq}
use Rattle.map_model.specs.Maps.{at, IsSorted}
use Rattle.map_model.specs.MapLaws.{key_is, eq_by_cmp-self}
use Rattle.merge_model.specs.Kept.{kept_at, nothing_kept}
use Rattle.ejson_value.specs.declared.key.Key.{Key}
use Rattle.ejson_value.specs.Key.{key_cmp, key_order}
use Rattle.kept_document.specs.declared.held.Change.{Change}
use Rattle.kept_document.specs.Held.{KeptDoc, IsHeld, SameDoc, IsDocGrown}
use Rattle.kept_document.specs.Changes.{with_change}
use Rattle.kept_document.proofs.Puts.{put_here, put_others, put_grows, put_nothing, left_from}
use Rattle.slab.specs.Slab.{Slab, get, with_value, Updates}
use Rattle.slab.proofs.SlabLemmas.{Updates-with_value}
use Rattle.merge_box.specs.declared.kept.Slot.{Slot}
use Rattle.merge_box.specs.State.{KeptDocs}
use Rattle.merge_box.specs.Slots.{SlotState, named, key_in, IsNamed, Places, slot_key, keys_in, held_at, docs_in, IsPlaced}
use Rattle.merge_box.specs.Inside.{HasGrown, IsTaken}
use Rattle.merge_box.proofs.Listing.{either_way}
use Rattle.merge_box.proofs.Places.{IsGrown-equal, HasGrown-itself, grown_at}

no_some : {X : Type 0} (x : X) → None ≡ Some x → ⊥
no_some x e = cc

same_some : {X : Type 0} (x y : X) → Some x ≡ Some y → x ≡ y
same_some x y e = ap (λ o. unwrap_or o x) e

abbrev pub state_of : Places → Slab Slot → SlotState
state_of places slots = record { docs = docs_in places slots; keys = keys_in slots }

-- what is kept of the document at the key was one thing and is another, and nothing else changes
pub record IsWritten (old new : SlotState) (key : Key) (was now : KeptDoc) : Type 0 where
  pub before : at key_cmp old.docs key ≡ Some was
  pub after : at key_cmp new.docs key ≡ Some now
  pub others : (k : Key) → eq_by_cmp key_cmp k key ≡ false → at key_cmp new.docs k ≡ at key_cmp old.docs k
  pub names : (slot : ℕ) (k : Key) → named old.keys slot ≡ Some k → named new.keys slot ≡ Some k

-- the key's document, of which nothing was kept, gets a slot
pub record IsAdded (old new : SlotState) (key : Key) : Type 0 where
  pub grown : HasGrown old new
  pub here : at key_cmp new.docs key ≡ Some nothing_kept
  pub others : (k : Key) → eq_by_cmp key_cmp k key ≡ false → at key_cmp new.docs k ≡ at key_cmp old.docs k

-- the key's document loses its slot
pub record IsGone (old new : SlotState) (key : Key) (was : KeptDoc) : Type 0 where
  pub before : at key_cmp old.docs key ≡ Some was
  pub gone : at key_cmp new.docs key ≡ None
  pub others : (k : Key) → eq_by_cmp key_cmp k key ≡ false → at key_cmp new.docs k ≡ at key_cmp old.docs k
  pub names : (slot : ℕ) (k : Key) → eq_by_cmp key_cmp k key ≡ false → named old.keys slot ≡ Some k → named new.keys slot ≡ Some k

pub put_at_key : (old new : KeptDocs) (key : Key) (w : Option KeptDoc) → at key_cmp new key ≡ w → ((k : Key) → eq_by_cmp key_cmp k key ≡ false → at key_cmp new k ≡ at key_cmp old k)
    → (k : Key) → at key_cmp new k ≡ cond (is_eq (key_cmp key k)) w (at key_cmp old k)
put_at_key old new key w here others k =
    elim (eq_by_cmp key_cmp k key) as (λ b. eq_by_cmp key_cmp k key ≡ b → at key_cmp new k ≡ cond b w (at key_cmp old k)) [
      | true ↦ λ t. ap (at key_cmp new) (key_is key_order k key t) ∙ here
      | false ↦ λ t. others k t
    ] refl
    ∙ ap (λ b. cond b w (at key_cmp old k)) (sym (either_way key k))

-- ---- the key of a slot
pub key_named : (keys : List (Option Key)) (slot : ℕ) (k : Key) → named keys slot ≡ Some k → key_in keys slot ≡ k
key_named keys slot k is = ap (λ o. unwrap_or o (record { collection = []; id = [] })) is

pub is_named : (keys : List (Option Key)) (slot : ℕ) (k : Key) → named keys slot ≡ Some k → IsNamed keys slot
is_named keys slot k is = is ∙ ap Some (sym (key_named keys slot k is))

pub named_in : (slots : Slab Slot) (slot : ℕ) → named (keys_in slots) slot ≡ slot_key (get slots slot)
named_in slots slot = get_or-map slot_key slots.slots slot None

pub found_named : (slots : Slab Slot) (slot : ℕ) (s : Slot) (k : Key) → get slots slot ≡ Some s → named (keys_in slots) slot ≡ Some k → s.key ≡ k
found_named slots slot s k is names = same_some s.key k (sym (ap slot_key is) ∙ sym (named_in slots slot) ∙ names)

pub some_named : (slots : Slab Slot) (slot : ℕ) (k : Key) → named (keys_in slots) slot ≡ Some k → IsSome (get slots slot)
some_named slots slot k names = some_of (get slots slot) (sym (named_in slots slot) ∙ names)
  where
    some_of : (x : Option Slot) → slot_key x ≡ Some k → IsSome x
    some_of None e = absurd (no_some k e)
    some_of (Some s) e = refl

-- ---- documents by key
pub at_docs : (places : Places) (slots : Slab Slot) (k : Key) → at key_cmp (docs_in places slots) k ≡ option_map (held_at slots) (at key_cmp places k)
at_docs [] slots k = refl
at_docs (e ∷ places) slots k =
    let rest = at_docs places slots k in
    elim (eq_by_cmp key_cmp k e.0) as (λ b. cond b (Some (held_at slots e.1)) (at key_cmp (docs_in places slots) k) ≡ option_map (held_at slots) (cond b (Some e.1) (at key_cmp places k))) [ true ↦ refl | false ↦ rest ]

docs_keys : (places : Places) (slots : Slab Slot) → keys_of (docs_in places slots) ≡ keys_of places
docs_keys [] slots = refl
docs_keys (e ∷ places) slots = ap (λ ks. e.0 ∷ ks) (docs_keys places slots)

pub docs_sorted : (places : Places) (slots : Slab Slot) → IsSorted key_cmp places → IsSorted key_cmp (docs_in places slots)
docs_sorted places slots s = subst (IsStrictlySortedBy key_cmp) (sym (docs_keys places slots)) s

-- a document that is looked up
pub docs_found : (places : Places) (slots : Slab Slot) (k : Key) (slot : ℕ) → at key_cmp places k ≡ Some slot → at key_cmp (docs_in places slots) k ≡ Some (held_at slots slot)
docs_found places slots k slot is = at_docs places slots k ∙ ap (option_map (held_at slots)) is

pub docs_lacking : (places : Places) (slots : Slab Slot) (k : Key) → at key_cmp places k ≡ None → at key_cmp (docs_in places slots) k ≡ None
docs_lacking places slots k is = at_docs places slots k ∙ ap (option_map (held_at slots)) is

pub places_lacking : (places : Places) (slots : Slab Slot) (k : Key) → at key_cmp (docs_in places slots) k ≡ None → at key_cmp places k ≡ None
places_lacking places slots k is = none_of (at key_cmp places k) (sym (at_docs places slots k) ∙ is)
  where
    none_of : (x : Option ℕ) → option_map (held_at slots) x ≡ None → x ≡ None
    none_of None e = refl
    none_of (Some slot) e = absurd (no_some (held_at slots slot) (sym e))

-- the documents of places where nothing changes
others_same : (old new : Slab Slot) (x : Option ℕ) → ((slot : ℕ) → x ≡ Some slot → get new slot ≡ get old slot) → option_map (held_at new) x ≡ option_map (held_at old) x
others_same old new None same = refl
others_same old new (Some slot) same = ap (λ (s : Option Slot). Some (unwrap_or (option_map (λ t. t.held) s) nothing_kept)) (same slot refl)

-- ---- the same slots, or none
module _ (places : Places) (old new : Slab Slot) (same : new.slots ≡ old.slots) where
  pub same_state : state_of places new ≡ state_of places old
  same_state = ap (λ (ss : List (Option Slot)). record { docs = map (λ e. (e.0, unwrap_or (option_map (λ s. s.held) (slice_index_or ss e.1 None)) nothing_kept)) places; keys = map slot_key ss }) same

  pub same_grown : (v : SlotState) → state_of places old ≡ v → HasGrown v (state_of places new)
  same_grown v is = subst (HasGrown v) (sym (same_state ∙ is)) (HasGrown-itself v)

  pub same_placed : IsPlaced places old → IsPlaced places new
  same_placed placed = record {
    there = λ k p e. ap (λ (ss : List (Option Slot)). slot_key (slice_index_or ss p None)) same ∙ placed.there k p e;
    back = λ k p e. placed.back k p (sym (ap (λ (ss : List (Option Slot)). slot_key (slice_index_or ss p None)) same) ∙ e);
  }

module _ (places : Places) (slots : Slab Slot) (no_places : places ≡ []) (no_slots : slots.slots ≡ []) where
  pub nothing_placed : IsPlaced places slots
  nothing_placed = record {
    there = λ k p e. absurd (no_some p (sym (ap (λ (m : Places). at key_cmp m k) no_places) ∙ e));
    back = λ k p e. absurd (no_some k (sym (ap (λ (ss : List (Option Slot)). slot_key (slice_index_or ss p None)) no_slots) ∙ e));
  }

  pub nothing_state : state_of places slots ≡ record { docs = []; keys = [] }
  nothing_state = ap₂ (λ (docs : KeptDocs) (keys : List (Option Key)). record { docs = docs; keys = keys }) (ap (λ m. docs_in m slots) no_places) (ap (map slot_key) no_slots)

-- a document with nothing kept of it gets a slot
pub slot_grown : (old new : SlotState) (key : Key) → at key_cmp old.docs key ≡ None → at key_cmp new.docs key ≡ Some nothing_kept → ((k : Key) → eq_by_cmp key_cmp k key ≡ false → at key_cmp new.docs k ≡ at key_cmp old.docs k)
    → ((slot : ℕ) (k : Key) → named old.keys slot ≡ Some k → named new.keys slot ≡ Some k) → HasGrown old new
slot_grown old new key none here others names =
    let change = put_at_key old.docs new.docs key (Some nothing_kept) here others in
    record {
      docs = IsGrown-equal old.docs new.docs (put_grows key_order old.docs new.docs key (Some nothing_kept) change refl) (put_nothing key_order old.docs new.docs key (Some nothing_kept) change nothing_kept refl (ap is_some none));
      names = names;
    }

-- one document gets more places
pub written_grown : (old new : SlotState) (key : Key) (was now : KeptDoc) → IsWritten old new key was now → IsDocGrown was now → HasGrown old new
written_grown old new key was now is grows = record {
  docs = grown_at old.docs new.docs key was now (ap (λ x. unwrap_or x nothing_kept) is.before) (put_at_key old.docs new.docs key (Some now) is.after is.others) grows;
  names = is.names;
}

-- one document's change is carried out
pub written_taken : (old new : SlotState) (key : Key) (was now : KeptDoc) (change : Change) → IsWritten old new key was now → SameDoc (with_change was change) now → IsHeld now → IsTaken old new key change
written_taken old new key was now change is same held = record {
  same = subst₂ (λ a b. SameDoc (with_change a change) b) (sym (ap (λ x. unwrap_or x nothing_kept) is.before)) (sym (ap (λ x. unwrap_or x nothing_kept) is.after)) same;
  held = subst IsHeld (sym (ap (λ x. unwrap_or x nothing_kept) is.after)) held;
  others = is.others;
  names = λ slot k _ e. is.names slot k e;
}

module _ (places : Places) (slots : Slab Slot) (placed : IsPlaced places slots) where
  pub named_there : (k : Key) (slot : ℕ) → at key_cmp places k ≡ Some slot → named (keys_in slots) slot ≡ Some k
  named_there k slot e = named_in slots slot ∙ placed.there k slot e

  -- what stands in a slot
  pub slot_found : (slot : ℕ) (s : Slot) → get slots slot ≡ Some s → at key_cmp (docs_in places slots) s.key ≡ Some s.held
  slot_found slot s is = docs_found places slots s.key slot (placed.back s.key slot (ap slot_key is)) ∙ ap (λ (x : Option Slot). Some (unwrap_or (option_map (λ t. t.held) x) nothing_kept)) is

  pub kept_found : (v : SlotState) (slot : ℕ) (s : Slot) (key : Key) → state_of places slots ≡ v → get slots slot ≡ Some s → named v.keys slot ≡ Some key → kept_at key_cmp v.docs key ≡ s.held
  kept_found v slot s key is found names =
      let at_key = found_named slots slot s key found (ap (λ w. named w.keys slot) is ∙ names) in
      ap (λ x. unwrap_or x nothing_kept) (ap (λ w. at key_cmp w.docs key) (sym is) ∙ ap (at key_cmp (docs_in places slots)) (sym at_key) ∙ slot_found slot s found)

  -- two keys have two slots
  apart : (k key : Key) (p q : ℕ) → at key_cmp places k ≡ Some p → slot_key (get slots q) ≡ Some key → eq_by_cmp key_cmp k key ≡ false → p ≢ q
  apart k key p q at_k at_key other = λ same.
      let both = sym (placed.there k p at_k) ∙ ap (λ r. slot_key (get slots r)) same ∙ at_key in
      true≢false (sym (eq_by_cmp-self key_order k) ∙ ap (eq_by_cmp key_cmp k) (same_some k key both) ∙ other)

  -- `s` in a slot is replaced by `t`, of the same key
  module _ (new : Slab Slot) (slot : ℕ) (s t : Slot) (was : get slots slot ≡ Some s) (same : t.key ≡ s.key) (put : Updates slots new slot (Some t)) where
    keys_stay : (p : ℕ) → slot_key (get new p) ≡ slot_key (get slots p)
    keys_stay p = ⊎_elim
        (λ here. ap (λ q. slot_key (get new q)) here ∙ ap slot_key put.changed ∙ ap Some same ∙ sym (ap slot_key was) ∙ sym (ap (λ q. slot_key (get slots q)) here))
        (λ there. ap slot_key (put.others p there))
        (cases_eq p slot)

    written_names : (p : ℕ) (k : Key) → named (keys_in slots) p ≡ Some k → named (keys_in new) p ≡ Some k
    written_names p k e = named_in new p ∙ keys_stay p ∙ sym (named_in slots p) ∙ e

    written_others : (k : Key) → eq_by_cmp key_cmp k s.key ≡ false → at key_cmp (docs_in places new) k ≡ at key_cmp (docs_in places slots) k
    written_others k other = at_docs places new k
        ∙ others_same slots new (at key_cmp places k) (λ p e. put.others p (apart k s.key p slot e (ap slot_key was) other))
        ∙ sym (at_docs places slots k)

    written_is : (v : SlotState) (key : Key) → state_of places slots ≡ v → named v.keys slot ≡ Some key → IsWritten v (state_of places new) key s.held t.held
    written_is v key is names =
        subst₂ (λ w k. IsWritten w (state_of places new) k s.held t.held) is (found_named slots slot s key was (ap (λ w. named w.keys slot) is ∙ names)) (record {
          before = slot_found slot s was;
          after = docs_found places new s.key slot (placed.back s.key slot (ap slot_key was)) ∙ ap (λ (x : Option Slot). Some (unwrap_or (option_map (λ r. r.held) x) nothing_kept)) put.changed;
          others = written_others;
          names = written_names;
        })

  -- the same, where only what is kept is replaced
  pub held_written : (slot : ℕ) (s : Slot) (held : KeptDoc) (v : SlotState) (key : Key) → get slots slot ≡ Some s → state_of places slots ≡ v → named v.keys slot ≡ Some key
      → IsWritten v (state_of places (with_value slots slot (record { key = s.key; held = held }))) key s.held held
  held_written slot s held v key was is names =
      let t : Slot = record { key = s.key; held = held } in
      written_is (with_value slots slot t) slot s t was refl (Updates-with_value slots slot t (ap is_some was)) v key is names

  -- `t` comes into an empty slot
  module _ (now : Places) (new : Slab Slot) (slot : ℕ) (t : Slot) (none : at key_cmp places t.key ≡ None) (vacant : get slots slot ≡ None) (put : Updates slots new slot (Some t))
      (change : (k : Key) → at key_cmp now k ≡ cond (is_eq (key_cmp t.key k)) (Some slot) (at key_cmp places k)) where
    placed_here : at key_cmp now t.key ≡ Some slot
    placed_here = put_here key_order places now t.key (Some slot) change

    placed_others : (k : Key) → eq_by_cmp key_cmp k t.key ≡ false → at key_cmp now k ≡ at key_cmp places k
    placed_others = put_others key_order places now t.key (Some slot) change

    other_slot : (k : Key) (p : ℕ) → slot_key (get slots p) ≡ Some k → p ≢ slot
    other_slot k p e = λ same. no_some k (sym (ap slot_key vacant) ∙ sym (ap (λ q. slot_key (get slots q)) same) ∙ e)

    added_there : (k : Key) (p : ℕ) → at key_cmp now k ≡ Some p → slot_key (get new p) ≡ Some k
    added_there k p e = elim (eq_by_cmp key_cmp k t.key) as (λ b. eq_by_cmp key_cmp k t.key ≡ b → slot_key (get new p) ≡ Some k) [
      | true ↦ λ h.
          let here = key_is key_order k t.key h in
          let is_slot = same_some p slot (sym e ∙ ap (at key_cmp now) here ∙ placed_here) in
          ap (λ q. slot_key (get new q)) is_slot ∙ ap slot_key put.changed ∙ ap Some (sym here)
      | false ↦ λ h.
          let was = placed.there k p (sym (placed_others k h) ∙ e) in
          ap slot_key (put.others p (other_slot k p was)) ∙ was
    ] refl

    added_back : (k : Key) (p : ℕ) → slot_key (get new p) ≡ Some k → at key_cmp now k ≡ Some p
    added_back k p e = ⊎_elim
        (λ here.
        let key = same_some t.key k (sym (ap slot_key put.changed) ∙ sym (ap (λ q. slot_key (get new q)) here) ∙ e) in
        sym (ap (at key_cmp now) key) ∙ placed_here ∙ ap Some (sym here))
        (λ there.
        let was = placed.back k p (sym (ap slot_key (put.others p there)) ∙ e) in
        elim (eq_by_cmp key_cmp k t.key) as (λ b. eq_by_cmp key_cmp k t.key ≡ b → at key_cmp now k ≡ Some p) [
          | true ↦ λ h. absurd (no_some p (sym none ∙ sym (ap (at key_cmp places) (key_is key_order k t.key h)) ∙ was))
          | false ↦ λ h. placed_others k h ∙ was
        ] refl)
        (cases_eq p slot)

    pub added_placed : IsPlaced now new
    added_placed = record { there = added_there; back = added_back }

    added_names : (p : ℕ) (k : Key) → named (keys_in slots) p ≡ Some k → named (keys_in new) p ≡ Some k
    added_names p k e =
        let was = sym (named_in slots p) ∙ e in
        named_in new p ∙ ap slot_key (put.others p (other_slot k p was)) ∙ was

    added_others : (k : Key) → eq_by_cmp key_cmp k t.key ≡ false → at key_cmp (docs_in now new) k ≡ at key_cmp (docs_in places slots) k
    added_others k other = at_docs now new k
        ∙ ap (option_map (held_at new)) (placed_others k other)
        ∙ others_same slots new (at key_cmp places k) (λ p e. put.others p (other_slot k p (placed.there k p e)))
        ∙ sym (at_docs places slots k)

    added_here : at key_cmp (docs_in now new) t.key ≡ Some t.held
    added_here = docs_found now new t.key slot placed_here ∙ ap (λ (x : Option Slot). Some (unwrap_or (option_map (λ r. r.held) x) nothing_kept)) put.changed

    pub added_is : t.held ≡ nothing_kept → IsAdded (state_of places slots) (state_of now new) t.key
    added_is empty =
        let here = added_here ∙ ap Some empty in
        record {
          grown = slot_grown (state_of places slots) (state_of now new) t.key (docs_lacking places slots t.key none) here added_others added_names;
          here = here;
          others = added_others;
        }

  -- `s` is taken out of its slot
  module _ (now : Places) (new : Slab Slot) (slot : ℕ) (s : Slot) (was : get slots slot ≡ Some s) (taken : Updates slots new slot None)
      (change : (k : Key) → at key_cmp now k ≡ cond (is_eq (key_cmp s.key k)) None (at key_cmp places k)) where
    gone_there : (k : Key) (p : ℕ) → at key_cmp now k ≡ Some p → slot_key (get new p) ≡ Some k
    gone_there k p e =
        let left = left_from key_order places now s.key change k p e in
        ap slot_key (taken.others p (apart k s.key p slot left.1 (ap slot_key was) left.0)) ∙ placed.there k p left.1

    gone_back : (k : Key) (p : ℕ) → slot_key (get new p) ≡ Some k → at key_cmp now k ≡ Some p
    gone_back k p e = ⊎_elim
        (λ here. absurd (no_some k (sym (ap slot_key taken.changed) ∙ sym (ap (λ q. slot_key (get new q)) here) ∙ e)))
        (λ there.
        let before = placed.back k p (sym (ap slot_key (taken.others p there)) ∙ e) in
        elim (eq_by_cmp key_cmp k s.key) as (λ b. eq_by_cmp key_cmp k s.key ≡ b → at key_cmp now k ≡ Some p) [
          | true ↦ λ h. absurd (there (same_some p slot (sym before ∙ ap (at key_cmp places) (key_is key_order k s.key h) ∙ placed.back s.key slot (ap slot_key was))))
          | false ↦ λ h. put_others key_order places now s.key None change k h ∙ before
        ] refl)
        (cases_eq p slot)

    pub gone_placed : IsPlaced now new
    gone_placed = record { there = gone_there; back = gone_back }

    gone_names : (p : ℕ) (k : Key) → eq_by_cmp key_cmp k s.key ≡ false → named (keys_in slots) p ≡ Some k → named (keys_in new) p ≡ Some k
    gone_names p k other e =
        let there = sym (named_in slots p) ∙ e in
        named_in new p ∙ ap slot_key (taken.others p (apart k s.key p slot (placed.back k p there) (ap slot_key was) other)) ∙ there

    gone_here : at key_cmp (docs_in now new) s.key ≡ None
    gone_here = docs_lacking now new s.key (put_here key_order places now s.key None change)

    gone_others : (k : Key) → eq_by_cmp key_cmp k s.key ≡ false → at key_cmp (docs_in now new) k ≡ at key_cmp (docs_in places slots) k
    gone_others k other = at_docs now new k
        ∙ ap (option_map (held_at new)) (put_others key_order places now s.key None change k other)
        ∙ others_same slots new (at key_cmp places k) (λ p e. taken.others p (apart k s.key p slot e (ap slot_key was) other))
        ∙ sym (at_docs places slots k)

    pub gone_is : IsGone (state_of places slots) (state_of now new) s.key s.held
    gone_is = record { before = slot_found slot s was; gone = gone_here; others = gone_others; names = gone_names }
