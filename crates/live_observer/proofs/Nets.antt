-- What a cursor without a limit tells is what it publishes otherwise afterwards.
use Rattle.std.proofs.Common.{◌≡◌, ℕ, true, false, cond, List, [], ◌∷◌, Option, None, Some, refl, ap, sym, subst, ◌∙◌}
use Rattle.std.specs.Prelude.{option_and_then, ◌&&◌, if◌then◌else◌}
use Rattle.std.specs.Ordering.{eq_by_cmp}
use Rattle.std.proofs.lemmas.Option.{none-some, same_Some}
use Rattle.std.proofs.lemmas.Slice.Eq.{bytes_eq-Decides}
use Rattle.map_model.specs.Maps.{at, set, IsSorted}
use Rattle.map_model.specs.MapLaws.{at-put, sorted-set, key_is, at-filter_map_entries, sorted-filter_map_entries}
use Rattle.map_model.specs.Changes as model
use Rattle.value_model.specs.Val.{Entries, fields_of, entries_of}
use Rattle.value_model.specs.Order.{text_cmp}
use Rattle.ejson_value.specs.declared.change.Change.{Change}
use Rattle.ejson_value.specs.Key.{key_cmp, key_of, key_order, name_order}
use Rattle.ejson_value.specs.Rows.{Rows}
use Rattle.ejson_value.specs.Changes.{changes_of}
use Rattle.selector_match.specs.Holds.{holds}
use Rattle.sort_window.specs.Shown.{IsTold}
use Rattle.sort_window.proofs.Placed.{doc_is, doc_itself, never_both}
use Rattle.publication.specs.declared.cursor.Cursor.{Cursor}
use Rattle.publication.specs.Projected.{projected}
use Rattle.publication.specs.Published.{matching, rank, is_within, published_of}
use Rattle.live_observer.specs.declared.plain.Net.{Net}
use Rattle.live_observer.specs.Observing.{is_own}
use Rattle.live_observer.specs.Noting.{seen, plain, NetMap, before_first, net_of, noted, all_noted, is_same, net_told, all_told}
use Rattle.live_observer.proofs.News.{own_at, other_at}

-- what is noted of an id, by what was published and what is
abbrev pub IsNet : Option Net → Option Entries → Option Entries → Type 0
IsNet None old new = old ≡ new
IsNet (Some net) old new = (net.before ≡ old) × (net.after ≡ new)

net_with : (held : Option Net) (old new new' : Option Entries) → new ≡ new' → IsNet held old new → IsNet held old new'
net_with held old new new' e net = subst (IsNet held old) e net

module _ (cursor : Cursor) where
  abbrev in_rows : Rows → List ℕ → Option Entries
  in_rows rows id = plain cursor id (at key_cmp rows (key_of cursor.collection id))

  abbrev pub AreNets : Rows → Rows → NetMap → Type 0
  AreNets rows rows' nets = (id : List ℕ) → IsNet (at text_cmp nets id) (in_rows rows id) (in_rows rows' id)

  first_is : (held : Option Net) (change : Change) (old : Option Entries) → IsNet held old (plain cursor change.key.id change.before) → before_first cursor change held ≡ old
  first_is None change old net = sym net
  first_is (Some n) change old net = net.0

  own_net : (rows now : Rows) (nets : NetMap) (change : Change) → IsSorted key_cmp now → at key_cmp now change.key ≡ change.before → is_own cursor change ≡ true → AreNets rows now nets →
      AreNets rows (set key_cmp now change.key change.after) (set text_cmp nets change.key.id (Some (net_of cursor (at text_cmp nets change.key.id) change)))
  own_net rows now nets change s fits own are id =
      let c = cursor.collection in
      let k = change.key.id in
      let of : change.key.collection ≡ c = sym ((bytes_eq-Decides c change.key.collection).0 own) in
      let is : key_of c k ≡ change.key = ap (λ n. key_of n k) (sym of) in
      let new = net_of cursor (at text_cmp nets k) change in
      let stood : in_rows now k ≡ plain cursor k change.before = ap (plain cursor k) (ap (at key_cmp now) is ∙ fits) in
      let first : new.before ≡ in_rows rows k = first_is (at text_cmp nets k) change (in_rows rows k) (net_with (at text_cmp nets k) (in_rows rows k) (in_rows now k) (plain cursor k change.before) stood (are k)) in
      let after = own_at c now change.key change.after id s own in
      subst (λ w. IsNet w (in_rows rows id) (in_rows (set key_cmp now change.key change.after) id)) (sym (at-put name_order nets k new id))
      (subst (λ o. IsNet (cond (eq_by_cmp text_cmp id k) (Some new) (at text_cmp nets id)) (in_rows rows id) (plain cursor id o)) (sym after)
      (elim (eq_by_cmp text_cmp id k)
      as (λ b. eq_by_cmp text_cmp id k ≡ b → IsNet (cond b (Some new) (at text_cmp nets id)) (in_rows rows id) (plain cursor id (cond b change.after (at key_cmp now (key_of c id))))) [
        | true ↦ λ e.
            let here : id ≡ k = key_is name_order id k e in
            (first ∙ sym (ap (in_rows rows) here), sym (ap (λ i. plain cursor i change.after) here))
        | false ↦ λ e. are id
      ] refl))

  one_net : (rows now : Rows) (nets : NetMap) (change : Change) → IsSorted key_cmp now → at key_cmp now change.key ≡ change.before → AreNets rows now nets → AreNets rows (set key_cmp now change.key change.after) (noted cursor nets change)
  one_net rows now nets change s fits are =
      elim (is_own cursor change)
      as (λ b. is_own cursor change ≡ b → AreNets rows (set key_cmp now change.key change.after) (if b then set text_cmp nets change.key.id (Some (net_of cursor (at text_cmp nets change.key.id) change)) else nets)) [
        | true ↦ λ own. own_net rows now nets change s fits own are
        | false ↦ λ other id.
            net_with (at text_cmp nets id) (in_rows rows id) (in_rows now id) (in_rows (set key_cmp now change.key change.after) id) (sym (ap (plain cursor id) (other_at cursor.collection now change.key change.after id s other))) (are id)
      ] refl

  pub all_are_nets : (rows now : Rows) (nets : NetMap) (changes : List Change) → IsSorted key_cmp now → model.Fit key_cmp now (changes_of changes) → AreNets rows now nets → AreNets rows (model.changed key_cmp now (changes_of changes)) (all_noted cursor nets changes)
  all_are_nets rows now nets [] s fit are = are
  all_are_nets rows now nets (change ∷ changes) s fit are =
      all_are_nets rows (set key_cmp now change.key change.after) (noted cursor nets change) changes (sorted-set key_order now change.key change.after s) fit.1 (one_net rows now nets change s fit.0 are)

  sorted_noted : (nets : NetMap) (change : Change) → IsSorted text_cmp nets → IsSorted text_cmp (noted cursor nets change)
  sorted_noted nets change s =
      let id = change.key.id in
      let net = net_of cursor (at text_cmp nets id) change in
      elim (is_own cursor change) as (λ b. IsSorted text_cmp (if b then set text_cmp nets id (Some net) else nets)) [
        | true ↦ sorted-set name_order nets id (Some net) s
        | false ↦ s
      ]

  pub sorted_all_noted : (nets : NetMap) (changes : List Change) → IsSorted text_cmp nets
      → IsSorted text_cmp (all_noted cursor nets changes)
  sorted_all_noted nets [] s = s
  sorted_all_noted nets (change ∷ changes) s = sorted_all_noted (noted cursor nets change) changes (sorted_noted nets change s)

  plain_if : (rows : Rows) (id : List ℕ) → cursor.limit ≡ None → (o : Option Entries) → option_and_then (published_of cursor rows id) o ≡ plain cursor id o
  plain_if rows id e None = refl
  plain_if rows id e (Some d) =
      let shown = Some (entries_of (projected cursor.fields (fields_of d))) in
      elim (holds cursor.selector id d) as (λ b. (if b && is_within cursor.limit (rank cursor (matching cursor rows) id d) then shown else None) ≡ (if b then shown else None)) [
        | true ↦ ap (λ l. if is_within l (rank cursor (matching cursor rows) id d) then shown else None) e
        | false ↦ refl
      ]

  -- without a limit the cursor publishes each document that its selector holds of
  pub seen_plain : (rows : Rows) (id : List ℕ) → cursor.limit ≡ None → seen cursor rows id ≡ in_rows rows id
  seen_plain rows id e = plain_if rows id e (at key_cmp rows (key_of cursor.collection id))

same_is : (a b : Option Entries) → is_same a b ≡ true → a ≡ b
same_is None None e = refl
same_is None (Some b) e = cc
same_is (Some a) None e = cc
same_is (Some a) (Some b) e = ap (λ (d : Entries). Some d) (doc_is a b e)

same_itself : (a : Option Entries) → is_same a a ≡ true
same_itself None = refl
same_itself (Some a) = doc_itself a

apart_is : (a b : Option Entries) → is_same a b ≡ false → a ≡ b → ⊥
apart_is a b e same = never_both (is_same a b) (subst (λ x. is_same a x ≡ true) same (same_itself a)) e

-- what is told of an id, by what is noted of it
module _ (id : List ℕ) (old new : Option Entries) where
  quiet_if : (held : Option Net) → IsNet held old new → option_and_then (net_told id) held ≡ None → old ≡ new
  quiet_if None net none = net
  quiet_if (Some n) net none =
      elim (is_same n.before n.after) as (λ b. is_same n.before n.after ≡ b → (if b then None else Some n.after) ≡ None → old ≡ new) [
        | true ↦ λ e f. sym net.0 ∙ same_is n.before n.after e ∙ net.1
        | false ↦ λ e f. absurd (none-some n.after (sym f))
      ] refl none

  news_if : (held : Option Net) (doc : Option Entries) → IsNet held old new → option_and_then (net_told id) held ≡ Some doc → (doc ≡ new) × (old ≡ new → ⊥)
  news_if None doc net some = absurd (none-some doc some)
  news_if (Some n) doc net some =
      elim (is_same n.before n.after) as (λ b. is_same n.before n.after ≡ b → (if b then None else Some n.after) ≡ Some doc → (doc ≡ new) × (old ≡ new → ⊥)) [
        | true ↦ λ e f. absurd (none-some doc f)
        | false ↦ λ e f. (sym (same_Some n.after doc f) ∙ net.1, λ same. apart_is n.before n.after e (net.0 ∙ same ∙ sym net.1))
      ] refl some

pub nets_told : (cursor : Cursor) (rows rows' : Rows) (nets : NetMap) → cursor.limit ≡ None → IsSorted text_cmp nets → AreNets cursor rows rows' nets → IsTold (seen cursor rows) (seen cursor rows') (all_told nets)
nets_told cursor rows rows' nets none s are =
    let told = λ (id : List ℕ). at-filter_map_entries name_order net_told nets id s in
    let was = λ (id : List ℕ). seen_plain cursor rows id none in
    let is = λ (id : List ℕ). seen_plain cursor rows' id none in
    record {
      by_id = sorted-filter_map_entries text_cmp net_told nets s;
      quiet = λ id e. was id ∙ quiet_if id (in_rows cursor rows id) (in_rows cursor rows' id) (at text_cmp nets id) (are id) (sym (told id) ∙ e) ∙ sym (is id);
      news = λ id doc e.
          let both = news_if id (in_rows cursor rows id) (in_rows cursor rows' id) (at text_cmp nets id) doc (are id) (sym (told id) ∙ e) in
          (both.0 ∙ sym (is id), λ same. both.1 (sym (was id) ∙ same ∙ is id));
    }
