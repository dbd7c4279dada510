-- A subscription that is turned, or stopped.
use Rattle.std.specs.Prelude.{Some, None}
use Rattle.std.specs.BTreeMap.{insert_entry}
use Rattle.std.specs.Ordering.{eq_by_cmp}
use Rattle.std.proofs.Common.{◌≡◌, ℕ, List, true, cond, sym, ap, ◌∙◌}
use Rattle.std.proofs.lemmas.Cmp.{nat_list_cmp_total, eq_by_cmp_equiv}
use Rattle.map_model.specs.Maps.{at, set, IsSorted}
use Rattle.map_model.specs.MapLaws.{same_maps, sorted-put, at-put, set-at}
use Rattle.value_model.specs.Order.{text_cmp}
use Rattle.ejson_value.specs.Key.{name_order}
use Rattle.client_model.specs.declared.subs.SubState.{SubState}
use Rattle.client_model.specs.Client.{Sub, Subs}
use Rattle.client_model.specs.Taking.{turned_from, turned}
use Rattle.client_model.specs.Asking.{stopped}

-- this one is put in place of the old one
pub put_is : (old new : Subs) (id : List ℕ) (sub : Sub) → IsSorted text_cmp old → IsSorted text_cmp new → ((q : List ℕ) → at text_cmp new q ≡ cond (eq_by_cmp text_cmp id q) (Some sub) (at text_cmp old q)) → new ≡ set text_cmp old id (Some sub)
put_is old new id sub sorted rising is =
    same_maps name_order new (insert_entry text_cmp old id sub) rising (sorted-put name_order old id sub sorted)
    (λ q. is q ∙ (ap (λ b. cond b (Some sub) (at text_cmp old q)) ((eq_by_cmp_equiv nat_list_cmp_total).symm id q) ∙ sym (at-put name_order old id sub q)))

pub turned_is : (old new : Subs) (id : List ℕ) (s : SubState) (before after : Sub) → Some before ≡ at text_cmp old id → after ≡ record before { state = s } → new ≡ set text_cmp old id (Some after) → new ≡ turned s id old
turned_is old new id s before after there is put = put ∙ ap (λ (x : Sub). set text_cmp old id (Some x)) is ∙ ap (λ o. turned_from o s id old) there

-- where none is there, nothing changes
pub turned_none : (old : Subs) (id : List ℕ) (s : SubState) → None ≡ at text_cmp old id → old ≡ turned s id old
turned_none old id s none = ap (λ o. turned_from o s id old) none

pub stopped_is : (old new : Subs) (id : List ℕ) (before after : Sub) → Some before ≡ at text_cmp old id → after ≡ record before { is_stopped = true } → new ≡ set text_cmp old id (Some after) → new ≡ set text_cmp old id (stopped (at text_cmp old id))
stopped_is old new id before after there is put = put ∙ ap (λ (x : Sub). set text_cmp old id (Some x)) is ∙ ap (λ o. set text_cmp old id (stopped o)) there

pub stopped_none : (old : Subs) (id : List ℕ) → IsSorted text_cmp old → None ≡ at text_cmp old id → old ≡ set text_cmp old id (stopped (at text_cmp old id))
stopped_none old id sorted none = sym (set-at name_order old id sorted) ∙ ap (set text_cmp old id) (sym none ∙ ap stopped none)
