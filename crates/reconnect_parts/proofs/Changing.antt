-- A method that is there, changed in place.
use Rattle.std.specs.Prelude.{◌≡◌, ℕ, List, cond, Option, Some, None}
use Rattle.std.specs.Ordering.{eq_by_cmp}
use Rattle.std.specs.BTreeMap.{insert_entry}
use Rattle.std.proofs.Common.{sym, ap, ◌∙◌}
use Rattle.std.proofs.lemmas.Cmp.{nat_list_cmp_total, eq_by_cmp_equiv}
use Rattle.map_model.specs.Maps.{at, set, IsSorted}
use Rattle.map_model.specs.MapLaws.{same_maps, at-put, sorted-put}
use Rattle.value_model.specs.Order.{text_cmp}
use Rattle.ejson_value.specs.Key.{name_order}
use Rattle.reconnect_model.specs.Revival.{Called}
use Rattle.reconnect_model.specs.Giving.{changed_from}

pub put_is : (old new : List (List ℕ × Called)) (id : List ℕ) (x : Called) → IsSorted text_cmp old → IsSorted text_cmp new → ((q : List ℕ) → at text_cmp new q ≡ cond (eq_by_cmp text_cmp id q) (Some x) (at text_cmp old q)) → new ≡ set text_cmp old id (Some x)
put_is old new id x sorted rising is =
    same_maps name_order new (insert_entry text_cmp old id x) rising (sorted-put name_order old id x sorted)
    (λ q. is q ∙ (ap (λ b. cond b (Some x) (at text_cmp old q)) ((eq_by_cmp_equiv nat_list_cmp_total).symm id q) ∙ sym (at-put name_order old id x q)))

pub changed_is : (f : Called → Option Called) (old new : List (List ℕ × Called)) (id : List ℕ) (before after : Called) → Some before ≡ at text_cmp old id → Some after ≡ f before → new ≡ set text_cmp old id (Some after) → new ≡ changed_from f id old (at text_cmp old id)
changed_is f old new id before after there is put = put ∙ ap (λ (x : Option Called). set text_cmp old id x) is ∙ ap (λ o. changed_from f id old o) there

-- where none is there, nothing changes
pub changed_none : (f : Called → Option Called) (old : List (List ℕ × Called)) (id : List ℕ) → None ≡ at text_cmp old id → old ≡ changed_from f id old (at text_cmp old id)
changed_none f old id none = ap (λ o. changed_from f id old o) none
