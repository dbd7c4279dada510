-- The turns of the loops that write lists and documents.
use Rattle.std.proofs.Common.{◌≡◌, ℕ, ◌+◌, ◌<◌, List, [], ◌∷◌, ◌++◌, length, get_or, take, refl, sym, ap, ap₂, ◌∙◌, subst}
use Rattle.std.proofs.lemmas.Cmp.{nat_list_cmp_total}
use Rattle.std.proofs.lemmas.List.{map-append, take_more}
use Rattle.std.specs.List.Sorted.{IsStrictlySortedBy}
use Rattle.std.specs.Map.{keys_of}
use Rattle.map_model.specs.Orders.{IsAbove}
use Rattle.map_model.specs.OrderLaws.{IsAbove-from_sorted}
use Rattle.serde_json.specs.Data.{Data, Items, no_items, item, Members, no_members, member}
use Rattle.serde_json.specs.Data as json
use Rattle.serde_json.specs.View.{view as json_view}
use Rattle.serde_json.specs.View.{items_view}
use Rattle.serde_json.specs.declared.value.Value.{Value as Json}
use Rattle.value_model.specs.Val.{Val, object, Fields, Entries, vals_of, fields_of}
use Rattle.value_model.specs.Size.{is_special}
use Rattle.value_model.specs.Order.{text_cmp}
use Rattle.ejson_value.specs.declared.value.Value.{Value}
use Rattle.ejson_value.specs.View.{view, views, entries}
use Rattle.ejson_value.specs.Entries.{keys_of-entries}
use Rattle.ejson_codec.specs.Written.{escaped_if, written, items_written, members_written}
use Rattle.ejson_codec.specs.WrittenLaws.{keys_of_members-members_written}
use Rattle.ejson_codec.specs.Shape.{keys_of_members}
use Rattle.ejson_codec.proofs.Fields.{keys_of-append}

-- lists of trees and of values side by side, with one more at the end
one_more : (trees : List Json) (vs : List Val) (tree : Json) (v : Val) → items_view trees ≡ items_written (vals_of vs) → json_view tree ≡ written v
    → items_view (trees ++ tree ∷ []) ≡ items_written (vals_of (vs ++ v ∷ []))
one_more [] [] tree v so_far same = ap (λ (d : Data). item d no_items) same
one_more [] (w ∷ vs) tree v so_far same = absurd (cc so_far)
one_more (t ∷ trees) [] tree v so_far same = absurd (cc so_far)
one_more (t ∷ trees) (w ∷ vs) tree v so_far same =
    let first : json_view t ≡ written w = cc so_far in
    let rest : items_view trees ≡ items_written (vals_of vs) = cc so_far in
    ap₂ item first (one_more trees vs tree v rest same)

pub tree_more : (trees new : List Json) (tree : Json) (items : List Value) (i : ℕ) (value : Value) → new ≡ trees ++ tree ∷ [] → value ≡ get_or items i value → i < length items
    → json_view tree ≡ written (view value) → items_view trees ≡ items_written (vals_of (views (take i items)))
    → items_view new ≡ items_written (vals_of (views (take (i + 1) items)))
tree_more trees new tree items i value pushed is within same so_far =
    let more : take (i + 1) items ≡ take i items ++ value ∷ [] = take_more items i value within ∙ ap (λ (x : Value). take i items ++ x ∷ []) (sym is) in
    ap items_view pushed ∙ one_more trees (views (take i items)) tree (view value) so_far same
    ∙ sym (ap (λ (xs : List Value). items_written (vals_of (views xs))) more ∙ ap (λ (vs : List Val). items_written (vals_of vs)) (map-append view (take i items) (value ∷ [])))

-- a member whose key is above all others goes last
put_last : (es : Entries) (name : List ℕ) (v : Val) → IsAbove text_cmp name (keys_of es) → json.put name (written v) (members_written (fields_of es)) ≡ members_written (fields_of (es ++ (name, v) ∷ []))
put_last [] name v h = refl
put_last (e ∷ es) name v h = rw h.0 (ap (member e.0 (written e.1)) (put_last es name v h.1))

pub member_more : (all done : List (List ℕ × Value)) (name key : List ℕ) (value : Value) (more : List (List ℕ × Value)) (tree : Data) (old new : Members)
    → all ≡ done ++ (name, value) ∷ more → IsStrictlySortedBy text_cmp (keys_of all) → key ≡ name → tree ≡ written (view value) → new ≡ json.put key tree old
    → old ≡ members_written (fields_of (entries done)) → new ≡ members_written (fields_of (entries (done ++ (name, value) ∷ [])))
member_more all done name key value more tree old new is sorted named same put_there so_far =
    let whole : keys_of all ≡ keys_of (entries done) ++ name ∷ keys_of more =
    ap keys_of is ∙ keys_of-append done ((name, value) ∷ more) ∙ ap (λ (ks : List (List ℕ)). ks ++ name ∷ keys_of more) (sym (keys_of-entries done)) in
    put_there ∙ ap (λ (k : List ℕ). json.put k tree old) named ∙ ap (λ (d : Data). json.put name d old) same ∙ ap (json.put name (written (view value))) so_far
    ∙ put_last (entries done) name (view value) (IsAbove-from_sorted nat_list_cmp_total (keys_of (entries done)) name (keys_of more) (subst (IsStrictlySortedBy text_cmp) whole sorted))
    ∙ ap (λ (es : Entries). members_written (fields_of es)) (sym (map-append (λ (e : List ℕ × Value). (e.0, view e.1)) done ((name, value) ∷ [])))

-- a document's object, under `$escape` if its keys are special
pub object_written : (fs : Fields) (ms : Members) → ms ≡ members_written fs → escaped_if (is_special (keys_of_members ms)) ms ≡ written (object fs)
object_written fs ms is =
    ap (λ (x : Members). escaped_if (is_special (keys_of_members x)) x) is ∙ ap (λ (ks : List (List ℕ)). escaped_if (is_special ks) (members_written fs)) (keys_of_members-members_written fs)
