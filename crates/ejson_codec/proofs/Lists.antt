-- The turns of the loop that reads a list.
use Rattle.std.proofs.Common.{◌≡◌, ℕ, ◌+◌, ◌<◌, List, [], ◌∷◌, ◌++◌, length, get_or, drop, Result, Ok, Err, refl, sym, ap, ◌∙◌, add-one, drop-cons}
use Rattle.serde_json.specs.View.{view as json_view, items_view}
use Rattle.serde_json.specs.declared.value.Value.{Value as Json}
use Rattle.value_model.specs.Val.{Val}
use Rattle.ejson_codec.specs.Reading.{with_item, reading, items_reading}
use Rattle.ejson_codec.proofs.Turns.{with_items, with_items-with_item, with_items-nil}
use Rattle.ejson_codec.specs.declared.fault.EjsonFault.{EjsonFault}

-- the rest begins with this tree
items_from : (levels : ℕ) (trees : List Json) (i : ℕ) (tree : Json) → tree ≡ get_or trees i tree → i < length trees
    → items_reading levels (items_view (drop i trees)) ≡ with_item (reading levels (json_view tree)) (items_reading levels (items_view (drop (i + 1) trees)))
items_from levels trees i tree is within =
    let more : drop i trees ≡ get_or trees i tree ∷ drop (i + 1) trees = rw (add-one, drop-cons trees i tree) refl in
    ap (λ (ts : List Json). items_reading levels (items_view ts)) (more ∙ ap (λ (t : Json). t ∷ drop (i + 1) trees) (sym is))

pub no_item_yet : (levels : ℕ) (trees : List Json) (front : List Val) → front ≡ [] → items_reading levels (items_view trees) ≡ with_items front (items_reading levels (items_view (drop 0 trees)))
no_item_yet levels trees front is = rw is (sym (with_items-nil (items_reading levels (items_view trees))))

pub item_more : (levels : ℕ) (trees : List Json) (i : ℕ) (tree : Json) (v : Val) (front items : List Val) (all : Result (List Val) EjsonFault)
    → tree ≡ get_or trees i tree → i < length trees → reading levels (json_view tree) ≡ Ok v → items ≡ front ++ v ∷ []
    → all ≡ with_items front (items_reading levels (items_view (drop i trees)))
    → all ≡ with_items items (items_reading levels (items_view (drop (i + 1) trees)))
item_more levels trees i tree v front items all is within read new so_far =
    so_far ∙ ap (with_items front) (items_from levels trees i tree is within ∙ ap (λ (r : Result Val EjsonFault). with_item r (items_reading levels (items_view (drop (i + 1) trees)))) read)
    ∙ with_items-with_item front v (items_reading levels (items_view (drop (i + 1) trees)))
    ∙ ap (λ (vs : List Val). with_items vs (items_reading levels (items_view (drop (i + 1) trees)))) (sym new)

pub item_fails : (levels : ℕ) (trees : List Json) (i : ℕ) (tree : Json) (e : EjsonFault) (front : List Val) (all : Result (List Val) EjsonFault)
    → tree ≡ get_or trees i tree → i < length trees → reading levels (json_view tree) ≡ Err e
    → all ≡ with_items front (items_reading levels (items_view (drop i trees)))
    → all ≡ Err e
item_fails levels trees i tree e front all is within refused so_far =
    so_far ∙ ap (with_items front) (items_from levels trees i tree is within ∙ ap (λ (r : Result Val EjsonFault). with_item r (items_reading levels (items_view (drop (i + 1) trees)))) refused)
