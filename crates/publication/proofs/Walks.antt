-- Lemmas of the loops that project the parts of a value one after another.
use Rattle.std.specs.Prelude.{option_to_list}
use Rattle.std.proofs.Common.{◌≡◌, ℕ, Bool, Option, None, Some, List, [], ◌∷◌, ◌++◌, refl, ap, ◌∙◌}
use Rattle.std.proofs.lemmas.Cmp.{nat_list_cmp_total}
use Rattle.map_model.specs.Maps.{IsSorted, keyed, filter_map_entries}
use Rattle.map_model.specs.OrderLaws.{put_next, pass_next}
use Rattle.value_model.specs.Val.{Val, Vals, no_vals, val, vals_of, field, fields_of}
use Rattle.value_model.specs.Order.{text_cmp}
use Rattle.ejson_value.specs.declared.value.Value.{Value}
use Rattle.ejson_value.specs.View.{view, entries}
use Rattle.publication.specs.Parts.{put_some}
use Rattle.publication.specs.Projected.{APath, element_before, field_before, value_projected, elements_projected, fields_projected, at_field}

-- what is left of more elements, behind those so far
abbrev pub elements_behind : Bool → List APath → List Val → Vals → List Val
elements_behind including paths so_far no_vals = so_far
elements_behind including paths so_far (val v vs) = elements_behind including paths (so_far ++ option_to_list (value_projected including paths v)) vs

abbrev pub after : List Val → Vals → Vals
after [] vs = vs
after (w ∷ ws) vs = val w (after ws vs)

after-none : (ws : List Val) → vals_of ws ≡ after ws no_vals
after-none [] = refl
after-none (w ∷ ws) = ap (λ vs. val w vs) (after-none ws)

after-one : (ws : List Val) (o : Option Val) (vs : Vals) → after (ws ++ option_to_list o) vs ≡ after ws (element_before o vs)
after-one [] None vs = refl
after-one [] (Some w) vs = refl
after-one (w ∷ ws) o vs = ap (λ r. val w r) (after-one ws o vs)

elements_behind-is : (including : Bool) (paths : List APath) (so_far : List Val) (vs : Vals) → vals_of (elements_behind including paths so_far vs) ≡ after so_far (elements_projected including paths vs)
elements_behind-is including paths so_far no_vals = after-none so_far
elements_behind-is including paths so_far (val v vs) =
    elements_behind-is including paths (so_far ++ option_to_list (value_projected including paths v)) vs ∙ after-one so_far (value_projected including paths v) (elements_projected including paths vs)

pub elements_behind-none : (including : Bool) (paths : List APath) (vs : Vals) → vals_of (elements_behind including paths [] vs) ≡ elements_projected including paths vs
elements_behind-none including paths vs = elements_behind-is including paths [] vs

-- what is left of each field
abbrev pub left_of : Bool → List APath → List ℕ → Value → Option Val
left_of including paths name v = at_field including paths name (view v)

pub fields_left : (including : Bool) (paths : List APath) (es : List (List ℕ × Value)) → fields_of (filter_map_entries (left_of including paths) es) ≡ fields_projected including paths (fields_of (entries es))
fields_left including paths [] = refl
fields_left including paths (e ∷ es) =
    let rest = fields_left including paths es in
    elim (left_of including paths e.0 e.1)
    as (λ w. fields_of (keyed e.0 w (filter_map_entries (left_of including paths) es)) ≡ field_before e.0 w (fields_projected including paths (fields_of (entries es))))
    [ None ↦ rest | Some v ↦ ap (λ fs. field e.0 v fs) rest ]

pub next_field : (f : List ℕ → Value → Option Val) (done : List (List ℕ × Value)) (name : List ℕ) (v : Value) (more : List (List ℕ × Value)) (w : Option Val) →
    IsSorted text_cmp (done ++ (name, v) ∷ more) → f name v ≡ w → put_some (filter_map_entries f done) name w ≡ filter_map_entries f (done ++ (name, v) ∷ [])
next_field f done name v more None s is = pass_next f done (name, v) is
next_field f done name v more (Some x) s is = put_next nat_list_cmp_total f done (name, v) more x s is
