-- Lemmas of the loops that fill the parts of a value one after another.
use Rattle.std.proofs.Common.{◌≡◌, ℕ, List, [], ◌∷◌, ◌++◌, Ok, Err, refl, ap, sym, subst, ◌∙◌}
use Rattle.std.proofs.lemmas.List.{map-append}
use Rattle.std.proofs.lemmas.Cmp.{nat_list_cmp_total}
use Rattle.std.specs.Map.{keys_of}
use Rattle.std.specs.List.Sorted.{IsStrictlySortedBy}
use Rattle.map_model.specs.Orders.{IsAbove}
use Rattle.map_model.specs.OrderLaws.{put_last, IsAbove-from_sorted}
use Rattle.value_model.specs.Val.{Val, no_vals, val, vals_of, Fields, no_fields, field, fields_of, Entries}
use Rattle.value_model.specs.Order.{text_cmp}
use Rattle.value_model.specs.Doc.{put}
use Rattle.ejson_value.specs.declared.value.Value.{Value}
use Rattle.ejson_value.specs.Results.{made, with_both, after}
use Rattle.ejson_value.specs.ResultLaws.{after-append}
use Rattle.program_steps.specs.Template.{Filling}

pub after-vals : (vs : List Val) → after val vs no_vals ≡ vals_of vs
after-vals [] = refl
after-vals (v ∷ vs) = ap (λ r. val v r) (after-vals vs)

-- a field before others
abbrev pub field_before : List ℕ × Val → Fields → Fields
field_before e fs = field e.0 e.1 fs

pub after-fields : (es : Entries) → after field_before es no_fields ≡ fields_of es
after-fields [] = refl
after-fields (e ∷ es) = ap (λ r. field e.0 e.1 r) (after-fields es)

pub field_more : (es : Entries) (name : List ℕ) (x : Val) (c : Filling Val) (r : Filling Fields) → c ≡ Ok x →
    made (λ q. after field_before es q) (with_both (λ w ws. field name w ws) c r) ≡ made (λ q. after field_before (es ++ (name, x) ∷ []) q) r
field_more es name x c (Ok q) is = ap (λ o. made (λ q. after field_before es q) (with_both (λ w ws. field name w ws) o (Ok q))) is ∙ ap (λ s. Ok s) (sym (after-append field_before es (name, x) q))
field_more es name x c (Err e) is = ap (λ o. made (λ q. after field_before es q) (with_both (λ w ws. field name w ws) o (Err e))) is

-- A document whose names are those of the fields so far gets the next field at its end.
pub put_behind : (all done : List (List ℕ × Value)) (name : List ℕ) (v : Value) (more : List (List ℕ × Value)) (so_far : Entries) (w : Val) →
    all ≡ done ++ (name, v) ∷ more → IsStrictlySortedBy text_cmp (keys_of all) → keys_of so_far ≡ keys_of done → put so_far name w ≡ so_far ++ (name, w) ∷ []
put_behind all done name v more so_far w is sorted same =
    let above = IsAbove-from_sorted nat_list_cmp_total (keys_of done) name (keys_of more) (subst (IsStrictlySortedBy text_cmp) (ap keys_of is ∙ map-append (λ (e : List ℕ × Value). e.0) done ((name, v) ∷ more)) sorted) in
    put_last text_cmp so_far name w (subst (IsAbove text_cmp name) (sym same) above)
