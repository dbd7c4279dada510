-- Lists in their two forms.
use Rattle.std.specs.Prelude.{if◌then◌else◌, nat_le, ◌&&◌}
use Rattle.std.proofs.Common.{Bool, true, false, ◌≡◌, List, [], ◌∷◌, Some, None, refl, ap, ap₂, sym, ◌∙◌}
use Rattle.std.proofs.lemmas.Bool.{leb-true}
use Rattle.std.specs.List.{list_all}
use Rattle.value_model.specs.Val.{Val, val, vals_of}
use Rattle.value_model.specs.ValLaws.{list_of-vals_of}
use Rattle.ejson_value.specs.View.{view, views}
use Rattle.ejson_value.specs.declared.value.Value.{Value}
use Rattle.ejson_value.specs.declared.value.Value.TheVariants as shape
use Rattle.value_model.specs.Depth.{depth}
use Rattle.ejson_codec.specs.Reading.{max_levels}
use Rattle.ddp_messages.specs.Limits.{AreShallow}
use Rattle.line_parts.specs.Parts.{is_nil, params_in}

-- the parameters of a list that stands first
pub params_listed : (values : List Value) (first : Value) (rest : List Value) (items : List Val) (nothing few : Bool) → values ≡ first ∷ rest → first ≡ shape.List items →
    is_nil (vals_of (views rest)) ≡ nothing → list_all (λ v. nat_le (depth v) max_levels) items ≡ few → (if nothing && few then Some items else None) ≡ params_in (vals_of (views values))
params_listed values first rest items nothing few is is_list nil all =
    sym (ap (λ vs. params_in (vals_of (views vs))) is
    ∙ (ap (λ (v : Value). params_in (val (view v) (vals_of (views rest)))) is_list
    ∙ (ap (λ vs. if is_nil (vals_of (views rest)) && list_all (λ v. nat_le (depth v) max_levels) vs then Some vs else None) (list_of-vals_of items)
    ∙ ap₂ (λ a b. if a && b then Some items else None) nil all)))

both_true : (a b : Bool) → (a && b) ≡ true → (a ≡ true) × (b ≡ true)
both_true true b e = (refl, e)
both_true false b e = absurd (cc e)

all_shallow : (vs : List Val) → list_all (λ v. nat_le (depth v) max_levels) vs ≡ true → AreShallow vs
all_shallow [] e = tt
all_shallow (v ∷ vs) e =
    let both = both_true (nat_le (depth v) max_levels) (list_all (λ w. nat_le (depth w) max_levels) vs) e in (leb-true (depth v) max_levels both.0, all_shallow vs both.1)

-- a copy of values that have few levels
pub shallow_all : (copy vs : List Val) → copy ≡ vs → list_all (λ v. nat_le (depth v) max_levels) vs ≡ true → AreShallow copy
shallow_all copy vs is few = all_shallow copy (ap (list_all (λ v. nat_le (depth v) max_levels)) is ∙ few)

-- whether the values have few levels, from a test of their code
pub few_items : (slice : List Value) (items : List Val) (test few : Bool) → views slice ≡ items → test ≡ list_all (λ v. nat_le (depth v) max_levels) (views slice) → test ≡ few →
    list_all (λ v. nat_le (depth v) max_levels) items ≡ few
few_items slice items test few are is so = ap (list_all (λ v. nat_le (depth v) max_levels)) (sym are) ∙ (sym is ∙ so)
