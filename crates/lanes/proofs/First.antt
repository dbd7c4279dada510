-- The first name of a range.
use Rattle.std.specs.Prelude.{◌≡◌, ℕ, List, ◌∷◌, true, false, Option, Some, None, is_some, IsSome, IfSome, slice_get, refl}
use Rattle.std.specs.declared.cmp.Ordering.{Ordering}
use Rattle.std.specs.declared.cmp.Ordering.TheVariants.{Less, Equal, Greater}
use Rattle.std.specs.Ordering.{is_gt, is_lt, is_le}
use Rattle.std.specs.Cmp.{tied_itself}
use Rattle.std.proofs.Common.{ap, sym, subst, ◌∙◌}
use Rattle.map_model.specs.Maps.{at}
use Rattle.value_model.specs.Order.{text_cmp}
use Rattle.ejson_value.specs.Key.{name_order}
use Rattle.lanes.specs.Names.{TheNames, NoneFrom, IsLeastFrom}

not_greater : (o : Ordering) → is_le o ≡ true → is_gt o ≡ false
not_greater Less e = refl
not_greater Equal e = refl
not_greater Greater e = cc e

not_greater_le : (o : Ordering) → is_gt o ≡ false → is_le o ≡ true
not_greater_le Less e = refl
not_greater_le Equal e = refl
not_greater_le Greater e = cc e

none_unless : {X : Type 0} (o : Option X) → (IsSome o → ⊥) → o ≡ None
none_unless None f = refl
none_unless (Some x) f = absurd (f refl)

-- where the range is empty, there is none
pub none_from : (from : List ℕ) (names : TheNames) → ((q : List ℕ) → (is_gt (text_cmp from q) ≡ false) × Unit {0} → at text_cmp names q ≡ None) → NoneFrom from names
none_from from names none = λ q le. none q (not_greater (text_cmp from q) le, tt)

-- else its first is the least
pub least_from : (from : List ℕ) (names range : TheNames) (name : List ℕ) (x : Unit {0}) (more : TheNames) → range ≡ (name, x) ∷ more
    → IfSome (slice_get range 0) (λ e. ((is_gt (text_cmp from e.0) ≡ false) × Unit {0}) × (at text_cmp names e.0 ≡ Some e.1))
    → ((q : List ℕ) → (is_gt (text_cmp from q) ≡ false) × Unit {0} → IsSome (at text_cmp names q) → IfSome (slice_get range 0) (λ e. is_gt (text_cmp e.0 q) ≡ false)) → IsLeastFrom from names name
least_from from names range name x more is among least =
    let one : ((is_gt (text_cmp from name) ≡ false) × Unit {0}) × (at text_cmp names name ≡ Some x) =
    subst (λ (es : TheNames). IfSome (slice_get es 0) (λ e. ((is_gt (text_cmp from e.0) ≡ false) × Unit {0}) × (at text_cmp names e.0 ≡ Some e.1))) is among in
    record {
      behind = not_greater_le (text_cmp from name) one.0.0;
      there = ap is_some one.1;
      least = λ q le less. none_unless (at text_cmp names q) (λ there.
          clash q name less (subst (λ (es : TheNames). IfSome (slice_get es 0) (λ e. is_gt (text_cmp e.0 q) ≡ false)) is (least q (not_greater (text_cmp from q) le, tt) there)));
    }
  where
    is_less : (o : Ordering) → is_lt o ≡ true → o ≡ Less
    is_less Less e = refl
    is_less Equal e = cc e
    is_less Greater e = cc e

    by : (q name : List ℕ) (o : Ordering) → text_cmp q name ≡ Less → text_cmp name q ≡ o → is_gt o ≡ false → ⊥
    by q name Less first second e = cc (sym (name_order.total.trans q name q first second) ∙ tied_itself name_order.total q)
    by q name Equal first second e = cc (sym first ∙ (ap (λ (n : List ℕ). text_cmp q n) (name_order.exact name q second) ∙ tied_itself name_order.total q))
    by q name Greater first second e = cc e

    clash : (q name : List ℕ) → is_lt (text_cmp q name) ≡ true → is_gt (text_cmp name q) ≡ false → ⊥
    clash q name less le = by q name (text_cmp name q) (is_less (text_cmp q name) less) refl le
