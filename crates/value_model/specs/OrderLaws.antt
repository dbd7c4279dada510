-- Laws of the order of values: only equal values tie, and each pair answers the other way round as its reverse.
use Rattle.std.specs.Prelude.{◌≡◌, ◌↔◌, ◌<◌, ◌≤◌, Bool, true, false, length, IsTrue, refl}
use Rattle.std.proofs.Common.{ap, ◌∙◌, sym, arith}
use Rattle.std.specs.declared.cmp.Ordering.{Ordering}
use Rattle.std.specs.declared.cmp.Ordering.TheVariants.{Less, Equal, Greater}
use Rattle.std.specs.Ordering.{nat_cmp, bool_cmp, ordering_then, ordering_reverse, is_eq}
use Rattle.std.specs.Cmp.{IsTotalOrder, then_flip, bool_cmp_total, nat_cmp_is}
use Rattle.std.specs.Cmp.Lexicographic.{slice_cmp}
use Rattle.std.proofs.lemmas.Cmp.{nat_cmp_total, int_cmp_total, nat_list_cmp_total, ranked, alike_right}
use Rattle.std.proofs.lemmas.Map.Lookups.{exact_signed, exact_bytes}
use Rattle.value_model.specs.Val.{Val, null, boolean, int, text, date, bytes, list, object, user, Vals, no_vals, val, Fields, no_fields, field}
use Rattle.value_model.specs.Order.{text_cmp, kind, compare, vals_cmp, fields_cmp}
use Rattle.value_model.specs.TruthLaws.{equal_of}

-- two orders, one after the other, tie where both do
pub then_ties : (a b : Ordering) → ordering_then a b ≡ Equal → (a ≡ Equal) × (b ≡ Equal)
then_ties Less b e = cc
then_ties Equal b e = (refl, e)
then_ties Greater b e = cc

pub bool_ties : (a b : Bool) → bool_cmp a b ≡ Equal → a ≡ b
bool_ties false false e = refl
bool_ties false true e = cc
bool_ties true false e = cc
bool_ties true true e = refl

pub then_reverse : (a b c d : Ordering) → a ≡ ordering_reverse b → c ≡ ordering_reverse d → ordering_then a c ≡ ordering_reverse (ordering_then b d)
then_reverse a b c d e f = ap (λ x. ordering_then x c) e ∙ (ap (λ x. ordering_then (ordering_reverse b) x) f ∙ then_flip b d)

mutual
  pub compare_ties : (a b : Val) → compare a b ≡ Equal → a ≡ b
  compare_ties null null e = refl
  compare_ties (int a) (int b) e = ap int (exact_signed a b e)
  compare_ties (text a) (text b) e = ap text (exact_bytes a b e)
  compare_ties (object a) (object b) e = ap object (fields_ties a b e)
  compare_ties (list a) (list b) e = ap list (vals_ties a b e)
  compare_ties (bytes a) (bytes b) e = ap bytes (exact_bytes a b ((then_ties (nat_cmp (length a) (length b)) (slice_cmp nat_cmp a b) e).1))
  compare_ties (boolean a) (boolean b) e = ap boolean (bool_ties a b e)
  compare_ties (date a) (date b) e = ap date (exact_signed a b e)
  compare_ties (user m v) (user n w) e =
      let both = then_ties (text_cmp m n) (compare v w) e in
      ap (λ x. user x v) (exact_bytes m n both.0) ∙ ap (λ x. user n x) (compare_ties v w both.1)
  compare_ties a b e = cc

  pub vals_ties : (a b : Vals) → vals_cmp a b ≡ Equal → a ≡ b
  vals_ties no_vals no_vals e = refl
  vals_ties no_vals (val w ws) e = cc
  vals_ties (val v vs) no_vals e = cc
  vals_ties (val v vs) (val w ws) e =
      let both = then_ties (compare v w) (vals_cmp vs ws) e in
      ap (λ x. val x vs) (compare_ties v w both.0) ∙ ap (λ xs. val w xs) (vals_ties vs ws both.1)

  pub fields_ties : (a b : Fields) → fields_cmp a b ≡ Equal → a ≡ b
  fields_ties no_fields no_fields e = refl
  fields_ties no_fields (field n w ws) e = cc
  fields_ties (field m v vs) no_fields e = cc
  fields_ties (field m v vs) (field n w ws) e =
      let names = then_ties (text_cmp m n) (ordering_then (compare v w) (fields_cmp vs ws)) e in
      let both = then_ties (compare v w) (fields_cmp vs ws) names.1 in
      ap (λ x. field x v vs) (exact_bytes m n names.0) ∙ (ap (λ x. field n x vs) (compare_ties v w both.0) ∙ ap (λ xs. field n w xs) (fields_ties vs ws both.1))

mutual
  pub compare_reverse : (a b : Val) → compare a b ≡ ordering_reverse (compare b a)
  compare_reverse null null = refl
  compare_reverse (int a) (int b) = int_cmp_total.antisymm a b
  compare_reverse (text a) (text b) = nat_list_cmp_total.antisymm a b
  compare_reverse (object a) (object b) = fields_reverse a b
  compare_reverse (list a) (list b) = vals_reverse a b
  compare_reverse (bytes a) (bytes b) = then_reverse _ _ _ _ (nat_cmp_total.antisymm (length a) (length b)) (nat_list_cmp_total.antisymm a b)
  compare_reverse (boolean a) (boolean b) = bool_cmp_total.antisymm a b
  compare_reverse (date a) (date b) = int_cmp_total.antisymm a b
  compare_reverse (user m v) (user n w) = then_reverse _ _ _ _ (nat_list_cmp_total.antisymm m n) (compare_reverse v w)
  compare_reverse a b = nat_cmp_total.antisymm (kind a) (kind b)

  pub vals_reverse : (a b : Vals) → vals_cmp a b ≡ ordering_reverse (vals_cmp b a)
  vals_reverse no_vals no_vals = refl
  vals_reverse no_vals (val w ws) = refl
  vals_reverse (val v vs) no_vals = refl
  vals_reverse (val v vs) (val w ws) = then_reverse _ _ _ _ (compare_reverse v w) (vals_reverse vs ws)

  pub fields_reverse : (a b : Fields) → fields_cmp a b ≡ ordering_reverse (fields_cmp b a)
  fields_reverse no_fields no_fields = refl
  fields_reverse no_fields (field n w ws) = refl
  fields_reverse (field m v vs) no_fields = refl
  fields_reverse (field m v vs) (field n w ws) =
      then_reverse _ _ _ _ (nat_list_cmp_total.antisymm m n) (then_reverse _ _ _ _ (compare_reverse v w) (fields_reverse vs ws))

-- an order that answers as its own reverse does at one value ties there
pub own_reverse_ties : (o : Ordering) → o ≡ ordering_reverse o → o ≡ Equal
own_reverse_ties Less e = cc
own_reverse_ties Equal e = refl
own_reverse_ties Greater e = cc

pub compare_itself : (a : Val) → compare a a ≡ Equal
compare_itself a = own_reverse_ties (compare a a) (compare_reverse a a)

pub compare_is_eq : (a b : Val) → IsTrue (is_eq (compare a b)) ↔ (a ≡ b)
compare_is_eq a b = (λ h. compare_ties a b (equal_of (compare a b) h), λ e. ap (λ v. is_eq (compare a v)) (sym e) ∙ ap is_eq (compare_itself a))

-- one order after another is transitive where both are, and where the first answers alike for what ties
pub then_trans : (a b c p q r : Ordering) → (a ≡ Less → b ≡ Less → c ≡ Less) → (a ≡ Equal → c ≡ b) → (b ≡ Equal → c ≡ a) → (p ≡ Less → q ≡ Less → r ≡ Less)
    → ordering_then a p ≡ Less → ordering_then b q ≡ Less → ordering_then c r ≡ Less
then_trans Less Less c p q r both left right rest e f = ap (λ o. ordering_then o r) (both refl refl)
then_trans Less Equal c p q r both left right rest e f = ap (λ o. ordering_then o r) (right refl)
then_trans Less Greater c p q r both left right rest e f = cc
then_trans Equal Less c p q r both left right rest e f = ap (λ o. ordering_then o r) (left refl)
then_trans Equal Equal c p q r both left right rest e f = ap (λ o. ordering_then o r) (left refl) ∙ rest e f
then_trans Equal Greater c p q r both left right rest e f = cc
then_trans Greater b c p q r both left right rest e f = cc

-- what comes first is of no later kind
pub kind_le : (a b : Val) → compare a b ≡ Less → kind a ≤ kind b
kind_le (int a) (int b) e = omega arith
kind_le (text a) (text b) e = omega arith
kind_le (object a) (object b) e = omega arith
kind_le (list a) (list b) e = omega arith
kind_le (bytes a) (bytes b) e = omega arith
kind_le (boolean a) (boolean b) e = omega arith
kind_le (date a) (date b) e = omega arith
kind_le (user m v) (user n w) e = omega arith
kind_le a b e = omega (arith, ranked (kind a) (kind b) Less (sym e))

-- what is of an earlier kind comes first
pub kind_less : (a b : Val) → kind a < kind b → compare a b ≡ Less
kind_less (int a) (int b) h = absurd (omega (arith, h))
kind_less (text a) (text b) h = absurd (omega (arith, h))
kind_less (object a) (object b) h = absurd (omega (arith, h))
kind_less (list a) (list b) h = absurd (omega (arith, h))
kind_less (bytes a) (bytes b) h = absurd (omega (arith, h))
kind_less (boolean a) (boolean b) h = absurd (omega (arith, h))
kind_less (date a) (date b) h = absurd (omega (arith, h))
kind_less (user m v) (user n w) h = absurd (omega (arith, h))
kind_less a b h = sym (nat_cmp_is (kind a) (kind b) Less h)

mutual
  pub compare_trans : (a b c : Val) → compare a b ≡ Less → compare b c ≡ Less → compare a c ≡ Less
  compare_trans (int a) (int b) (int c) e f = int_cmp_total.trans a b c e f
  compare_trans (text a) (text b) (text c) e f = nat_list_cmp_total.trans a b c e f
  compare_trans (object a) (object b) (object c) e f = fields_trans a b c e f
  compare_trans (list a) (list b) (list c) e f = vals_trans a b c e f
  compare_trans (bytes a) (bytes b) (bytes c) e f =
      then_trans _ _ _ _ _ _ (nat_cmp_total.trans (length a) (length b) (length c)) (λ tie. nat_cmp_total.congr (length a) (length b) (length c) tie)
      (λ tie. sym (alike_right nat_cmp_total (length b) (length c) (length a) tie)) (nat_list_cmp_total.trans a b c) e f
  compare_trans (boolean a) (boolean b) (boolean c) e f = bool_cmp_total.trans a b c e f
  compare_trans (date a) (date b) (date c) e f = int_cmp_total.trans a b c e f
  compare_trans (user m v) (user n w) (user k x) e f =
      then_trans (text_cmp m n) (text_cmp n k) (text_cmp m k) _ _ _ (nat_list_cmp_total.trans m n k)
      (λ tie. ap (λ u. text_cmp u k) (exact_bytes m n tie)) (λ tie. ap (λ u. text_cmp m u) (sym (exact_bytes n k tie))) (compare_trans v w x) e f
  compare_trans null null c e f = cc
  compare_trans a b c e f = kind_less a c (omega (arith, kind_le a b e, kind_le b c f))

  pub vals_trans : (a b c : Vals) → vals_cmp a b ≡ Less → vals_cmp b c ≡ Less → vals_cmp a c ≡ Less
  vals_trans no_vals no_vals c e f = f
  vals_trans no_vals (val w ws) no_vals e f = cc
  vals_trans no_vals (val w ws) (val x xs) e f = refl
  vals_trans (val v vs) no_vals c e f = cc
  vals_trans (val v vs) (val w ws) no_vals e f = cc
  vals_trans (val v vs) (val w ws) (val x xs) e f =
      then_trans (compare v w) (compare w x) (compare v x) _ _ _ (compare_trans v w x) (λ tie. ap (λ u. compare u x) (compare_ties v w tie))
      (λ tie. ap (λ u. compare v u) (sym (compare_ties w x tie))) (vals_trans vs ws xs) e f

  pub fields_trans : (a b c : Fields) → fields_cmp a b ≡ Less → fields_cmp b c ≡ Less → fields_cmp a c ≡ Less
  fields_trans no_fields no_fields c e f = f
  fields_trans no_fields (field n w ws) no_fields e f = cc
  fields_trans no_fields (field n w ws) (field k x xs) e f = refl
  fields_trans (field m v vs) no_fields c e f = cc
  fields_trans (field m v vs) (field n w ws) no_fields e f = cc
  fields_trans (field m v vs) (field n w ws) (field k x xs) e f =
      let values = then_trans (compare v w) (compare w x) (compare v x) (fields_cmp vs ws) (fields_cmp ws xs) (fields_cmp vs xs)
      (compare_trans v w x) (λ tie. ap (λ u. compare u x) (compare_ties v w tie))
      (λ tie. ap (λ u. compare v u) (sym (compare_ties w x tie))) (fields_trans vs ws xs) in
      then_trans (text_cmp m n) (text_cmp n k) (text_cmp m k) _ _ _ (nat_list_cmp_total.trans m n k)
      (λ tie. ap (λ u. text_cmp u k) (exact_bytes m n tie)) (λ tie. ap (λ u. text_cmp m u) (sym (exact_bytes n k tie))) values e f

pub compare_total : IsTotalOrder compare
compare_total = record {
  antisymm = compare_reverse;
  trans = compare_trans;
  congr = λ a b c tie. ap (λ v. compare v c) (compare_ties a b tie);
}
