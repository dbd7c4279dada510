-- Fences that fire one by one fire at once.
use Rattle.std.proofs.Common.{◌≡◌, ◌⊎◌, ℕ, ◌<◌, [], ◌∷◌, length, Bool, true, false, cond, Option, Some, None, refl, ap, sym, ◌∙◌, arith, ⊎_elim}
use Rattle.std.specs.Prelude.{not, ◌&&◌, filter, IsSomeAnd, IsSome}
use Rattle.std.proofs.lemmas.Map.Entries.{option_filter}
use Rattle.std.specs.Map.{remove_entry}
use Rattle.std.specs.BTreeMap.{is_at}
use Rattle.std.specs.Ordering.{eq_by_cmp, nat_cmp}
use Rattle.std.proofs.lemmas.Bool.{le-leb, leb-true}
use Rattle.std.proofs.lemmas.Cmp.{nat_cmp_total}
use Rattle.std.proofs.lemmas.Map.Lookups.{exact_unsigned}
use Rattle.map_model.specs.Maps.{at, set, IsSorted, IsKeyOrder}
use Rattle.map_model.specs.MapLaws.{same_maps, sorted-set, at-set, at-filter, sorted-filter, key_is}
use Rattle.write_fence.specs.Fences.{Armed, IsReached, CanFire}
use Rattle.session_journal_laws.specs.Fired.{is_reached, unfired}

pub number_order : IsKeyOrder nat_cmp
number_order = record { total = nat_cmp_total; exact = exact_unsigned }

removed_less : (a : Armed) (k : ℕ) → IsSome (at nat_cmp a k) → length (set nat_cmp a k None) < length a
removed_less [] k there = cc there
removed_less (e ∷ a) k there =
    elim (is_at (nat_cmp k) e.0) as (λ b. IsSome (cond b (Some e.1) (at nat_cmp a k)) → length (cond b a (e ∷ remove_entry (is_at (nat_cmp k)) a)) < length (e ∷ a)) [
      | true ↦ λ h. omega arith
      | false ↦ λ h. omega (arith, removed_less a k h)
    ] there

reached : (least : Option ℕ) (n : ℕ) → IsReached least n → is_reached least n ≡ true
reached None n r = refl
reached (Some least) n r = le-leb n least r

past : (least : Option ℕ) (n : ℕ) → is_reached least n ≡ true → IsReached least n
past None n e = tt
past (Some least) n e = leb-true n least e

fires : (a : Armed) (least : Option ℕ) (k : ℕ) (o : Option ℕ) → at nat_cmp a k ≡ o → IsSomeAnd o (IsReached least) → option_filter (λ n. not (not false && is_reached least n)) o ≡ None
fires a least k None e c = refl
fires a least k (Some n) e c = ap (λ b. cond (not b) (Some n) None) (reached least n c)

-- one that fires stays in neither
pub one_fired : (a : Armed) (least : Option ℕ) (k : ℕ) → IsSorted nat_cmp a → CanFire a least k → unfired false least (set nat_cmp a k None) ≡ unfired false least a
one_fired a least k s can =
    let stays : ℕ × ℕ → Bool = λ e. not (not false && is_reached least e.1) in
    let a2 = set nat_cmp a k None in
    let s2 = sorted-set number_order a k None s in
    same_maps number_order (filter stays a2) (filter stays a) (sorted-filter number_order stays a2 s2) (sorted-filter number_order stays a s) (λ q.
    at-filter number_order stays a2 q s2
    ∙ (ap (option_filter (λ n. stays (q, n))) (at-set number_order a k None q s)
    ∙ (elim (eq_by_cmp nat_cmp q k) as (λ b. eq_by_cmp nat_cmp q k ≡ b → option_filter (λ n. stays (q, n)) (cond b None (at nat_cmp a q)) ≡ option_filter (λ n. stays (q, n)) (at nat_cmp a q)) [
      | true ↦ λ is. sym (ap (λ x. option_filter (λ n. not (not false && is_reached least n)) (at nat_cmp a x)) (key_is number_order q k is) ∙ fires a least k (at nat_cmp a k) refl can)
      | false ↦ λ is. refl
    ] refl
    ∙ sym (at-filter number_order stays a q s))))

pub step_fired : (a : Armed) (opening : Bool) (least : Option ℕ) (k : ℕ) → (opening ≡ true → ⊥) → IsSorted nat_cmp a → CanFire a least k → unfired opening least (set nat_cmp a k None) ≡ unfired opening least a
step_fired a true least k closed s can = absurd (closed refl)
step_fired a false least k closed s can = one_fired a least k s can

some_can : (o : Option ℕ) (P : ℕ → Type 0) → IsSomeAnd o P → IsSome o
some_can None P c = absurd c
some_can (Some n) P c = refl

pub fired_there : (a : Armed) (least : Option ℕ) (k : ℕ) → CanFire a least k → length (set nat_cmp a k None) < length a
fired_there a least k can = removed_less a k (some_can (at nat_cmp a k) (IsReached least) can)

stays_there : (least : Option ℕ) (o : Option ℕ) → (IsSomeAnd o (IsReached least) → ⊥) → option_filter (λ n. not (not false && is_reached least n)) o ≡ o
stays_there least None no_way = refl
stays_there least (Some n) no_way =
    elim (is_reached least n) as (λ b. is_reached least n ≡ b → cond (not b) (Some n) None ≡ Some n) [ true ↦ λ e. absurd (no_way (past least n e)) | false ↦ λ e. refl ] refl

all_stay : (a : Armed) → filter (λ (e : ℕ × ℕ). true) a ≡ a
all_stay [] = refl
all_stay (e ∷ a) = ap (λ xs. e ∷ xs) (all_stay a)

pub none_fired : (a : Armed) (opening : Bool) (least : Option ℕ) → IsSorted nat_cmp a → (opening ≡ true) ⊎ ((k : ℕ) → CanFire a least k → ⊥) → unfired opening least a ≡ a
none_fired a true least s why = all_stay a
none_fired a false least s why =
    let stays : ℕ × ℕ → Bool = λ e. not (not false && is_reached least e.1) in
    ⊎_elim (λ e. let no_way : false ≡ true = e in cc)
    (λ none. same_maps number_order (filter stays a) a (sorted-filter number_order stays a s) s (λ q. at-filter number_order stays a q s ∙ stays_there least (at nat_cmp a q) (none q)))
    why
