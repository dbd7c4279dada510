-- The two steps keep the rule.
use Rattle.std.proofs.Common.{◌≡◌, ◌≢◌, ◌==◌, ℕ, zero, suc, ◌+◌, ◌<◌, ◌≤◌, ◌⊎◌, inl, inr, List, [], ◌∷◌, length, map, replicate, get_or, set, Option, Some, None, slice_get, slice_index, refl, sym, ap, ◌∙◌, subst, arith}
use Rattle.std.proofs.lemmas.List.{get_or-set_same, get_or-set_other}
use mathlib.Core.Option.{some, some-injective, some-ne-none}
use mathlib.Core.Logic.{dite}
use native.Mathlib.Decide.{ℕ_discrete, dec_lt}
use prog.Atomic.{either}
use lib.ListN.{get_elem?}
use Rattle.atomic_table.specs.Table.{State, Me, Allows, Act, takes, gives, keeps, opening, rest}
use Rattle.atomic_table.proofs.Lists.{exchanged, set_else, set_here, at_map, some_there}
use Rattle.berths.specs.Kept.{Kept, Locks, Unlocks, AllFit, Holds}

cleared : (ws : List ℕ) (i : ℕ) → get_or (set ws i 0) i 0 ≡ 0
cleared [] i = refl
cleared (w ∷ ws) zero = refl
cleared (w ∷ ws) (suc i) = cleared ws i

module _ {T : Type 0} where
  place_of : (xs : List T) (i : ℕ) → slice_index (replicate (length xs) 1) i ≡ 1 → (x : T) × (get_elem? (map some (map Some xs)) i ≡ some (some (Some x))) × (slice_get xs i ≡ Some x)
  place_of [] i e = absurd (omega (arith, e))
  place_of (x ∷ xs) zero e = (x, refl, refl)
  place_of (x ∷ xs) (suc i) e = place_of xs i e

module _ {T V : Type 0} (fits : ℕ → T → Type 0) where
  pub locks : (slots id i : ℕ) (me : Me (Option T) V) → Allows (Kept fits) slots id me i (λ n. either (n == 1) 0 n) (Locks fits i me)
  locks slots id i me s kept homes at word =
      let n = get_or s.words i 0 in
      exchanged n 1 0
      (λ m. (w : V) × (a : Act (Option T)) × Rattle.atomic_table.specs.Table.Valid s.homes me.1 a × Kept fits (Rattle.atomic_table.specs.Table.stepped s i m id me.1 w a) × Locks fits i me n (w, Rattle.atomic_table.specs.Table.carried_after me.1 a))
      (λ (one : n ≡ 1).
      let t = kept.there i one in (
        me.0,
        takes i (Some t.0),
        t.1,
        record {
          there = λ j free. dite (ℕ_discrete j i)
              (λ (same : j ≡ i). absurd (let z : get_or (set s.words i 0) j 0 ≡ 0 = rw same (cleared s.words i) in omega (arith, z, free)))
              (λ (other : j ≢ i).
              let was : get_or s.words j 0 ≡ 1 = sym (get_or-set_other s.words i j 0 0 other) ∙ free in
              let u = kept.there j was in
              (u.0, set_else s.homes i j _ other ∙ u.1, u.2));
        },
        ((λ _. (t.0, t.2, refl)), (λ (ne : n ≢ 1). absurd (ne one))),
      ))
      (λ (ne : n ≢ 1). (
        me.0,
        keeps,
        tt,
        record {
          there = λ j free.
              let same : get_or (set s.words i n) j 0 ≡ get_or s.words j 0 = ap (λ ws. get_or ws j 0) (Rattle.std.proofs.lemmas.List.set-get_or s.words i 0) in
              kept.there j (sym same ∙ free);
        },
        ((λ one. absurd (ne one)), (λ _. refl)),
      ))

  unlocks_here : (slots id i : ℕ) (v : V) (x : T) → fits i x → i < slots → Allows (Kept fits) slots id (v, (i, Some x) ∷ []) i (λ _. 1) (λ _. Unlocks (v, (i, Some x) ∷ []))
  unlocks_here slots id i v x fit small s kept homes at word = (
    v,
    gives,
    tt,
    record {
      there = λ j free. dite (ℕ_discrete j i)
          (λ (same : j ≡ i). subst (λ k. (y : T) × (get_elem? (set s.homes i (some (Some x))) k ≡ some (some (Some y))) × fits k y) (sym same) (x, set_here s.homes i _ (omega (arith, homes, small)), fit))
          (λ (other : j ≢ i).
          let u = kept.there j (sym (get_or-set_other s.words i j 1 0 other) ∙ free) in
          (u.0, set_else s.homes i j _ other ∙ u.1, u.2));
    },
    refl,
  )

  pub unlocks : (slots id i : ℕ) (me : Me (Option T) V) (x : T) → me.1 ≡ (i, Some x) ∷ [] → fits i x → i < slots → Allows (Kept fits) slots id me i (λ _. 1) (λ _. Unlocks me)
  unlocks slots id i me x is fit small = subst (λ c. Allows (Kept fits) slots id (me.0, c) i (λ _. 1) (λ _. Unlocks (me.0, c))) (sym is) (unlocks_here slots id i me.0 x fit small)

  pub opens : (xs : List T) (v : V) → AllFit fits xs → Kept fits (opening (replicate (length xs) 1) (map Some xs) v)
  opens xs v all = record { there = λ i one. let p = place_of xs i one in (p.0, p.1, all i p.0 p.2) }

pub first_held : {T : Type 0} (fits : ℕ → T → Type 0) (i : ℕ) (carried : List (ℕ × Option T)) → Holds fits i carried → (o : Option T) × (carried ≡ (i, o) ∷ rest carried)
first_held fits i carried h = (Some h.0, h.2 ∙ ap (λ t. (i, Some h.0) ∷ t) (sym (ap rest h.2)))
