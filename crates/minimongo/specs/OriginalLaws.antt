-- Laws of saved originals at one key.
use Rattle.std.specs.Prelude.{◌≡◌, ◌≢◌, ℕ, Bool, true, false, cond, not, ◌||◌, List, [], ◌∷◌, Option, Some, None, IfSome, refl}
use Rattle.std.specs.declared.cmp.Ordering.TheVariants.{Less, Equal, Greater}
use Rattle.std.specs.Ordering.{nat_cmp, eq_by_cmp, match_ordering}
use Rattle.std.proofs.Common.{sym, ap, ◌∙◌, true≢false}
use Rattle.map_model.specs.MapLaws.{key_is, eq_by_cmp-self}
use Rattle.value_model.specs.Val.{Entries}
use Rattle.view_model.specs.Pending.{is_among, with_number, without_numbers, unless_none}
use Rattle.view_model.specs.PendingLaws.{number_order, with_number-again, without_absent}
use Rattle.minimongo.specs.Originals.{Original, with_holders, holders_in, joined, saved_by, held_still, left_by}

-- ---- numbers

-- to take out what was put in
pub without_new : (n : ℕ) (hs : List ℕ) → without_numbers (n ∷ []) (with_number hs n) ≡ without_numbers (n ∷ []) hs
without_new n [] = ap (λ b. cond (not (b || false)) (n ∷ []) []) (eq_by_cmp-self number_order n)
without_new n (h ∷ hs) =
    let rest = without_new n hs in
    elim (nat_cmp n h) as (λ o. without_numbers (n ∷ []) (match_ordering o (n ∷ h ∷ hs) (h ∷ hs) (h ∷ with_number hs n)) ≡ without_numbers (n ∷ []) (h ∷ hs)) [
      | Less ↦ ap (λ b. cond (not (b || false)) (n ∷ without_numbers (n ∷ []) (h ∷ hs)) (without_numbers (n ∷ []) (h ∷ hs))) (eq_by_cmp-self number_order n)
      | Equal ↦ refl
      | Greater ↦ ap (λ r. cond (not (is_among (n ∷ []) h)) (h ∷ r) r) rest
    ]

-- first one number and then the others
pub without_then : (n : ℕ) (ns hs : List ℕ) → without_numbers ns (without_numbers (n ∷ []) hs) ≡ without_numbers (n ∷ ns) hs
without_then n ns [] = refl
without_then n ns (h ∷ hs) =
    let rest = without_then n ns hs in
    elim (eq_by_cmp nat_cmp h n) as
    (λ b. without_numbers ns (cond (not (b || false)) (h ∷ without_numbers (n ∷ []) hs) (without_numbers (n ∷ []) hs))
    ≡ cond (not (b || is_among ns h)) (h ∷ without_numbers (n ∷ ns) hs) (without_numbers (n ∷ ns) hs)) [
      | true ↦ rest
      | false ↦ ap (λ r. cond (not (is_among ns h)) (h ∷ r) r) rest
    ]

-- a number among those put in is the new one or an old one
pub among_with : (hs : List ℕ) (m n : ℕ) → is_among (with_number hs m) n ≡ true → eq_by_cmp nat_cmp n m ≡ false → is_among hs n ≡ true
among_with [] m n e ne = absurd (true≢false (sym e ∙ ap (λ b. b || false) ne))
among_with (h ∷ hs) m n e ne =
    let rest = among_with hs m n in
    elim (nat_cmp m h) as (λ o. is_among (match_ordering o (m ∷ h ∷ hs) (h ∷ hs) (h ∷ with_number hs m)) n ≡ true → is_among (h ∷ hs) n ≡ true) [
      | Less ↦ λ x. sym (ap (λ b. b || is_among (h ∷ hs) n) ne) ∙ x
      | Equal ↦ λ x. x
      | Greater ↦ λ x. elim (eq_by_cmp nat_cmp n h) as
          (λ b. (b || is_among (with_number hs m) n) ≡ true → (b || is_among hs n) ≡ true) [ true ↦ λ y. refl | false ↦ λ y. rest y ne ] x
    ] e

-- a number that is left was there, and isn't among those that went
pub among_without : (ns hs : List ℕ) (n : ℕ) → is_among (without_numbers ns hs) n ≡ true → (is_among hs n ≡ true) × (is_among ns n ≡ false)
among_without ns [] n e = cc e
among_without ns (h ∷ hs) n e =
    let rest = among_without ns hs n in
    elim (is_among ns h) as
    (λ a. is_among ns h ≡ a → is_among (cond (not a) (h ∷ without_numbers ns hs) (without_numbers ns hs)) n ≡ true →
    (is_among (h ∷ hs) n ≡ true) × (is_among ns n ≡ false)) [
      | true ↦ λ t x. (later (eq_by_cmp nat_cmp n h) (rest x).0, (rest x).1)
      | false ↦ λ t x. elim (eq_by_cmp nat_cmp n h) as
          (λ b. eq_by_cmp nat_cmp n h ≡ b → (b || is_among (without_numbers ns hs) n) ≡ true → ((b || is_among hs n) ≡ true) × (is_among ns n ≡ false)) [
            | true ↦ λ s y. (refl, ap (is_among ns) (key_is number_order n h s) ∙ t)
            | false ↦ λ s y. rest y
          ] refl x
    ] refl e
  where
    later : (b : Bool) {c : Bool} → c ≡ true → (b || c) ≡ true
    later true e = refl
    later false e = e

-- ---- at one key

-- nobody goes
pub left_none : (old : Option Original) → IfSome old (λ (o : Original). o.holders ≢ []) → left_by [] old ≡ old
left_none None h = refl
left_none (Some o) h = ap (λ hs. held_still o (unless_none hs)) (all_stay o.holders) ∙ stays o.holders refl
  where
    all_stay : (hs : List ℕ) → without_numbers [] hs ≡ hs
    all_stay [] = refl
    all_stay (x ∷ hs) = ap (λ r. x ∷ r) (all_stay hs)

    stays : (hs : List ℕ) → o.holders ≡ hs → held_still o (unless_none hs) ≡ Some o
    stays [] e = absurd (h e)
    stays (x ∷ hs) e = ap (λ r. Some (with_holders r o)) (sym e)

-- who holds nothing can let nothing go
pub left_absent : (n : ℕ) (old : Option Original) → IfSome old (λ (o : Original). o.holders ≢ []) → is_among (holders_in old) n ≡ false →
    left_by (n ∷ []) old ≡ old
left_absent n None h e = refl
left_absent n (Some o) h e = ap (λ hs. held_still o (unless_none hs)) (without_absent n o.holders e) ∙ stays o.holders refl
  where
    stays : (hs : List ℕ) → o.holders ≡ hs → held_still o (unless_none hs) ≡ Some o
    stays [] e = absurd (h e)
    stays (x ∷ hs) e = ap (λ r. Some (with_holders r o)) (sym e)

-- one after the others
pub left_then : (n : ℕ) (ns : List ℕ) (old : Option Original) → left_by ns (left_by (n ∷ []) old) ≡ left_by (n ∷ ns) old
left_then n ns None = refl
left_then n ns (Some o) = by (without_numbers (n ∷ []) o.holders) ∙ ap (λ hs. held_still o (unless_none hs)) (without_then n ns o.holders)
  where
    by : (hs : List ℕ) → left_by ns (held_still o (unless_none hs)) ≡ held_still o (unless_none (without_numbers ns hs))
    by [] = refl
    by (h ∷ hs) = again (unless_none (without_numbers ns (h ∷ hs)))
      where
        again : (w : Option (List ℕ)) → held_still (with_holders (h ∷ hs) o) w ≡ held_still o w
        again None = refl
        again (Some x) = refl

-- what is left is held
pub left_held : (ns : List ℕ) (old : Option Original) → IfSome (left_by ns old) (λ (o : Original). o.holders ≢ [])
left_held ns None = tt
left_held ns (Some o) = by (without_numbers ns o.holders)
  where
    by : (hs : List ℕ) → IfSome (held_still o (unless_none hs)) (λ (o : Original). o.holders ≢ [])
    by [] = tt
    by (h ∷ hs) = λ e. cc e

pub left_holders : (ns : List ℕ) (old : Option Original) → holders_in (left_by ns old) ≡ without_numbers ns (holders_in old)
left_holders ns None = refl
left_holders ns (Some o) = by (without_numbers ns o.holders)
  where
    by : (hs : List ℕ) → holders_in (held_still o (unless_none hs)) ≡ hs
    by [] = refl
    by (h ∷ hs) = refl

-- a second save of the document changes nothing
pub joined_again : (n : ℕ) (doc later : Option Entries) (old : Option Original) → joined n later (Some (joined n doc old)) ≡ joined n doc old
joined_again n doc later None = ap (λ hs. with_holders hs (joined n doc None)) (with_number-again [] n)
joined_again n doc later (Some o) = ap (λ hs. with_holders hs o) (with_number-again o.holders n)

pub joined_held : (n : ℕ) (doc : Option Entries) (old : Option Original) → (joined n doc old).holders ≢ []
joined_held n doc None e = cc e
joined_held n doc (Some o) e = some o.holders e
  where
    some : (hs : List ℕ) → with_number hs n ≢ []
    some [] e = cc e
    some (h ∷ hs) e = elim (nat_cmp n h) as
        (λ o. match_ordering o (n ∷ h ∷ hs) (h ∷ hs) (h ∷ with_number hs n) ≡ [] → ⊥) [ Less ↦ λ e. cc e | Equal ↦ λ e. cc e | Greater ↦ λ e. cc e ] e

pub joined_holders : (n : ℕ) (doc : Option Entries) (old : Option Original) → (joined n doc old).holders ≡ with_number (holders_in old) n
joined_holders n doc None = refl
joined_holders n doc (Some o) = refl

-- a simulation that lets go what it has just touched
pub left_joined : (n : ℕ) (doc : Option Entries) (old : Option Original) → left_by (n ∷ []) (Some (joined n doc old)) ≡ left_by (n ∷ []) old
left_joined n doc None = ap (λ b. held_still (joined n doc None) (unless_none (cond (not (b || false)) (n ∷ []) []))) (eq_by_cmp-self number_order n)
left_joined n doc (Some o) = again (without_numbers (n ∷ []) (with_number o.holders n)) ∙ ap (λ hs. held_still o (unless_none hs)) (without_new n o.holders)
  where
    again : (hs : List ℕ) → held_still (with_holders (with_number o.holders n) o) (unless_none hs) ≡ held_still o (unless_none hs)
    again [] = refl
    again (h ∷ hs) = refl

pub left_saved : (n : ℕ) (w : Option (Option Entries)) (old : Option Original) → left_by (n ∷ []) (saved_by n w old) ≡ left_by (n ∷ []) old
left_saved n None old = refl
left_saved n (Some doc) old = left_joined n doc old
