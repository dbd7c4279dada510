-- The numbers of the methods that run, as a list in any order and as a set.
use Rattle.std.proofs.Common.{◌≡◌, ℕ, Bool, true, false, cond, not, ◌||◌, ◌&&◌, if◌then◌else◌, nat_eq, List, [], ◌∷◌, Option, Some, None, IsTrue, refl, sym, ap, ◌∙◌, rules}
use Rattle.std.specs.Prelude.{IfSome}
use Rattle.std.specs.List.{list_any}
use Rattle.std.specs.Ordering.{nat_cmp}
use Rattle.std.specs.Cmp.{nat_cmp_total, nat_eq_equiv, unsigned_tied}
use Rattle.std.specs.FinSet as set
use Rattle.method_queue.specs.Queue.{Queue, other_than}

-- the list has k exactly if b is true, and each other number exactly as before
abbrev pub Changes : ℕ → Bool → List ℕ → List ℕ → Type 0
Changes k b old new = (q : ℕ) → list_any (nat_eq q) new ≡ cond (nat_eq k q) b (list_any (nat_eq q) old)

abbrev pub set_of : List ℕ → set.FinSet nat_cmp
set_of ks = set.from_list ks

pub contains-set_of : (ks : List ℕ) (q : ℕ) → set.contains (set_of ks) q ≡ list_any (nat_eq q) ks
contains-set_of [] q = set.contains-empty nat_cmp q
contains-set_of (k ∷ ks) q = set.contains-insert nat_cmp_total (set_of ks) k q ∙ (λ i. unsigned_tied q k i || contains-set_of ks q i)

cond_or : (a b c : Bool) → a ≡ b → cond a true c ≡ (b || c)
cond_or true true c e = refl
cond_or false false c e = refl
cond_or true false c e = cc
cond_or false true c e = cc

cond_and : (a b c : Bool) → a ≡ b → cond a false c ≡ (not b && c)
cond_and true true c e = refl
cond_and false false c e = refl
cond_and true false c e = cc
cond_and false true c e = cc

module _ (k : ℕ) (old new : List ℕ) where
  pub set_of-inserted : Changes k true old new → set_of new ≡ set.insert (set_of old) k
  set_of-inserted h =
      set.same_set nat_cmp_total set.nat_cmp-IsAntisymmetric _ _ (λ q.
      contains-set_of new q ∙ h q ∙ cond_or (nat_eq k q) (nat_eq q k) _ (nat_eq_equiv.symm k q)
      ∙ sym (set.contains-insert nat_cmp_total (set_of old) k q ∙ (λ i. unsigned_tied q k i || contains-set_of old q i)))

  pub set_of-removed : Changes k false old new → set_of new ≡ set.remove (set_of old) k
  set_of-removed h =
      set.same_set nat_cmp_total set.nat_cmp-IsAntisymmetric _ _ (λ q.
      contains-set_of new q ∙ h q ∙ cond_and (nat_eq k q) (nat_eq q k) _ (nat_eq_equiv.symm k q)
      ∙ sym (set.contains-remove nat_cmp_total (set_of old) k q ∙ (λ i. not (unsigned_tied q k i) && contains-set_of old q i)))

  pub has_inserted : Changes k true old new → IsTrue (set.contains (set_of new) k)
  has_inserted h = contains-set_of new k ∙ h k ∙ ap (λ b. cond b true (list_any (nat_eq k) old)) (nat_eq_equiv.refl k)

  -- the method that blocks still runs when k has ended, unless it is k
  pub still_runs : (blocks : Option ℕ) → Changes k false old new → IfSome blocks (λ j. IsTrue (set.contains (set_of old) j))
      → IfSome (other_than blocks k) (λ j. IsTrue (set.contains (set_of new) j))
  still_runs None h is = tt
  still_runs (Some j) h is =
      elim (nat_eq j k) as (λ b. nat_eq j k ≡ b → IfSome (if b then None else Some j) (λ j. IsTrue (set.contains (set_of new) j))) [
        | true ↦ λ _. tt
        | false ↦ λ apart.
            contains-set_of new j ∙ h j ∙ ap (λ b. cond b false (list_any (nat_eq j) old)) (nat_eq_equiv.symm k j ∙ apart)
            ∙ sym (contains-set_of old j) ∙ is
      ] refl

module _ (old new : List ℕ) where
  -- the same numbers in another order
  pub set_of-reordered : ((q : ℕ) → list_any (nat_eq q) new ≡ list_any (nat_eq q) old) → set_of new ≡ set_of old
  set_of-reordered h = set.same_set nat_cmp_total set.nat_cmp-IsAntisymmetric _ _ (λ q. contains-set_of new q ∙ h q ∙ sym (contains-set_of old q))

  pub runs_on : (blocks : Option ℕ) → ((q : ℕ) → list_any (nat_eq q) new ≡ list_any (nat_eq q) old)
      → IfSome blocks (λ j. IsTrue (set.contains (set_of old) j)) → IfSome blocks (λ j. IsTrue (set.contains (set_of new) j))
  runs_on None h is = tt
  runs_on (Some j) h is = contains-set_of new j ∙ h j ∙ sym (contains-set_of old j) ∙ is

-- a number that does not run does not block
pub other_than-absent : (k : ℕ) (ks : List ℕ) (blocks : Option ℕ) → list_any (nat_eq k) ks ≡ false
    → IfSome blocks (λ j. IsTrue (set.contains (set_of ks) j)) → other_than blocks k ≡ blocks
other_than-absent k ks None absent is = refl
other_than-absent k ks (Some j) absent is =
    elim (nat_eq j k) as (λ b. nat_eq j k ≡ b → (if b then None else Some j) ≡ Some j) [
      | true ↦ λ same. let e : j ≡ k = search (rules, same) in cc (sym absent ∙ ap (λ n. list_any (nat_eq n) ks) (sym e) ∙ sym (contains-set_of ks j) ∙ is)
      | false ↦ λ _. refl
    ] refl

pub with_run : (q : Queue) (k : ℕ) {r s : set.FinSet nat_cmp} → r ≡ s
    → record q { running = r; blocks = Some k; has_room = false } ≡ record q { running = s; blocks = Some k; has_room = false }
with_run q k e = ap (λ r. record q { running = r; blocks = Some k; has_room = false }) e

pub with_room : (q : Queue) {r s : set.FinSet nat_cmp} → r ≡ s → record q { running = r; has_room = true } ≡ record q { running = s; has_room = true }
with_room q e = ap (λ r. record q { running = r; has_room = true }) e

pub with_end : (q : Queue) {r s : set.FinSet nat_cmp} {a b : Option ℕ} → r ≡ s → a ≡ b → record q { running = r; blocks = a } ≡ record q { running = s; blocks = b }
with_end q e f = λ i. record q { running = e i; blocks = f i }
