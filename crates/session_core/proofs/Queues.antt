-- What the queue of a session says of what it sees.
use Rattle.std.proofs.Common.{◌≡◌, ◌⊎◌, ◌↔◌, ℕ, ◌+◌, ◌<◌, List, [], ◌∷◌, length, map, Bool, true, false, true≢false, cond, Option, Some, None, refl, ap, ap₂, sym, subst, ◌∙◌, inl, inr}
use Rattle.std.specs.Prelude.{◌==◌, ◌||◌, nat_lt, option_map, unwrap_or, IfSome, IsTrue, fold, sum_by}
use Rattle.std.specs.Bool.{OnTrue, OnFalse}
use Rattle.std.proofs.lemmas.Bool.{eq-eqb, ne_eqb, eqb-true, eqb-false, ltb-true, lt-ltb}
use Rattle.std.proofs.lemmas.List.{length-map}
use Rattle.method_queue.specs.Queue.{Waiting, Queue, max_bytes, waiting_bytes, IsFull, IsRunning, IsWithin, ended, unblocked, other_than}
use Rattle.method_queue.specs.Faults.{IsCause}
use Rattle.method_queue.specs.declared.fault.PushFault.{PushFault}
use Rattle.method_queue.specs.declared.fault.PushFault.TheVariants.{Full, Memory}
use Rattle.session_core.specs.session_model.Methods.{Blocking, freed}
use Rattle.session_core.specs.session_laws.Session.{max_waiting, is_crowded}
use Rattle.session_core.specs.session_laws.Events.{IsPutCause}
use Rattle.session_core.specs.session_laws.declared.fault.EventFault.{EventFault}
use Rattle.session_core.specs.session_laws.declared.fault.EventFault.TheVariants as fault
use Rattle.session_core.specs.Adding.{fault_of, IsPushCause}
use Rattle.session_core.specs.declared.inner.Inner.{Inner}
use Rattle.session_core.specs.Kept.{seen, IsKept}

sum_from : (n : ℕ) (ws : List Waiting) → fold ◌+◌ n (map (λ (w : Waiting). w.bytes) ws) ≡ fold (λ (m : ℕ) (w : Waiting). m + w.bytes) n ws
sum_from n [] = refl
sum_from n (w ∷ ws) = sum_from (n + w.bytes) ws

same_sum : (ws : List Waiting) → sum_by (λ (b : ℕ). b) (map (λ (w : Waiting). w.bytes) ws) ≡ sum_by (λ (w : Waiting). w.bytes) ws
same_sum ws = sum_from 0 ws

both_false : (a b : Bool) → a ≡ false → b ≡ false → (a || b) ≡ false
both_false a b p q = ap₂ (λ (x y : Bool). x || y) p q

first_true : (a b : Bool) → a ≡ true → (a || b) ≡ true
first_true a b p = ap (λ (x : Bool). x || b) p

second_true : (a b : Bool) → b ≡ true → (a || b) ≡ true
second_true true b p = refl
second_true false b p = p

module _ (a : Inner) (k : IsKept a) (n : ℕ) where
  waits : length (map (λ (w : Waiting). w.message) a.queue.waiting) ≡ length a.queue.waiting
  waits = length-map a.queue.waiting (λ (w : Waiting). w.message)

  weighs : sum_by (λ (b : ℕ). b) (seen a).bytes + n ≡ waiting_bytes a.queue + n
  weighs = ap (λ (m : ℕ). m + n) (same_sum a.queue.waiting)

  pub has_place : (IsFull a.queue n → ⊥) → is_crowded (seen a) n ≡ false
  has_place free = both_false _ _
      (ne_eqb max_waiting (length (map (λ (w : Waiting). w.message) a.queue.waiting)) (λ e. free (inl (sym (e ∙ waits) ∙ sym k.limit))))
      (lt_false max_bytes (sum_by (λ (b : ℕ). b) (seen a).bytes + n) (λ lt. free (inr (subst (λ (m : ℕ). max_bytes < m) weighs lt))))
    where
      lt_false : (x y : ℕ) → (x < y → ⊥) → nat_lt x y ≡ false
      lt_false x y f = elim (nat_lt x y) as (λ b. nat_lt x y ≡ b → b ≡ false) [ true ↦ λ e. absurd (f (ltb-true x y e)) | false ↦ λ e. refl ] refl

  pub has_none : IsFull a.queue n → is_crowded (seen a) n ≡ true
  has_none full = by full
    where
      by : (length a.queue.waiting ≡ a.queue.limit) ⊎ (max_bytes < waiting_bytes a.queue + n) → is_crowded (seen a) n ≡ true
      by (inl e) = first_true _ _ (eq-eqb max_waiting (length (map (λ (w : Waiting). w.message) a.queue.waiting)) (sym (waits ∙ (e ∙ k.limit))))
      by (inr lt) = second_true (max_waiting == length (map (λ (w : Waiting). w.message) a.queue.waiting)) _ (lt-ltb max_bytes (sum_by (λ (b : ℕ). b) (seen a).bytes + n) (subst (λ (m : ℕ). max_bytes < m) (sym weighs) lt))

  pub why_not : (e : EventFault) → IsPushCause a.queue n e → IsPutCause n (seen a) e
  why_not fault.Idle c = c
  why_not fault.JournalFull c = c
  why_not fault.QueueFull c = has_none c
  why_not fault.Memory c = tt

pub why_full : (q : Queue) (n : ℕ) (e : PushFault) → IsCause q n e → IsPushCause q n (fault_of e)
why_full q n (Full limit) c = c.0
why_full q n Memory c = tt

-- ---- what the queue becomes

-- the call blocks never longer, whether it did or not
pub other_freed : (k : ℕ) (b : Option Blocking) → other_than (option_map (λ (x : Blocking). x.k) b) k ≡ option_map (λ (x : Blocking). x.k) (freed k b)
other_freed k None = refl
other_freed k (Some b) =
    ap (λ (x : Bool). cond x None (Some b.k)) (nat_eq-sym b.k k)
    ∙ elim (k == b.k) as (λ c. cond c None (Some b.k) ≡ option_map (λ (x : Blocking). x.k) (cond c None (Some b))) [ true ↦ refl | false ↦ refl ]
  where
    nat_eq-sym : (x y : ℕ) → (x == y) ≡ (y == x)
    nat_eq-sym x y = elim (y == x) as (λ c. (y == x) ≡ c → (x == y) ≡ c) [ true ↦ λ e. eq-eqb x y (sym (eqb-true y x e)) | false ↦ λ e. ne_eqb x y (λ h. eqb-false y x e (sym h)) ] refl

other_same : (o : Option ℕ) (k : ℕ) → (o ≡ Some k → ⊥) → o ≡ other_than o k
other_same None k never = refl
other_same (Some j) k never = elim (j == k) as (λ c. (j == k) ≡ c → Some j ≡ cond c None (Some j)) [ true ↦ λ e. absurd (never (ap (λ (n : ℕ). Some n) (eqb-true j k e))) | false ↦ λ e. refl ] refl

-- whether it ran or not
pub ended_blocks : (q q' : Queue) (k : ℕ) (ran : Bool) → IsWithin q → (IsTrue ran ↔ IsRunning q k) → OnTrue ran (q' ≡ ended q k) → OnFalse ran (q' ≡ q) → q'.blocks ≡ other_than q.blocks k
ended_blocks q q' k true w why done never = ap (λ (x : Queue). x.blocks) done
ended_blocks q q' k false w why done never = ap (λ (x : Queue). x.blocks) never ∙ other_same q.blocks k (λ e. true≢false (sym (why.1 (runs q.blocks e w.blocks))))
  where
    runs : (o : Option ℕ) → o ≡ Some k → IfSome o (IsRunning q) → IsRunning q k
    runs None e r = cc e
    runs (Some j) e r = subst (λ (n : ℕ). IsRunning q n) (ap (λ (o : Option ℕ). unwrap_or o k) e) r

pub ended_else : (q q' : Queue) (k : ℕ) (ran : Bool) → OnTrue ran (q' ≡ ended q k) → OnFalse ran (q' ≡ q) → (q'.limit ≡ q.limit) × (q'.waiting ≡ q.waiting)
ended_else q q' k true done never = (ap (λ (x : Queue). x.limit) done, ap (λ (x : Queue). x.waiting) done)
ended_else q q' k false done never = (ap (λ (x : Queue). x.limit) never, ap (λ (x : Queue). x.waiting) never)

pub unblocked_else : (q q' : Queue) (did : Bool) → OnTrue did (q' ≡ unblocked q) → OnFalse did (q' ≡ q) → (q'.limit ≡ q.limit) × (q'.waiting ≡ q.waiting)
unblocked_else q q' true done never = (ap (λ (x : Queue). x.limit) done, ap (λ (x : Queue). x.waiting) done)
unblocked_else q q' false done never = (ap (λ (x : Queue). x.limit) never, ap (λ (x : Queue). x.waiting) never)

pub unblocked_blocks : (q q' : Queue) (k : ℕ) (did : Bool) → (IsTrue did ↔ (q.blocks ≡ Some k)) → OnTrue did (q' ≡ unblocked q) → OnFalse did (q' ≡ q) → q'.blocks ≡ other_than q.blocks k
unblocked_blocks q q' k true why done never = ap (λ (x : Queue). x.blocks) done ∙ sym (ap (λ (o : Option ℕ). other_than o k) (why.0 refl) ∙ ap (λ (b : Bool). cond b None (Some k)) (eq-eqb k k refl))
unblocked_blocks q q' k false why done never = ap (λ (x : Queue). x.blocks) never ∙ other_same q.blocks k (λ e. true≢false (sym (why.1 e)))
