-- The last call of a session.
use Rattle.std.specs.Prelude.{is_some, slice_get, IsSome, IfSome, option_map, nat_lt, ◌<◌, ◌^◌}
use Rattle.std.specs.Ordering.{nat_cmp, ordering_then, is_gt, is_lt, MatchOrdering}
use Rattle.std.specs.declared.cmp.Ordering.{Ordering}
use Rattle.std.specs.declared.cmp.Ordering.TheVariants.{Less, Equal, Greater}
use Rattle.std.specs.Cmp.{nat_cmp_total, tied_itself, ranks}
use Rattle.std.proofs.lemmas.Map.Keys.{ge_from_not_lt}
use Rattle.std.proofs.lemmas.Bool.{ltb-true, ltb-false}
use Rattle.std.proofs.Common.{◌≡◌, ℕ, ◌≤◌, Bool, true, false, List, [], ◌∷◌, ◌++◌, Option, Some, None, refl, ap, sym, subst, ◌∙◌, arith}
use Rattle.map_model.specs.Maps.{at}
use Rattle.history_model.specs.History.{RunKey, run_cmp, status_of, status_in}
use Rattle.app_model.specs.App.{App}
use Rattle.store_machine.specs.declared.called.Called.{Called}
use Rattle.store_machine.specs.declared.parts.Parts.{Parts}
use Rattle.store_machine.specs.State.{held_by, IsLastBegun}
use Rattle.store_machine.specs.Standing.{begun_of, IsLastAmong, seen, Stand}
use Rattle.store_machine.proofs.Beginnings.{status_seen}
use Rattle.store_machine.proofs.Nexts.{from_call, session_le, none_unless, some_status}

session_ge : (a b : RunKey) → is_lt (run_cmp a b) ≡ false → b.0 ≤ a.0
session_ge a b = by (nat_cmp a.0 b.0) (ranks a.0 b.0)
  where
    by : (o : Ordering) → MatchOrdering o (a.0 < b.0) (a.0 ≡ b.0) (b.0 < a.0) → is_lt (ordering_then o (nat_cmp a.1 b.1)) ≡ false → b.0 ≤ a.0
    by Less m e = absurd (cc e)
    by Equal m e = omega (arith, m)
    by Greater m e = omega (arith, m)

call_ge : (a b : RunKey) → a.0 ≡ b.0 → is_lt (run_cmp a b) ≡ false → b.1 ≤ a.1
call_ge a b same = by (nat_cmp a.0 b.0) (ranks a.0 b.0)
  where
    by : (o : Ordering) → MatchOrdering o (a.0 < b.0) (a.0 ≡ b.0) (b.0 < a.0) → is_lt (ordering_then o (nat_cmp a.1 b.1)) ≡ false → b.1 ≤ a.1
    by Less m e = absurd (omega (arith, m, same))
    by Equal m e = ge_from_not_lt a.1 b.1 e
    by Greater m e = absurd (omega (arith, m, same))

-- ---- past the greatest number

pub less_call : (session j k : ℕ) → j < k → run_cmp (session, j) (session, k) ≡ Less
less_call session j k less = ap (λ o. ordering_then o (nat_cmp j k)) (tied_itself nat_cmp_total session) ∙ by (nat_cmp j k) (ranks j k)
  where
    by : (o : Ordering) → MatchOrdering o (j < k) (j ≡ k) (k < j) → o ≡ Less
    by Less m = refl
    by Equal m = absurd (omega (arith, m, less))
    by Greater m = absurd (omega (arith, m, less))

less_parts : (a b : RunKey) → run_cmp a b ≡ Less → b.0 ≤ a.0 → a.1 < b.1
less_parts a b is most = first (nat_cmp a.0 b.0) (ranks a.0 b.0) is
  where
    second : (o : Ordering) → MatchOrdering o (a.1 < b.1) (a.1 ≡ b.1) (b.1 < a.1) → o ≡ Less → a.1 < b.1
    second Less m e = m
    second Equal m e = absurd (cc e)
    second Greater m e = absurd (cc e)

    first : (o : Ordering) → MatchOrdering o (a.0 < b.0) (a.0 ≡ b.0) (b.0 < a.0) → ordering_then o (nat_cmp a.1 b.1) ≡ Less → a.1 < b.1
    first Less m e = absurd (omega (arith, m, most))
    first Equal m e = second (nat_cmp a.1 b.1) (ranks a.1 b.1) e
    first Greater m e = absurd (cc e)

there_some : {X : Type 0} (o : Option X) → is_some o ≡ true → IsSome o
there_some None e = absurd (cc e)
there_some (Some x) e = refl

-- no key of the session lies past the greatest number, where the first one that lies behind it has a number like each other
pub none_past : {X : Type 0} (entries : List (RunKey × X)) (session most : ℕ) (range : List (RunKey × X)) (key : RunKey) (x : X) (more : List (RunKey × X)) → range ≡ (key, x) ∷ more
    → IfSome (slice_get range 0) (λ e. ((run_cmp (session, most) e.0 ≡ Less) × Unit {0}) × (at run_cmp entries e.0 ≡ Some e.1))
    → ((q : RunKey) → run_cmp (session, most) q ≡ Less → IsSome (at run_cmp entries q) → IfSome (slice_get range 0) (λ e. is_gt (run_cmp e.0 q) ≡ false))
    → key.1 ≤ most → (k : ℕ) → most < k → at run_cmp entries (session, k) ≡ None
none_past {X = X} entries session most range key x more is first least fits k above =
    none_unless (at run_cmp entries (session, k)) (λ there.
    let behind : ((run_cmp (session, most) key ≡ Less) × Unit {0}) × (at run_cmp entries key ≡ Some x) =
    subst (λ es. IfSome (slice_get es 0) (λ e. ((run_cmp (session, most) e.0 ≡ Less) × Unit {0}) × (at run_cmp entries e.0 ≡ Some e.1))) is first in
    let below : is_gt (run_cmp key (session, k)) ≡ false =
    subst (λ es. IfSome (slice_get es 0) (λ e. is_gt (run_cmp e.0 (session, k)) ≡ false)) is (least (session, k) (less_call session most k above) (there_some (at run_cmp entries (session, k)) there)) in
    let more_than = less_parts (session, most) key behind.0.0 (session_le key (session, k) below) in
    omega (arith, more_than, fits))

-- ---- up to it

-- the greatest key that is there, of those up to the session's greatest number
pub record IsLast {X : Type 0} (entries : List (RunKey × X)) (session most : ℕ) (key : RunKey) : Type 0 where
  pub within : is_gt (run_cmp key (session, most)) ≡ false
  pub there : is_some (at run_cmp entries key) ≡ true
  pub greatest : (q : RunKey) → is_gt (run_cmp q (session, most)) ≡ false → is_some (at run_cmp entries q) ≡ true → is_lt (run_cmp key q) ≡ false

-- where it is the session's, it is the last
pub last_own : {X : Type 0} (entries : List (RunKey × X)) (session most : ℕ) (key : RunKey) → IsLast entries session most key → key.0 ≡ session
    → (is_some (at run_cmp entries (session, key.1)) ≡ true) × ((k : ℕ) → key.1 < k → k ≤ most → at run_cmp entries (session, k) ≡ None)
last_own entries session most key last same = (
  ap (λ (q : RunKey). is_some (at run_cmp entries q)) (λ i. (sym same i, key.1)) ∙ last.there,
  λ k above fits.
      none_unless (at run_cmp entries (session, k)) (λ there. omega (arith, above, call_ge key (session, k) same (last.greatest (session, k) (from_call session k most fits) there))),
)

-- where it is another one's, the session has none
pub last_other : {X : Type 0} (entries : List (RunKey × X)) (session most : ℕ) (key : RunKey) → IsLast entries session most key → (key.0 ≡ session → ⊥) → (k : ℕ) → k ≤ most → at run_cmp entries (session, k) ≡ None
last_other entries session most key last other k fits =
    none_unless (at run_cmp entries (session, k)) (λ there.
    let low = session_le key (session, most) last.within in
    let high = session_ge key (session, k) (last.greatest (session, k) (from_call session k most fits) there) in
    other (omega (arith, low, high)))

-- the last entry of a range that ends with the session's greatest number
pub last_in : {X : Type 0} (entries : List (RunKey × X)) (session most : ℕ) (range : List (RunKey × X)) (key : RunKey) (x : X) (before : List (RunKey × X)) → range ≡ before ++ (key, x) ∷ []
    → ((e : RunKey × X) (t : List (RunKey × X)) → range ≡ t ++ e ∷ [] → (Unit {0} × (is_gt (run_cmp e.0 (session, most)) ≡ false)) × (at run_cmp entries e.0 ≡ Some e.1))
    → ((e : RunKey × X) (t : List (RunKey × X)) → range ≡ t ++ e ∷ [] → (q : RunKey) → Unit {0} × (is_gt (run_cmp q (session, most)) ≡ false) → IsSome (at run_cmp entries q) → is_lt (run_cmp e.0 q) ≡ false)
    → IsLast entries session most key
last_in entries session most range key x before is there greatest =
    let one = there (key, x) before is in
    record {
      within = one.0.1;
      there = ap is_some one.1;
      greatest = λ q within some. greatest (key, x) before is q (tt, within) (there_some (at run_cmp entries q) some);
    }

none_begun : (app : App) (p : Parts) (session k : ℕ) → Stand app p → at run_cmp p.calls.entries (session, k) ≡ None → status_in (held_by (seen app p)) session k ≡ None
none_begun app p session k st none = status_seen app p session k st ∙ ap (option_map (λ (c : Called). status_of (begun_of app c))) none

some_begun : (app : App) (p : Parts) (session k : ℕ) → Stand app p → is_some (at run_cmp p.calls.entries (session, k)) ≡ true → is_some (status_in (held_by (seen app p)) session k) ≡ true
some_begun app p session k st there = ap is_some (status_seen app p session k st) ∙ (some_status app (at run_cmp p.calls.entries (session, k)) ∙ there)

-- of the numbers below 2^64, and so of all
pub last_of_all : (app : App) (p : Parts) (session : ℕ) (last : Option ℕ) → Stand app p → IsLastAmong p.calls.entries session last → ((k : ℕ) → 2 ^ 64 ≤ k → at run_cmp p.calls.entries (session, k) ≡ None) → IsLastBegun (seen app p) session last
last_of_all app p session None st among beyond = λ k. none_begun app p session k st (each k (nat_lt k (2 ^ 64)) refl)
  where
    each : (k : ℕ) (b : Bool) → nat_lt k (2 ^ 64) ≡ b → at run_cmp p.calls.entries (session, k) ≡ None
    each k true is = among k (ltb-true k (2 ^ 64) is)
    each k false is = beyond k (ltb-false k (2 ^ 64) is)
last_of_all app p session (Some last) st among beyond =
    (some_begun app p session last st among.0, λ k above. none_begun app p session k st (each k above (nat_lt k (2 ^ 64)) refl))
  where
    each : (k : ℕ) → last < k → (b : Bool) → nat_lt k (2 ^ 64) ≡ b → at run_cmp p.calls.entries (session, k) ≡ None
    each k above true is = among.1 k above (ltb-true k (2 ^ 64) is)
    each k above false is = beyond k (ltb-false k (2 ^ 64) is)
