-- Which calls may begin.
use Rattle.std.specs.Prelude.{is_some, not, nat_lt, slice_get, IsSome, IfSome, option_map, ◌&&◌, ◌<◌}
use Rattle.std.specs.List.{list_all}
use Rattle.std.specs.Ordering.{eq_by_cmp, nat_cmp, ordering_then, is_gt, MatchOrdering}
use Rattle.std.specs.declared.cmp.Ordering.{Ordering}
use Rattle.std.specs.declared.cmp.Ordering.TheVariants.{Less, Equal, Greater}
use Rattle.std.specs.Cmp.{nat_cmp_total, tied_itself, ranks}
use Rattle.std.proofs.lemmas.Map.Keys.{le_from_not_gt}
use Rattle.std.proofs.lemmas.Bool.{ltb-true, ltb-false, eqb-true, eq-eqb, and_parts}
use Rattle.std.proofs.Common.{◌≡◌, ℕ, ◌≤◌, ◌==◌, Bool, true, false, cond, ◌||◌, List, [], ◌∷◌, Option, Some, None, refl, ap, ap₂, sym, subst, ◌∙◌, arith}
use Rattle.map_model.specs.Maps.{at}
use Rattle.map_model.specs.MapLaws.{key_is, eq_by_cmp-self}
use Rattle.app_model.specs.App.{App}
use Rattle.history_model.specs.History.{RunKey, run_cmp, Begun, Runs, is_next, status_in, status_of}
use Rattle.history_model.specs.HistoryLaws.{run_order}
use Rattle.store_machine.specs.declared.called.Called.{Called}
use Rattle.store_machine.specs.declared.parts.Parts.{Parts}
use Rattle.store_machine.specs.State.{held_by}
use Rattle.store_machine.specs.Standing.{begun_of, seen, Stand}
use Rattle.store_machine.proofs.Standings.{run_seen}
use Rattle.store_machine.proofs.Beginnings.{status_seen}

and_both : (a b : Bool) → a ≡ true → b ≡ true → (a && b) ≡ true
and_both true b p q = q
and_both false b p q = p

not_none : {X : Type 0} (b : Bool) (x : X) (o : Option X) → cond b (Some x) o ≡ None → b ≡ false
not_none true x o e = absurd (cc e)
not_none false x o e = refl

-- a session none of whose calls has this number or a greater one
next_where_none : (session k : ℕ) (runs : Runs) → ((j : ℕ) → k ≤ j → at run_cmp runs (session, j) ≡ None) → is_next session k runs ≡ true
next_where_none session k [] none = refl
next_where_none session k (r ∷ runs) none =
    and_both (not (r.0.0 == session) || nat_lt r.0.1 k) (list_all (λ (r : RunKey × Begun). not (r.0.0 == session) || nat_lt r.0.1 k) runs) first (next_where_none session k runs rest)
  where
    rest : (j : ℕ) → k ≤ j → at run_cmp runs (session, j) ≡ None
    rest j le = sym (ap (λ b. cond b (Some r.1) (at run_cmp runs (session, j))) (not_none (eq_by_cmp run_cmp (session, j) r.0) r.1 (at run_cmp runs (session, j)) (none j le))) ∙ none j le

    own : r.0.0 ≡ session → k ≤ r.0.1 → ⊥
    own same le =
        let key : (session, r.0.1) ≡ r.0 = λ i. (sym same i, r.0.1) in
        let is : eq_by_cmp run_cmp (session, r.0.1) r.0 ≡ true = ap (λ q. eq_by_cmp run_cmp q r.0) key ∙ eq_by_cmp-self run_order r.0 in
        cc (sym is ∙ not_none (eq_by_cmp run_cmp (session, r.0.1) r.0) r.1 (at run_cmp runs (session, r.0.1)) (none r.0.1 le))

    first : (not (r.0.0 == session) || nat_lt r.0.1 k) ≡ true
    first =
        elim (r.0.0 == session) as (λ b. (r.0.0 == session) ≡ b → (not b || nat_lt r.0.1 k) ≡ true) [
          | true ↦ λ e. elim (nat_lt r.0.1 k) as (λ b. nat_lt r.0.1 k ≡ b → b ≡ true) [ true ↦ λ t. refl | false ↦ λ t. absurd (own (eqb-true r.0.0 session e) (ltb-false r.0.1 k t)) ] refl
          | false ↦ λ e. refl
        ] refl

-- and one that has a greater one
above_next : (session k j : ℕ) (runs : Runs) → is_next session k runs ≡ true → is_some (at run_cmp runs (session, j)) ≡ true → j < k
above_next session k j [] next there = absurd (cc there)
above_next session k j (r ∷ runs) next there =
    let parts = and_parts (not (r.0.0 == session) || nat_lt r.0.1 k) (list_all (λ (r : RunKey × Begun). not (r.0.0 == session) || nat_lt r.0.1 k) runs) next in
    elim (eq_by_cmp run_cmp (session, j) r.0) as (λ (c : Bool). eq_by_cmp run_cmp (session, j) r.0 ≡ c → is_some (cond c (Some r.1) (at run_cmp runs (session, j))) ≡ true → j < k) [
      | true ↦ λ e t. own (r.0) (key_is run_order (session, j) r.0 e) parts.0
      | false ↦ λ e t. above_next session k j runs parts.1 t
    ] refl there
  where
    own : (key : RunKey) → (session, j) ≡ key → (not (key.0 == session) || nat_lt key.1 k) ≡ true → j < k
    own key same above =
        let first : (key.0 == session) ≡ true = eq-eqb key.0 session (sym (ap (λ (x : RunKey). x.0) same)) in
        let second : key.1 ≡ j = sym (ap (λ (x : RunKey). x.1) same) in
        subst (λ n. n < k) second (ltb-true key.1 k (ap (λ b. not b || nat_lt key.1 k) (sym first) ∙ above))

-- ---- keys at and behind a call's

pub from_call : (session k j : ℕ) → k ≤ j → is_gt (run_cmp (session, k) (session, j)) ≡ false
from_call session k j le = ap (λ o. is_gt (ordering_then o (nat_cmp k j))) (tied_itself nat_cmp_total session) ∙ by (nat_cmp k j) (ranks k j)
  where
    by : (o : Ordering) → MatchOrdering o (k < j) (k ≡ j) (j < k) → is_gt o ≡ false
    by Less m = refl
    by Equal m = refl
    by Greater m = absurd (omega (arith, m, le))

pub session_le : (a b : RunKey) → is_gt (run_cmp a b) ≡ false → a.0 ≤ b.0
session_le a b = by (nat_cmp a.0 b.0) (ranks a.0 b.0)
  where
    by : (o : Ordering) → MatchOrdering o (a.0 < b.0) (a.0 ≡ b.0) (b.0 < a.0) → is_gt (ordering_then o (nat_cmp a.1 b.1)) ≡ false → a.0 ≤ b.0
    by Less m e = omega (arith, m)
    by Equal m e = omega (arith, m)
    by Greater m e = absurd (cc e)

call_le : (a b : RunKey) → a.0 ≡ b.0 → is_gt (run_cmp a b) ≡ false → a.1 ≤ b.1
call_le a b same = by (nat_cmp a.0 b.0) (ranks a.0 b.0)
  where
    by : (o : Ordering) → MatchOrdering o (a.0 < b.0) (a.0 ≡ b.0) (b.0 < a.0) → is_gt (ordering_then o (nat_cmp a.1 b.1)) ≡ false → a.1 ≤ b.1
    by Less m e = absurd (omega (arith, m, same))
    by Equal m e = le_from_not_gt a.1 b.1 e
    by Greater m e = absurd (cc e)

-- the least key that is there, of those at and behind a call's
pub record IsFirst {X : Type 0} (entries : List (RunKey × X)) (session k : ℕ) (key : RunKey) : Type 0 where
  pub behind : is_gt (run_cmp (session, k) key) ≡ false
  pub there : is_some (at run_cmp entries key) ≡ true
  pub least : (q : RunKey) → is_gt (run_cmp (session, k) q) ≡ false → is_some (at run_cmp entries q) ≡ true → is_gt (run_cmp key q) ≡ false

pub none_unless : {X : Type 0} (o : Option X) → (is_some o ≡ true → ⊥) → o ≡ None
none_unless None f = refl
none_unless (Some x) f = absurd (f refl)

-- the first entry of a range that begins at the call's key
pub first_in : {X : Type 0} (entries : List (RunKey × X)) (session k : ℕ) (range : List (RunKey × X)) (key : RunKey) (x : X) (more : List (RunKey × X)) → range ≡ (key, x) ∷ more
    → IfSome (slice_get range 0) (λ e. ((is_gt (run_cmp (session, k) e.0) ≡ false) × Unit {0}) × (at run_cmp entries e.0 ≡ Some e.1))
    → ((q : RunKey) → is_gt (run_cmp (session, k) q) ≡ false → IsSome (at run_cmp entries q) → IfSome (slice_get range 0) (λ e. is_gt (run_cmp e.0 q) ≡ false)) → IsFirst entries session k key
first_in {X = X} entries session k range key x more is among least =
    let one : ((is_gt (run_cmp (session, k) key) ≡ false) × Unit {0}) × (at run_cmp entries key ≡ Some x) =
    subst (λ es. IfSome (slice_get es 0) (λ e. ((is_gt (run_cmp (session, k) e.0) ≡ false) × Unit {0}) × (at run_cmp entries e.0 ≡ Some e.1))) is among in
    record {
      behind = one.0.0;
      there = ap is_some one.1;
      least = λ q behind there. subst (λ es. IfSome (slice_get es 0) (λ e. is_gt (run_cmp e.0 q) ≡ false)) is (least q behind (there_some (at run_cmp entries q) there));
    }
  where
    there_some : (o : Option X) → is_some o ≡ true → IsSome o
    there_some None e = absurd (cc e)
    there_some (Some x) e = refl

-- where it is another session's, this one has none there
none_of_session : {X : Type 0} (entries : List (RunKey × X)) (session k : ℕ) (key : RunKey) → IsFirst entries session k key → (key.0 == session) ≡ false → (j : ℕ) → k ≤ j → at run_cmp entries (session, j) ≡ None
none_of_session entries session k key is other j le =
    none_unless (at run_cmp entries (session, j)) (λ there.
    let first = session_le (session, k) key is.behind in
    let last = session_le key (session, j) (is.least (session, j) (from_call session k j le) there) in
    cc (sym other ∙ eq-eqb key.0 session (omega (arith, first, last))))

-- where it has another number, the call has none
none_of_call : {X : Type 0} (entries : List (RunKey × X)) (session k : ℕ) (key : RunKey) → IsFirst entries session k key → key.0 ≡ session → (key.1 == k) ≡ false → (k < key.1) × (at run_cmp entries (session, k) ≡ None)
none_of_call entries session k key is same other =
    let above : k ≤ key.1 = call_le (session, k) key (sym same) is.behind in
    let less : k < key.1 = elim (nat_lt k key.1) as (λ b. nat_lt k key.1 ≡ b → k < key.1) [ true ↦ λ t. ltb-true k key.1 t | false ↦ λ t. absurd (cc (sym other ∙ eq-eqb key.1 k (omega (arith, above, ltb-false k key.1 t)))) ] refl in
    (less, none_unless (at run_cmp entries (session, k)) (λ there. omega (arith, less, call_le key (session, k) same (is.least (session, k) (from_call session k k (omega arith)) there))))

-- ---- calls of a machine

or_true : (b : Bool) → true ≡ (b || true)
or_true true = refl
or_true false = refl

none_seen : (app : App) (p : Parts) (session j : ℕ) → Stand app p → at run_cmp p.calls.entries (session, j) ≡ None → at run_cmp (held_by (seen app p)).runs (session, j) ≡ None
none_seen app p session j st none = run_seen app p session j st ∙ ap (option_map (begun_of app)) none

-- a call begins where its session has none with its number or a greater one
pub free_begins : (app : App) (p : Parts) (session k : ℕ) → Stand app p → ((j : ℕ) → k ≤ j → at run_cmp p.calls.entries (session, j) ≡ None)
    → true ≡ (is_some (status_in (held_by (seen app p)) session k) || is_next session k (held_by (seen app p)).runs)
free_begins app p session k st none =
    or_true (is_some (status_in (held_by (seen app p)) session k))
    ∙ ap (λ b. is_some (status_in (held_by (seen app p)) session k) || b) (sym (next_where_none session k (held_by (seen app p)).runs (λ j le. none_seen app p session j st (none j le))))

pub some_status : (app : App) (o : Option Called) → is_some (option_map (λ (c : Called). status_of (begun_of app c)) o) ≡ is_some o
some_status app None = refl
some_status app (Some c) = refl

-- one that has a run is answered
pub begun_begins : (app : App) (p : Parts) (session k : ℕ) → Stand app p → is_some (at run_cmp p.calls.entries (session, k)) ≡ true
    → true ≡ (is_some (status_in (held_by (seen app p)) session k) || is_next session k (held_by (seen app p)).runs)
begun_begins app p session k st there =
    sym (ap (λ b. b || is_next session k (held_by (seen app p)).runs) (ap is_some (status_seen app p session k st) ∙ (some_status app (at run_cmp p.calls.entries (session, k)) ∙ there)))

some_run : (app : App) (o : Option Called) → is_some (option_map (begun_of app) o) ≡ is_some o
some_run app None = refl
some_run app (Some c) = refl

-- one that has none does not begin behind a greater one of its session
pub late_begins_not : (app : App) (p : Parts) (session k j : ℕ) → Stand app p → k < j → is_some (at run_cmp p.calls.entries (session, j)) ≡ true → at run_cmp p.calls.entries (session, k) ≡ None
    → false ≡ (is_some (status_in (held_by (seen app p)) session k) || is_next session k (held_by (seen app p)).runs)
late_begins_not app p session k j st less there none =
    let runs = (held_by (seen app p)).runs in
    let fresh : is_some (status_in (held_by (seen app p)) session k) ≡ false = ap is_some (status_seen app p session k st ∙ ap (option_map (λ (c : Called). status_of (begun_of app c))) none) in
    let greater : is_some (at run_cmp runs (session, j)) ≡ true = ap is_some (run_seen app p session j st) ∙ (some_run app (at run_cmp p.calls.entries (session, j)) ∙ there) in
    let late : is_next session k runs ≡ false = elim (is_next session k runs) as (λ b. is_next session k runs ≡ b → b ≡ false) [ true ↦ λ t. absurd (omega (arith, less, above_next session k j runs t greater)) | false ↦ λ t. refl ] refl in
    sym (ap₂ (λ (a b : Bool). a || b) fresh late)

-- the first call at and behind this one decides: one of another session
pub other_decides : (app : App) (p : Parts) (session k : ℕ) (key : RunKey) → Stand app p → IsFirst p.calls.entries session k key → (key.0 ≡ session → ⊥)
    → not (key.0 == session) ≡ (is_some (status_in (held_by (seen app p)) session k) || is_next session k (held_by (seen app p)).runs)
other_decides app p session k key st first other =
    let differ : (key.0 == session) ≡ false = elim (key.0 == session) as (λ b. (key.0 == session) ≡ b → b ≡ false) [ true ↦ λ t. absurd (other (eqb-true key.0 session t)) | false ↦ λ t. refl ] refl in
    ap not differ ∙ free_begins app p session k st (none_of_session p.calls.entries session k key first differ)

-- or one of its own
pub own_decides : (app : App) (p : Parts) (session k : ℕ) (key : RunKey) → Stand app p → IsFirst p.calls.entries session k key → key.0 ≡ session
    → (key.1 == k) ≡ (is_some (status_in (held_by (seen app p)) session k) || is_next session k (held_by (seen app p)).runs)
own_decides app p session k key st first own =
    elim (key.1 == k) as (λ b. (key.1 == k) ≡ b → b ≡ (is_some (status_in (held_by (seen app p)) session k) || is_next session k (held_by (seen app p)).runs)) [
      | true ↦ λ e. begun_begins app p session k st (at_own k (eqb-true key.1 k e))
      | false ↦ λ e. let late = none_of_call p.calls.entries session k key first own e in late_begins_not app p session k key.1 st late.0 (at_own key.1 refl) late.1
    ] refl
  where
    at_own : (n : ℕ) → key.1 ≡ n → is_some (at run_cmp p.calls.entries (session, n)) ≡ true
    at_own n e = ap (λ (q : RunKey). is_some (at run_cmp p.calls.entries q)) (λ i. (sym own i, sym e i)) ∙ first.there
