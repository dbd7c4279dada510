-- A client and its session for whom no act of a round is made: nothing waits anywhere, each call has ended, and each live subscription is at the end
-- of the history.
use Rattle.std.specs.Prelude.{◌≡◌, ◌⊎◌, ℕ, zero, suc, ◌+◌, ◌-◌, ◌≤◌, ◌<◌, ◌==◌, nat_lt, nat_le, List, [], ◌∷◌, ◌++◌, length, map, codes, replicate}
use Rattle.std.specs.Prelude.{take, Bool, true, false, cond, not, ◌&&◌, ◌||◌, Option, Some, None, is_some, is_none, option_map, IfSome, refl}
use Rattle.std.specs.Prelude.{if◌then◌else◌}
use Rattle.std.specs.List.{list_all}
use Rattle.std.specs.Ordering.{is_eq}
use Rattle.std.specs.declared.cmp.Ordering.{Ordering}
use Rattle.std.specs.declared.cmp.Ordering.TheVariants.{Less, Equal, Greater}
use Rattle.std.proofs.Common.{ap, sym, subst, ◌∙◌, arith, inl, inr}
use Rattle.std.proofs.lemmas.Bool.{not-true, ltb-false, leb-true, leb-false, lt-ltb, le-ltb, le-leb, eqb-true, eq-eqb, cases_order}
use Rattle.map_model.specs.Maps.{at}
use Rattle.app_model.specs.App.{App}
use Rattle.program_steps.specs.declared.outcome.Status.{Status}
use Rattle.program_steps.specs.declared.step.ProgramStep.{ProgramStep}
use Rattle.program_steps.specs.Runs.{Outcome, End}
use Rattle.world_model.specs.program_model.Kept.{is_over}
use Rattle.client_model.specs.Asking.{can_take}
use Rattle.world_model.specs.history_model.declared.entry.Entry.{Entry}
use Rattle.world_model.specs.history_model.History.{RunKey, run_cmp, Begun, Runs, no_steps, goes_on, status_of, status_in, status_at, held}
use Rattle.world_model.specs.history_model.HistoryLaws.{run_order}
use Rattle.world_model.specs.history_model.RunsLaws as runs
use Rattle.world_model.specs.history_model.Bounds.{IsBegun}
use Rattle.world_model.specs.session_model.Items.{Item}
use Rattle.world_model.specs.session_model.Items as item
use Rattle.world_model.specs.session_model.Subscriptions.{Live, is_live, cursor_of, may_load}
use Rattle.world_model.specs.session_model.Methods.{Phase as CallPhase, running, Method, Blocking, is_blocked_by, phase_at}
use Rattle.world_model.specs.session_model.Counting.{is_running as runs_on}
use Rattle.world_model.specs.session_model.State.{started}
use Rattle.world_model.specs.session_model.Moments.{run_of}
use Rattle.world_model.specs.session_model.Fits.{HasUnblocked, Fits}
use Rattle.world_model.specs.session_model.Taking.{max_text, Taken, at_once, to_queue, taken_text, taken_tree}
use Rattle.session_journal_laws.specs.BlockingLaws.{last_from}
use Rattle.session_journal_laws.specs.CountsLaws.{none_blocks}
use Rattle.session_journal_laws.specs.Tracking.{AreDistinct}
use Rattle.session_journal_laws.specs.TrackingLaws.{tracks}
use Rattle.serde_json.specs.Read as json
use Rattle.world_model.specs.declared.events.Act.{Act}
use Rattle.world_model.specs.declared.events.Act.TheVariants as act
use Rattle.world_model.specs.declared.events.Answer.TheVariants as answer
use Rattle.world_model.specs.Store.{programs, held_in, moments}
use Rattle.world_model.specs.StoreLaws.{moments_many, moments_at, moments_past}
use Rattle.world_model.specs.Conn.{Waiting, Refusal, Conn, state_in, link_limit, outbox_limit, waiting_bytes, is_full, is_crowded, is_at_work, has_some}
use Rattle.world_model.specs.Acts.{is_crowded_out, is_crowded_by, is_kept, without_run, unbegun, is_running, news_of, news_by, learnt, may_advance}
use Rattle.world_model.specs.Acts.{enabled, is_of_session, is_queue_full, is_done, can}
use Rattle.world_model.specs.Settle.{Phase, ups, recvs, handles, begins, steps, learns, loadings, advancings, sendings, takings, steps_of}
use Rattle.world_model.specs.Settle.{running_from, load_at, loads, advance_to, advances, acts_of}
use Rattle.world_model.specs.Headline.{AreAtEnd, have_ended}
use Rattle.headline.specs.Runs.{has_run}
use Rattle.headline.specs.RunsLaws.{run_then}
use Rattle.headline.specs.Journal.{AreWithin, HasPlaces}
use Rattle.headline.specs.JournalLaws.{runs_block_or_unblocked, places_within}

-- ---- truths

three : (a b c : Bool) → a ≡ true → b ≡ true → c ≡ true → (a && b && c) ≡ true
three a b c x y z = ap (λ q. q && b && c) x ∙ (ap (λ q. q && c) y ∙ z)

two : (a b : Bool) → a ≡ true → b ≡ true → (a && b) ≡ true
two a b x y = ap (λ q. q && b) x ∙ y

both : (a b : Bool) → (a && b) ≡ true → (a ≡ true) × (b ≡ true)
both true b e = (refl, e)
both false b e = cc e

differ : {A : Type 0} → true ≡ false → A
differ e = absurd (cc e)

known : {A : Type 0} (b : Bool) → (b ≡ true → A) → (b ≡ false → A) → A
known true f g = f refl
known false f g = g refl

-- ---- lists

all_behind : (f : Act → Bool) (xs ys : List Act) → list_all f (xs ++ ys) ≡ true → (list_all f xs ≡ true) × (list_all f ys ≡ true)
all_behind f [] ys e = (refl, e)
all_behind f (x ∷ xs) ys e =
    let parts = both (f x) (list_all f (xs ++ ys)) e in
    let rest = all_behind f xs ys parts.1 in
    (two (f x) (list_all f xs) parts.0 rest.0, rest.1)

-- ---- runs

first_step : (f : Act → Bool) (k : ℕ) (left : List ProgramStep) (more : List Act) → no_steps left ≡ false →
    list_all f (replicate (length left) (act.Step k) ++ more) ≡ true → f (act.Step k) ≡ true
first_step f k [] more going e = differ going
first_step f k (s ∷ left) more going e = (both (f (act.Step k)) (list_all f (replicate (length left) (act.Step k) ++ more)) e).0

-- a run of the session that goes on has its step among those of the round
step_among : (f : Act → Bool) (n k : ℕ) (rs : Runs) (b : Begun) → at run_cmp rs (n, k) ≡ Some b → no_steps b.run.left ≡ false →
    list_all f (steps_of n rs) ≡ true → f (act.Step k) ≡ true
step_among f n k [] b is going e = cc is
step_among f n k (r ∷ rs) b is going e =
    elim (run_cmp (n, k) r.0) as
    (λ (o : Ordering). run_cmp (n, k) r.0 ≡ o → cond (is_eq o) (Some r.1) (at run_cmp rs (n, k)) ≡ Some b → f (act.Step k) ≡ true) [
      | Less ↦ λ o there. step_among f n k rs b there going (later (n == r.0.0) e)
      | Greater ↦ λ o there. step_among f n k rs b there going (later (n == r.0.0) e)
      | Equal ↦ λ o there.
          let same : (n, k) ≡ r.0 = run_order.exact (n, k) r.0 o in
          let mine : r.1 ≡ b = cc there in
          let own : n == r.0.0 ≡ true = eq-eqb n r.0.0 (ap (λ (q : RunKey). q.0) same) in
          let its : list_all f (replicate (length r.1.run.left) (act.Step r.0.1) ++ steps_of n rs) ≡ true =
          sym (ap (λ b. list_all f (cond b (replicate (length r.1.run.left) (act.Step r.0.1) ++ steps_of n rs) (steps_of n rs))) own) ∙ e in
          let one = first_step f r.0.1 r.1.run.left (steps_of n rs) (ap (λ (x : Begun). no_steps x.run.left) mine ∙ going) its in
          ap (λ (q : RunKey). f (act.Step q.1)) same ∙ one
    ] refl is
  where
    later : (b : Bool) → list_all f (cond b (replicate (length r.1.run.left) (act.Step r.0.1) ++ steps_of n rs) (steps_of n rs)) ≡ true →
        list_all f (steps_of n rs) ≡ true
    later true h = (all_behind f (replicate (length r.1.run.left) (act.Step r.0.1)) (steps_of n rs) h).1
    later false h = h

none_left : (left : List ProgramStep) → no_steps left ≡ true → is_over left ≡ true
none_left [] e = refl
none_left (s ∷ left) e = cc e

-- a run that has no step left has ended
ended_run : (n : ℕ) (b : Begun) → IsBegun n b → no_steps b.run.left ≡ true → is_some (status_of b).ended ≡ true
ended_run n b i none = by b.run.outcome (i.0 ∙ none_left b.run.left none)
  where
    by : (o : Option Outcome) → is_some o ≡ true → is_some (option_map (λ o. let e : End = record { outcome = o; at = b.at } in e) o) ≡ true
    by None e = cc e
    by (Some o) e = refl

-- ---- calls

run_among : (f : ℕ → Bool) (g : ℕ → Act) (t : Act → Bool) → ((k : ℕ) → t (g k) ≡ f k) → (j k : ℕ) (ms : List Method) → phase_at k ms ≡ Some running →
    list_all t (map g (running_from j ms)) ≡ true → f (j + k) ≡ true
run_among f g t same j k [] is e = cc is
run_among f g t same j zero (m ∷ ms) is e =
    let mine : m.phase ≡ running = cc is in
    let one : list_all t (map g (j ∷ running_from (suc j) ms)) ≡ true =
    sym (ap (λ p. list_all t (map g (cond (runs_on p) (j ∷ running_from (suc j) ms) (running_from (suc j) ms)))) mine) ∙ e in
    let at_j : j + 0 ≡ j = omega arith in
    ap f at_j ∙ (sym (same j) ∙ (both (t (g j)) (list_all t (map g (running_from (suc j) ms))) one).0)
run_among f g t same j (suc k) (m ∷ ms) is e =
    let on : suc j + k ≡ j + suc k = omega arith in
    sym (ap f on) ∙ run_among f g t same (suc j) k ms is (by (runs_on m.phase) e)
  where
    by : (b : Bool) → list_all t (map g (cond b (j ∷ running_from (suc j) ms) (running_from (suc j) ms))) ≡ true →
        list_all t (map g (running_from (suc j) ms)) ≡ true
    by true h = (both (t (g j)) (list_all t (map g (running_from (suc j) ms))) h).1
    by false h = h

runs_by : (p : CallPhase) → runs_on p ≡ true → p ≡ running
runs_by running e = refl
runs_by p e = cc e

none_running : (ms : List Method) → ((k : ℕ) → phase_at k ms ≡ Some running → ⊥) → have_ended ms ≡ true
none_running [] h = refl
none_running (m ∷ ms) h =
    two (not (runs_on m.phase)) (have_ended ms) (known (runs_on m.phase) (λ e. absurd (h 0 (ap Some (runs_by m.phase e)))) (λ e. ap not e))
    (none_running ms (λ k is. h (suc k) is))

-- ---- subscriptions

pub record IsFound (whole : List Live) (l : Live) : Type 0 where
  pub cursor : cursor_of l.sub whole ≡ l.cursor
  pub loads : (place : ℕ) → may_load l.sub place whole ≡ (is_none l.cursor && nat_le l.floor place)

abbrev AreFound : List Live → List Live → Type 0
AreFound whole [] = Unit {0}
AreFound whole (l ∷ ls) = IsFound whole l × AreFound whole ls

other_sub : (a b : ℕ) → a == b ≡ false → b == a ≡ false
other_sub a b e = known (b == a) (λ is. differ (sym (eq-eqb a b (sym (eqb-true b a is))) ∙ e)) (λ is. is)

more_found : (x : Live) (whole ls : List Live) → is_live x.sub ls ≡ false → AreFound whole ls → AreFound (x ∷ whole) ls
more_found x whole [] none found = tt
more_found x whole (l ∷ ls) none found =
    elim (x.sub == l.sub) as (λ b. x.sub == l.sub ≡ b → cond b true (is_live x.sub ls) ≡ false → AreFound (x ∷ whole) (l ∷ ls)) [
      | true ↦ λ is h. differ h
      | false ↦ λ is h.
          let apart = other_sub x.sub l.sub is in (
            record {
              cursor = ap (λ b. cond b x.cursor (cursor_of l.sub whole)) apart ∙ found.0.cursor;
              loads = λ place. ap (λ b. cond b (is_none x.cursor && nat_le x.floor place) (may_load l.sub place whole)) apart ∙ found.0.loads place;
            },
            more_found x whole ls h found.1,
          )
    ] refl none

all_found : (ls : List Live) → AreDistinct ls → AreFound ls ls
all_found [] d = tt
all_found (l ∷ ls) d =
    let here : l.sub == l.sub ≡ true = eq-eqb l.sub l.sub refl in (
      record {
        cursor = ap (λ b. cond b l.cursor (cursor_of l.sub ls)) here;
        loads = λ place. ap (λ b. cond b (is_none l.cursor && nat_le l.floor place) (may_load l.sub place ls)) here;
      },
      more_found l ls ls d.0 (all_found ls d.1),
    )

-- ---- texts

not_crowded : (t : List ℕ) (connected : Bool) (taken : Taken) → taken_text connected t ≡ taken → is_crowded_out [] (length t) taken ≡ false
not_crowded t connected (at_once i) is = refl
not_crowded t connected (to_queue message) is = known (nat_lt max_text (length t)) (λ long. absurd (longer long)) (λ short. few short)
  where
    longer : nat_lt max_text (length t) ≡ true → ⊥
    longer long = let e : at_once (item.bad (codes "Bad request") None) ≡ to_queue message =
        sym (ap (λ b. cond b (at_once (item.bad (codes "Bad request") None)) (taken_tree connected (json.read t))) long) ∙ is in cc e

    few : nat_lt max_text (length t) ≡ false → is_crowded [] (length t) ≡ false
    few short = let le = ltb-false max_text (length t) short in le-ltb waiting_bytes (0 + length t) (omega (arith, le))

-- ---- what is at rest

pub record IsResting (history : List Entry) (c : Conn) : Type 0 where
  pub waiting : c.client.waiting ≡ []
  pub upward : c.upward ≡ []
  pub queue : c.queue ≡ []
  pub outbox : c.outbox ≡ []
  pub downward : c.downward ≡ []
  pub ended : have_ended (state_in c).methods ≡ true
  pub blocking : (state_in c).blocking ≡ None
  pub at_end : AreAtEnd (length history) (state_in c).subs

module _ (app : App) (history : List Entry) (c : Conn)
    (there : c.is_dropped ≡ false) (room : is_full c ≡ false) (able : can_take c.client ≡ true) (going : (state_in c).failed ≡ false)
    (none : (p : Phase) → list_all (λ a. not (can app history c a)) (acts_of app history c p) ≡ true)
    (fits : Fits app c.number (moments app c.number history) c.items) where
  abbrev idle : Act → Bool
  idle a = not (can app history c a)

  made : (a : Act) → enabled app history c a ≡ true → is_queue_full c a ≡ false → can app history c a ≡ true
  made a e q =
      ap (λ b. is_done (if not b then answer.Idle else
      (if is_of_session a && is_full c then answer.JournalFull else (if is_queue_full c a then answer.QueueFull else answer.Done)))) e
      ∙ (ap (λ b. is_done (if is_of_session a && b then answer.JournalFull else (if is_queue_full c a then answer.QueueFull else answer.Done))) room
      ∙ (no_item (is_of_session a) ∙ ap (λ b. is_done (if b then answer.QueueFull else answer.Done)) q))
    where
      no_item : (b : Bool) →
          is_done (if b && false then answer.JournalFull else (if is_queue_full c a then answer.QueueFull else answer.Done)) ≡ is_done
          (if is_queue_full c a then answer.QueueFull else answer.Done)
      no_item true = refl
      no_item false = refl

  -- an act that isn't made where there is room isn't enabled
  disabled : (a : Act) → is_queue_full c a ≡ false → idle a ≡ true → enabled app history c a ≡ false
  disabled a q e = known (enabled app history c a) (λ is. differ (sym (made a is q) ∙ not-true (can app history c a) e)) (λ is. is)

  nothing : {X : Type 0} (xs : List X) (a : Act) → (has_some xs ≡ true → enabled app history c a ≡ true) →
      (has_some xs ≡ true → is_queue_full c a ≡ false) → list_all idle (replicate (length xs) a) ≡ true → xs ≡ []
  nothing [] a on q e = refl
  nothing (x ∷ xs) a on q e = differ (sym (on refl) ∙ disabled a (q refl) (both (idle a) (list_all idle (replicate (length xs) a)) e).0)

  present : not c.is_dropped ≡ true
  present = ap not there

  pub no_downward : c.downward ≡ []
  no_downward = nothing c.downward act.Take (λ some. three (not c.is_dropped) (has_some c.downward) (can_take c.client) present some able)
      (λ some. refl) (none takings)

  pub no_outbox : c.outbox ≡ []
  no_outbox =
      nothing c.outbox act.Send
      (λ some. three (not c.is_dropped) (has_some c.outbox) (nat_lt (length c.downward) link_limit) present some
      (ap (λ (ts : List (List ℕ)). nat_lt (length ts) link_limit) no_downward)) (λ some. refl) (none sendings)

  works : is_at_work c ≡ true
  works = three (not c.is_dropped) (not (state_in c).failed) (nat_lt (length c.outbox) outbox_limit) present (ap not going)
      (ap (λ (ts : List (List ℕ)). nat_lt (length ts) outbox_limit) no_outbox)

  -- ---- calls

  nothing_begun : is_some (unbegun app history c) ≡ false
  nothing_begun =
      let off = disabled act.Begin refl (both (idle act.Begin) true (none begins)).0 in
      known (is_some (unbegun app history c)) (λ is. differ (sym (two (not c.is_dropped) (is_some (unbegun app history c)) present is) ∙ off)) (λ is. is)

  -- each run of the session has ended
  run_ended : (k : ℕ) (b : Begun) → at run_cmp (held_in app history).runs (c.number, k) ≡ Some b → no_steps b.run.left ≡ true
  run_ended k b is =
      known (no_steps b.run.left) (λ e. e)
      (λ e.
      let off = disabled (act.Step k) refl (step_among idle c.number k (held_in app history).runs b is e (none steps)) in
      differ (sym (ap goes_on is ∙ ap not e) ∙ off))

  status_ended : (k : ℕ) (o : Option Begun) → at run_cmp (held_in app history).runs (c.number, k) ≡ o → is_some (option_map status_of o) ≡ true →
      IfSome o (IsBegun (held_in app history).entries) →
      (status : Status) × (option_map status_of o ≡ Some status) × (is_some status.ended ≡ true)
  status_ended k None is some i = absurd (cc some)
  status_ended k (Some b) is some i = (status_of b, refl, ended_run (held_in app history).entries b i (run_ended k b is))

  whole_take : {A : Type 0} (xs : List A) → take (length xs) xs ≡ xs
  whole_take [] = refl
  whole_take (x ∷ xs) = ap (λ ys. x ∷ ys) (whole_take xs)

  has_news : (k : ℕ) → phase_at k (state_in c).methods ≡ Some running → has_run app history c.number k ≡ true →
      is_some (news_by (state_in c) k (status_at (programs app) history (length history) c.number k)) ≡ true
  has_news k is ran =
      let held_is = runs.held_is (programs app) history in
      let s = status_ended k (at run_cmp (held_in app history).runs (c.number, k)) refl ran (held_is.begun (c.number, k)) in
      let now : status_at (programs app) history (length history) c.number k ≡ Some s.0 =
      ap (λ (es : List Entry). status_in (held (programs app) es) c.number k) (whole_take history) ∙ s.1 in
      ap (λ (o : Option Status). is_some (news_by (state_in c) k o)) now
      ∙ (ap (λ (p : Option CallPhase). is_some (if is_running p then news_of (state_in c) k s.0.unblocked s.0.ended else None)) is
      ∙ by s.0.unblocked s.0.ended s.2)
    where
      by : (u : Bool) (o : Option End) → is_some o ≡ true → is_some (news_of (state_in c) k u o) ≡ true
      by u None e = cc e
      by u (Some end) e = refl

  kept_some : (k : ℕ) (o : Option Refusal) → is_kept k o ≡ true → is_some (option_map (λ (r : Refusal). item.refused k r.at) o) ≡ true
  kept_some k None e = cc e
  kept_some k (Some r) e = refl

  -- a call that runs and has a run, or a refusal, is learnt of
  is_learnt : (k : ℕ) → phase_at k (state_in c).methods ≡ Some running → (is_kept k c.kept ≡ true) ⊎ (has_run app history c.number k ≡ true) →
      is_some (learnt app history c k (length history)) ≡ true
  is_learnt k is why =
      known (is_kept k c.kept)
      (λ kept. ap (λ b. is_some (cond b (option_map (λ (r : Refusal). item.refused k r.at) c.kept) (if nat_le (length history) (length history)
      then news_by (state_in c) k (status_at (programs app) history (length history) c.number k) else None))) kept ∙ kept_some k c.kept kept)
      (λ free.
      ap (λ b. is_some (cond b (option_map (λ (r : Refusal). item.refused k r.at) c.kept) (if nat_le (length history)
      (length history) then news_by (state_in c) k (status_at (programs app) history (length history) c.number k) else None))) free
      ∙ (ap (λ b. is_some (cond b (news_by (state_in c) k (status_at (programs app) history (length history) c.number k)) None))
      (le-leb (length history) (length history) (omega arith))
      ∙ has_news k is (ran free why)))
    where
      ran : is_kept k c.kept ≡ false → (is_kept k c.kept ≡ true) ⊎ (has_run app history c.number k ≡ true) → has_run app history c.number k ≡ true
      ran free (inl kept) = differ (sym kept ∙ free)
      ran free (inr r) = r

  -- the call that blocks was begun or refused
  blocked_why : (k : ℕ) (o : Option Blocking) → (state_in c).blocking ≡ o → is_blocked_by k o ≡ true →
      (is_kept k c.kept ≡ true) ⊎ (has_run app history c.number k ≡ true)
  blocked_why k None is blocked = absurd (cc blocked)
  blocked_why k (Some b) is blocked =
      let same : k ≡ b.k = eqb-true k b.k blocked in
      subst (λ j. (is_kept j c.kept ≡ true) ⊎ (has_run app history c.number j ≡ true)) (sym same)
      (known (has_run app history c.number b.k) (λ ran. inr ran)
      (λ free. known (is_kept b.k c.kept) (λ kept. inl kept) (λ none_kept. differ (wants free none_kept))))
    where
      wants : has_run app history c.number b.k ≡ false → is_kept b.k c.kept ≡ false → true ≡ false
      wants free none_kept =
          sym (ap (λ (o : Option Blocking). is_some (without_run (held_in app history) c o)) is
          ∙ (ap (λ x. is_some (cond (x || is_kept b.k c.kept) None (Some b))) free ∙ ap (λ x. is_some (cond x None (Some b))) none_kept))
          ∙ nothing_begun

  unblocked_ran : (k : ℕ) → HasUnblocked (moments app c.number history) k → has_run app history c.number k ≡ true
  unblocked_ran k u = known (nat_le u.place (length history)) (λ le. within (leb-true u.place (length history) le))
      (λ no_. past (leb-false u.place (length history) no_))
    where
      within : u.place ≤ length history → has_run app history c.number k ≡ true
      within le = run_then app history u.place c.number k u.status (sym (ap (run_of k) (moments_at app c.number history u.place le)) ∙ u.is)

      past : length history < u.place → has_run app history c.number k ≡ true
      past less = let e : None ≡ Some u.status = sym (ap (run_of k) (moments_past app c.number history u.place less)) ∙ u.is in absurd (cc e)

  no_call : (k : ℕ) → phase_at k (state_in c).methods ≡ Some running → ⊥
  no_call k is =
      let some = is_learnt k is (why (runs_block_or_unblocked app c.number (moments app c.number history) c.items fits k is)) in
      let on = two (is_at_work c) (is_some (learnt app history c k (length history))) works some in
      let listed = run_among (λ j. idle (act.Learn j (length history))) (λ j. act.Learn j (length history)) idle (λ j. refl) 0 k
      (state_in c).methods is (none learns) in
      let k_is : 0 + k ≡ k = omega arith in
      let off = disabled (act.Learn k (length history)) refl (sym (ap (λ j. idle (act.Learn j (length history))) k_is) ∙ listed) in
      differ (sym on ∙ off)
    where
      why : (is_blocked_by k (state_in c).blocking ≡ true) ⊎ HasUnblocked (moments app c.number history) k →
          (is_kept k c.kept ≡ true) ⊎ (has_run app history c.number k ≡ true)
      why (inl blocked) = blocked_why k (state_in c).blocking refl blocked
      why (inr u) = inr (unblocked_ran k u)

  pub all_ended : have_ended (state_in c).methods ≡ true
  all_ended = none_running (state_in c).methods no_call

  pub none_blocking : (state_in c).blocking ≡ None
  none_blocking = by (state_in c).blocking refl
    where
      by : (o : Option Blocking) → (state_in c).blocking ≡ o → o ≡ None
      by None is = refl
      by (Some b) is = absurd
          (no_call b.k (last_from app c.number (moments app c.number history) started c.items fits none_blocks b.k
          (ap (is_blocked_by b.k) is ∙ eq-eqb b.k b.k refl)).runs)

  -- ---- what waits

  pub no_queue : c.queue ≡ []
  no_queue = nothing c.queue act.Handle
      (λ some. three (is_at_work c) (has_some c.queue)
      (is_none (state_in c).blocking) works some (ap (λ (o : Option Blocking). is_none o) none_blocking)) (λ some. refl) (none handles)

  pub no_upward : c.upward ≡ []
  no_upward = nothing c.upward act.Recv (λ some. two (is_at_work c) (has_some c.upward) works some) (λ some. fits_in c.upward) (none recvs)
    where
      fits_in : (ts : List (List ℕ)) → is_crowded_by c ts ≡ false
      fits_in [] = refl
      fits_in (t ∷ ts) =
          ap (λ (q : List Waiting). is_crowded_out q (length t) (taken_text (state_in c).connected t)) no_queue
          ∙ not_crowded t (state_in c).connected (taken_text (state_in c).connected t) refl

  pub no_waiting : c.client.waiting ≡ []
  no_waiting =
      nothing c.client.waiting act.Up
      (λ some. three (not c.is_dropped) (has_some c.client.waiting) (nat_lt (length c.upward) link_limit) present some
      (ap (λ (ts : List (List ℕ)). nat_lt (length ts) link_limit) no_upward)) (λ some. refl) (none ups)

  -- ---- subscriptions

  is_loaded : (l : Live) → IsFound (state_in c).subs l → l.floor ≤ length history → l.cursor ≡ None → idle (act.Load l.sub (length history)) ≡ true → ⊥
  is_loaded l found low is e =
      let off = disabled (act.Load l.sub (length history)) refl e in
      let may : may_load l.sub (length history) (state_in c).subs ≡ true = found.loads (length history)
      ∙ two (is_none l.cursor) (nat_le l.floor (length history)) (ap (λ (o : Option ℕ). is_none o) is) (le-leb l.floor (length history) low) in
      differ (sym (three (is_at_work c) (nat_le (length history) (length history)) (may_load l.sub (length history) (state_in c).subs) works
      (le-leb (length history) (length history) (omega arith)) may) ∙ off)

  is_at_end : (l : Live) (cursor : ℕ) → IsFound (state_in c).subs l → l.cursor ≡ Some cursor → cursor ≤ length history →
      idle (act.Advance l.sub (length history - cursor)) ≡ true → cursor ≡ length history
  is_at_end l cursor found is le e = by (cases_order cursor (length history))
    where
      by : (cursor ≡ length history) ⊎ ((cursor < length history) ⊎ (length history < cursor)) → cursor ≡ length history
      by (inl same) = same
      by (inr (inr less)) = absurd (omega (arith, le, less))
      by (inr (inl less)) =
          let off = disabled (act.Advance l.sub (length history - cursor)) refl e in
          let may : may_advance (length history) (length history - cursor) (cursor_of l.sub (state_in c).subs) ≡ true =
          ap (may_advance (length history) (length history - cursor)) (found.cursor ∙ is)
          ∙ two (nat_lt 0 (length history - cursor)) (nat_le (cursor + (length history - cursor)) (length history))
          (lt-ltb 0 (length history - cursor) (omega (arith, less)))
          (le-leb (cursor + (length history - cursor)) (length history) (omega (arith, less))) in
          differ (sym (two (is_at_work c) (may_advance (length history) (length history - cursor) (cursor_of l.sub (state_in c).subs)) works may) ∙ off)

  lives_end : (reach : ℕ) (ls : List Live) → reach ≤ length history → AreFound (state_in c).subs ls → AreWithin (suc (length history)) reach ls →
      list_all idle (loads (length history) ls) ≡ true → list_all idle (advances (length history) ls) ≡ true →
      AreAtEnd (length history) ls
  lives_end reach [] le found w lo ad = tt
  lives_end reach (l ∷ ls) le found w lo ad =
      let l2 = all_behind idle (load_at (length history) l) (loads (length history) ls) lo in
      let a2 = all_behind idle (advance_to (length history) l.sub l.cursor) (advances (length history) ls) ad in
      (by l.cursor refl w.0.1 l2.0 a2.0, lives_end reach ls le found.1 w.1 l2.1 a2.1)
    where
      by : (o : Option ℕ) → l.cursor ≡ o → IfSome o (λ cursor. cursor < suc (length history)) →
          list_all idle (if is_none l.cursor then act.Load l.sub (length history) ∷ [] else []) ≡ true →
          list_all idle (advance_to (length history) l.sub o) ≡ true → o ≡ Some (length history)
      by None is less lo ad =
          absurd (is_loaded l found.0 (omega (arith, w.0.0, le)) is
          (both (idle (act.Load l.sub (length history))) true
          (sym (ap (λ (o : Option ℕ). list_all idle (if is_none o then act.Load l.sub (length history) ∷ [] else [])) is) ∙ lo)).0)
      by (Some cursor) is less lo ad =
          ap Some (is_at_end l cursor found.0 is (omega (arith, less)) (both (idle (act.Advance l.sub (length history - cursor))) true ad).0)

  pub subs_end : AreAtEnd (length history) (state_in c).subs
  subs_end =
      let C = moments app c.number history in
      let many = moments_many app c.number history in
      let places = subst (λ n. HasPlaces n (state_in c)) many (places_within app c.number C c.items fits (omega (arith, many))) in
      lives_end (state_in c).reach (state_in c).subs (omega (arith, places.reach))
      (all_found (state_in c).subs (tracks app c.number C c.items fits).distinct) places.lives (none loadings) (none advancings)

  pub is_resting : IsResting history c
  is_resting = record {
    waiting = no_waiting;
    upward = no_upward;
    queue = no_queue;
    outbox = no_outbox;
    downward = no_downward;
    ended = all_ended;
    blocking = none_blocking;
    at_end = subs_end;
  }
