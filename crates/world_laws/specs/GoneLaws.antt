-- Laws: A client that is gone has nothing to do where its runs have ended, and then no entry of another session gives it anything.
use Rattle.std.specs.Prelude.{◌≡◌, ℕ, zero, suc, ◌-◌, ◌==◌, nat_lt, nat_le, is_none, if◌then◌else◌, List, [], ◌∷◌, ◌++◌, length, map, replicate, Bool}
use Rattle.std.specs.Prelude.{true, false, cond, not, ◌&&◌, Option, Some, None, is_some, refl}
use Rattle.std.specs.List.{list_all}
use Rattle.std.specs.Ordering.{eq_by_cmp, is_eq}
use Rattle.std.proofs.Common.{ap, sym, ◌∙◌}
use Rattle.std.proofs.lemmas.Bool.{eq-eqb}
use Rattle.map_model.specs.Maps.{at, set, IsSorted}
use Rattle.map_model.specs.MapLaws.{at-set, key_is}
use Rattle.value_model.specs.Val.{Val}
use Rattle.ejson_value.specs.View.{view}
use Rattle.program_steps.specs.declared.step.ProgramStep.{ProgramStep}
use Rattle.app_model.specs.App.{App}
use Rattle.headline.specs.history_model.declared.entry.Entry.{Entry}
use Rattle.headline.specs.history_model.declared.entry.Entry.TheVariants as entry
use Rattle.headline.specs.history_model.History.{Programs, Held, RunKey, Runs, Begun, run_cmp, goes_on, no_steps, with_begin, with_step, later}
use Rattle.headline.specs.history_model.History.{with_stepped, setting_in, carried, nothing, held_from, steps_of as steps_in}
use Rattle.headline.specs.history_model.HistoryLaws.{run_order, held_from-append}
use Rattle.headline.specs.history_model.Operations.{operation_in}
use Rattle.headline.specs.history_model.RunsLaws as runs
use Rattle.headline.specs.history_model.Bounds.{IsHeld}
use Rattle.headline.specs.program_model.Run.{begun}
use Rattle.headline.specs.program_model.Steps.{stepped}
use Rattle.headline.specs.world_model.declared.events.Act.{Act}
use Rattle.headline.specs.world_model.declared.events.Act.TheVariants as act
use Rattle.headline.specs.world_model.Store.{programs, held_in}
use Rattle.client_model.specs.Asking.{can_take}
use Rattle.headline.specs.session_model.Subscriptions.{Live, cursor_of, may_load}
use Rattle.headline.specs.world_model.Conn.{Conn, state_in, link_limit, outbox_limit, is_full, is_at_work, has_some}
use Rattle.headline.specs.world_model.declared.events.Answer.TheVariants as answer
use Rattle.headline.specs.world_model.Acts.{enabled, unbegun, learnt, may_advance, is_done, is_of_session, is_queue_full, can}
use Rattle.headline.specs.world_model.Settle.{Phase, ups, recvs, handles, begins, steps, learns, loadings, advancings, sendings, takings, steps_of}
use Rattle.headline.specs.world_model.Settle.{running_from, loads, advance_to, advances}
use Rattle.headline.specs.world_invariant_laws.Lift.{is_by}
use Rattle.connection_laws.specs.Links.{is_step}
use Rattle.rounds_model.specs.Rounds.{none_of}
use Rattle.world_rounds_laws.specs.Visits.{can_on, phase_on}
use Rattle.world_laws.specs.World.{IsIdle}
use Rattle.world_laws.specs.Idle.{idle_from, steps_idle}
use Rattle.world_laws.specs.Gone.{AreNotBy, HasEnded}

-- ---- runs of one session

module _ (n k : ℕ) where
  apart_keys : (m j : ℕ) → (n == m) ≡ false → eq_by_cmp run_cmp (n, k) (m, j) ≡ false
  apart_keys m j apart = by (eq_by_cmp run_cmp (n, k) (m, j)) refl
    where
      by : (b : Bool) → eq_by_cmp run_cmp (n, k) (m, j) ≡ b → eq_by_cmp run_cmp (n, k) (m, j) ≡ false
      by false e = e
      by true e = let same : n ≡ m = ap (λ (q : RunKey). q.0) (key_is run_order (n, k) (m, j) e) in cc (sym (eq-eqb n m same) ∙ apart)

  -- what is put at the key of another session
  put_apart : (rs : Runs) (m j : ℕ) (b : Begun) → IsSorted run_cmp rs → (n == m) ≡ false →
      at run_cmp (set run_cmp rs (m, j) (Some b)) (n, k) ≡ at run_cmp rs (n, k)
  put_apart rs m j b sorted apart = at-set run_order rs (m, j) (Some b) (n, k) sorted ∙ ap (λ c. cond c (Some b) (at run_cmp rs (n, k))) (apart_keys m j apart)

  begin_apart : (app : Programs) (h : Held) (m j : ℕ) (method : List ℕ) (params : List Val) (seed : Val) (o : Option Begun) → IsHeld h →
      (n == m) ≡ false → at run_cmp (with_begin app h (m, j) method params seed o).runs (n, k) ≡ at run_cmp h.runs (n, k)
  begin_apart app h m j method params seed None i apart =
      put_apart h.runs m j (record { run = begun params seed (steps_in (app.method method)); at = suc h.entries }) i.sorted apart
  begin_apart app h m j method params seed (Some b) i apart = refl

  step_apart : (app : Programs) (h : Held) (m j : ℕ) (o : Option Begun) → IsHeld h → (n == m) ≡ false →
      at run_cmp (with_step app h (m, j) o).runs (n, k) ≡ at run_cmp h.runs (n, k)
  step_apart app h m j None i apart = refl
  step_apart app h m j (Some b) i apart =
      let s = stepped (setting_in app h) h.rows b.run in
      elim (no_steps b.run.left) as (λ (c : Bool). at run_cmp (cond c (later h) (with_stepped h (m, j) s)).runs (n, k) ≡ at run_cmp h.runs (n, k)) [
        | true ↦ refl
        | false ↦ put_apart h.runs m j (record { run = s.run; at = suc h.entries }) i.sorted apart
      ]

  other_runs : (app : Programs) (h : Held) (e : Entry) → IsHeld h → is_by n e ≡ false → at run_cmp (carried app h e).runs (n, k) ≡ at run_cmp h.runs (n, k)
  other_runs app h (entry.Begin m j method params seed) i apart = begin_apart app h m j method params (view seed) (at run_cmp h.runs (m, j)) i apart
  other_runs app h (entry.Step m j) i apart = step_apart app h m j (at run_cmp h.runs (m, j)) i apart
  other_runs app h (entry.Admin op) i apart = ap (λ (rs : Runs). at run_cmp rs (n, k)) (runs.operation_runs app h (operation_in op))

  from_runs : (app : Programs) (h : Held) (es : List Entry) → IsHeld h → AreNotBy n es → at run_cmp (held_from app h es).runs (n, k) ≡ at run_cmp h.runs (n, k)
  from_runs app h [] i apart = refl
  from_runs app h (e ∷ es) i apart = from_runs app (carried app h e) es (runs.carried_is app h e i) apart.1 ∙ other_runs app h e i apart.0

  same_run : (app : App) (history more : List Entry) → AreNotBy n more →
      at run_cmp (held_in app (history ++ more)).runs (n, k) ≡ at run_cmp (held_in app history).runs (n, k)
  same_run app history more apart =
      ap (λ (h : Held). at run_cmp h.runs (n, k)) (held_from-append (programs app) nothing history more)
      ∙ from_runs (programs app) (held_in app history) more (runs.held_is (programs app) history) apart

-- ---- what is listed

both : (a b : Bool) → (a && b) ≡ true → (a ≡ true) × (b ≡ true)
both true b e = (refl, e)
both false b e = cc e

none_behind : (f : Act → Bool) (xs ys : List Act) → list_all f (xs ++ ys) ≡ true → list_all f ys ≡ true
none_behind f [] ys e = e
none_behind f (x ∷ xs) ys e = none_behind f xs ys (both (f x) (list_all f (xs ++ ys)) e).1

first_of : (f : Act → Bool) (k : ℕ) (left : List ProgramStep) (more : List Act) → no_steps left ≡ false →
    list_all f (replicate (length left) (act.Step k) ++ more) ≡ true → f (act.Step k) ≡ true
first_of f k [] more going e = cc going
first_of f k (s ∷ left) more going e = (both (f (act.Step k)) (list_all f (replicate (length left) (act.Step k) ++ more)) e).0

step_listed : (f : Act → Bool) (n k : ℕ) (rs : Runs) (b : Begun) → at run_cmp rs (n, k) ≡ Some b → no_steps b.run.left ≡ false →
    list_all f (steps_of n rs) ≡ true → f (act.Step k) ≡ true
step_listed f n k [] b is going e = cc is
step_listed f n k (r ∷ rs) b is going e =
    elim (is_eq (run_cmp (n, k) r.0)) as
    (λ (o : Bool). is_eq (run_cmp (n, k) r.0) ≡ o → cond o (Some r.1) (at run_cmp rs (n, k)) ≡ Some b → f (act.Step k) ≡ true) [
      | false ↦ λ o there. step_listed f n k rs b there going (later_of (n == r.0.0) e)
      | true ↦ λ o there.
          let same : (n, k) ≡ r.0 = key_is run_order (n, k) r.0 o in
          let mine : r.1 ≡ b = cc there in
          let own : n == r.0.0 ≡ true = eq-eqb n r.0.0 (ap (λ (q : RunKey). q.0) same) in
          let its : list_all f (replicate (length r.1.run.left) (act.Step r.0.1) ++ steps_of n rs) ≡ true =
          sym (ap (λ b. list_all f (cond b (replicate (length r.1.run.left) (act.Step r.0.1) ++ steps_of n rs) (steps_of n rs))) own) ∙ e in
          ap (λ (q : RunKey). f (act.Step q.1)) same ∙ first_of f r.0.1 r.1.run.left (steps_of n rs) (ap (λ (x : Begun). no_steps x.run.left) mine ∙ going) its
    ] refl is
  where
    later_of : (b : Bool) → list_all f (cond b (replicate (length r.1.run.left) (act.Step r.0.1) ++ steps_of n rs) (steps_of n rs)) ≡ true →
        list_all f (steps_of n rs) ≡ true
    later_of true h = none_behind f (replicate (length r.1.run.left) (act.Step r.0.1)) (steps_of n rs) h
    later_of false h = h

replicate_not : (f : Act → Bool) (m : ℕ) (a : Act) (more : List Act) → f a ≡ true → list_all f more ≡ true → list_all f (replicate m a ++ more) ≡ true
replicate_not f zero a more off_is rest = rest
replicate_not f (suc m) a more off_is rest = ap (λ b. b && list_all f (replicate m a ++ more)) off_is ∙ replicate_not f m a more off_is rest

steps_not : (f : Act → Bool) (n : ℕ) (rs : Runs) → ((k : ℕ) → f (act.Step k) ≡ true) → list_all f (steps_of n rs) ≡ true
steps_not f n [] off_is = refl
steps_not f n (r ∷ rs) off_is =
    let rest = steps_not f n rs off_is in
    elim (n == r.0.0) as (λ b. list_all f (cond b (replicate (length r.1.run.left) (act.Step r.0.1) ++ steps_of n rs) (steps_of n rs)) ≡ true) [
      | true ↦ replicate_not f (length r.1.run.left) (act.Step r.0.1) (steps_of n rs) (off_is r.0.1) rest
      | false ↦ rest
    ]

-- ---- a client that is gone

step_can : (app : App) (history : List Entry) (c : Conn) (k : ℕ) →
    can app history c (act.Step k) ≡ goes_on (at run_cmp (held_in app history).runs (c.number, k))
step_can app history c k = by (goes_on (at run_cmp (held_in app history).runs (c.number, k)))
  where
    by : (b : Bool) → is_done (if not b then answer.Idle else answer.Done) ≡ b
    by true = refl
    by false = refl

idle_ended : (app : App) (history : List Entry) (c : Conn) → IsIdle app history c → HasEnded app history c.number
idle_ended app history c idle k = by (at run_cmp (held_in app history).runs (c.number, k)) refl
  where
    by : (o : Option Begun) → at run_cmp (held_in app history).runs (c.number, k) ≡ o → goes_on o ≡ false
    by None e = refl
    by (Some b) e = left (no_steps b.run.left) refl
      where
        left : (x : Bool) → no_steps b.run.left ≡ x → not (no_steps b.run.left) ≡ false
        left true l = ap not l
        left false l =
            let off = step_listed (λ a. not (can app history c a)) c.number k (held_in app history).runs b e l
            (steps_idle app (record { history = history; conn = c }) idle) in
            cc (sym (ap not (step_can app history c k ∙ (ap goes_on e ∙ ap not l))) ∙ off)

-- what no act but a step does
module _ (f : Act → Bool) (off_is : (a : Act) → is_step a ≡ false → f a ≡ true) where
  again : (n : ℕ) (a : Act) → is_step a ≡ false → list_all f (replicate n a) ≡ true
  again zero a e = refl
  again (suc n) a e = ap (λ b. b && list_all f (replicate n a)) (off_is a e) ∙ again n a e

  none_learnt : (entries : ℕ) (ks : List ℕ) → list_all f (map (λ k. act.Learn k entries) ks) ≡ true
  none_learnt entries [] = refl
  none_learnt entries (k ∷ ks) = ap (λ b. b && list_all f (map (λ j. act.Learn j entries) ks)) (off_is (act.Learn k entries) refl) ∙ none_learnt entries ks

  none_loaded : (entries : ℕ) (ls : List Live) → list_all f (loads entries ls) ≡ true
  none_loaded entries [] = refl
  none_loaded entries (l ∷ ls) = by (is_none l.cursor) (none_loaded entries ls)
    where
      by : (b : Bool) → list_all f (loads entries ls) ≡ true → list_all f ((if b then act.Load l.sub entries ∷ [] else []) ++ loads entries ls) ≡ true
      by true rest = ap (λ b. b && list_all f (loads entries ls)) (off_is (act.Load l.sub entries) refl) ∙ rest
      by false rest = rest

  none_led : (entries : ℕ) (ls : List Live) → list_all f (advances entries ls) ≡ true
  none_led entries [] = refl
  none_led entries (l ∷ ls) = by l.cursor (none_led entries ls)
    where
      by : (o : Option ℕ) → list_all f (advances entries ls) ≡ true → list_all f (advance_to entries l.sub o ++ advances entries ls) ≡ true
      by None rest = rest
      by (Some cursor) rest = ap (λ b. b && list_all f (advances entries ls)) (off_is (act.Advance l.sub (entries - cursor)) refl) ∙ rest

off_can : (app : App) (history : List Entry) (c : Conn) (a : Act) → enabled app history c a ≡ false → can app history c a ≡ false
off_can app history c a e =
    ap (λ b. is_done (if not b then answer.Idle else
    (if is_of_session a && is_full c then answer.JournalFull else (if is_queue_full c a then answer.QueueFull else answer.Done)))) e

module _ (app : App) (history : List Entry) (c : Conn) (gone : c.is_dropped ≡ true) where
  no_work : is_at_work c ≡ false
  no_work = ap (λ d. not d && not (state_in c).failed && nat_lt (length c.outbox) outbox_limit) gone

  gone_off : (a : Act) → is_step a ≡ false → enabled app history c a ≡ false
  gone_off act.Up e = ap (λ d. not d && has_some c.client.waiting && nat_lt (length c.upward) link_limit) gone
  gone_off act.Recv e = ap (λ b. b && has_some c.upward) no_work
  gone_off act.Handle e = ap (λ b. b && has_some c.queue && is_none (state_in c).blocking) no_work
  gone_off act.Begin e = ap (λ d. not d && is_some (unbegun app history c)) gone
  gone_off (act.Step k) e = cc e
  gone_off (act.Learn k place) e = ap (λ b. b && is_some (learnt app history c k place)) no_work
  gone_off (act.Load sub place) e = ap (λ b. b && nat_le place (length history) && may_load sub place (state_in c).subs) no_work
  gone_off (act.Advance sub count) e = ap (λ b. b && may_advance (length history) count (cursor_of sub (state_in c).subs)) no_work
  gone_off act.Send e = ap (λ d. not d && has_some c.outbox && nat_lt (length c.downward) link_limit) gone
  gone_off act.Take e = ap (λ d. not d && has_some c.downward && can_take c.client) gone

  off : (a : Act) → is_step a ≡ false → not (can app history c a) ≡ true
  off a e = ap not (off_can app history c a (gone_off a e))

  abbrev idle : Act → Bool
  idle a = not (can app history c a)

  each_idle : HasEnded app history c.number → (p : Phase) →
      none_of (can_on app) (phase_on app p (record { history = history; conn = c })) (record { history = history; conn = c }) ≡ true
  each_idle ended ups = again idle off (length c.client.waiting) act.Up refl
  each_idle ended recvs = again idle off (length c.upward) act.Recv refl
  each_idle ended handles = again idle off (length c.queue) act.Handle refl
  each_idle ended begins = ap (λ b. b && true) (off act.Begin refl)
  each_idle ended steps = steps_not idle c.number (held_in app history).runs (λ k. ap not (step_can app history c k ∙ ended k))
  each_idle ended learns = none_learnt idle off (length history) (running_from 0 (state_in c).methods)
  each_idle ended loadings = none_loaded idle off (length history) (state_in c).subs
  each_idle ended advancings = none_led idle off (length history) (state_in c).subs
  each_idle ended sendings = again idle off (length c.outbox) act.Send refl
  each_idle ended takings = again idle off (length c.downward) act.Take refl

  ended_idle : HasEnded app history c.number → IsIdle app history c
  ended_idle ended = idle_from app (record { history = history; conn = c }) (each_idle ended)

-- Entries of other sessions leave a client idle that is gone.
pub gone_stays : (app : App) (history more : List Entry) (c : Conn) → c.is_dropped ≡ true → AreNotBy c.number more → IsIdle app history c →
    IsIdle app (history ++ more) c
gone_stays app history more c gone apart was =
    let ended = idle_ended app history c was in ended_idle app (history ++ more) c gone (λ k. ap goes_on (same_run c.number k app history more apart) ∙ ended k)
