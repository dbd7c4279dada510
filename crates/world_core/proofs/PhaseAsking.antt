-- The phases of a client that asks for nothing: only what there is to show goes to it.
use Rattle.std.specs.Prelude.{◌≡◌, ℕ, ◌==◌, List, [], ◌∷◌, ◌++◌, length, map, replicate, Bool, true, false, not, ◌&&◌, Option, None, Some, is_some, is_none, Result, Ok, Err, if◌then◌else◌, refl}
use Rattle.std.specs.List.{list_any}
use Rattle.std.proofs.Common.{ap, ap₂, sym, ◌∙◌}
use Rattle.std.proofs.lemmas.Bool.{and_parts, eqb-true}
use Rattle.ddp_messages.specs.ClientMessage.{ClientMessage}
use Rattle.app_model.specs.App.{App}
use Rattle.connection.specs.session_model.Methods.{Blocking}
use Rattle.connection.specs.session_model.State.{State}
use Rattle.rounds_model.specs.Rounds.{made, through, none_of, none_in}
use Rattle.connection.specs.world_model.declared.events.Act.{Act}
use Rattle.connection.specs.world_model.declared.events.Act.TheVariants as act
use Rattle.connection.specs.world_model.declared.events.Answer.TheVariants as answer
use Rattle.connection.specs.world_model.Store.{held_in}
use Rattle.connection.specs.world_model.Conn.{state_in}
use Rattle.connection.specs.world_model.Acts.{unbegun, without_run, is_done}
use Rattle.connection.specs.world_model.Settle.{Phase, ups, recvs, handles, begins, steps, learns, loadings, advancings, sendings, takings, order}
use Rattle.world_rounds_laws.specs.Visits.{Side, can_on, act_on, phase_on}
use Rattle.world_rounds_laws.specs.VisitsLaws.{act_none}
use Rattle.connection.specs.session_state.Work.{running_from}
use Rattle.connection.specs.connection_laws.Connection.{as_conn, waiting_of}
use Rattle.connection.specs.Asks.{says_nothing, asks_nothing}
use Rattle.world_rounds_laws.specs.ListingLaws.{no_steps_listed}
use Rattle.world_core.specs.Visit.{AVisit, side, IsReady, ArePassed, Passes}
use Rattle.world_core.proofs.PhaseVisits.{same_itself, led_none}
use Rattle.world_core.proofs.Passing.{own_is, calls_cover, learns_are, passed_on}

no_items : {A : Type 0} (xs : List A) → length xs ≡ 0 → xs ≡ []
no_items [] e = refl
no_items (x ∷ xs) e = cc e

no_call : (o : Option Blocking) → is_none o ≡ true → o ≡ None
no_call None e = refl
no_call (Some b) e = cc e

right_false : (b : Bool) → (b && false) ≡ false
right_false true = refl
right_false false = refl

module _ (v : AVisit) (r : IsReady v) (none : asks_nothing v.client ≡ true) where
  abbrev app : App
  app = v.machine.app

  abbrev s : Side
  s = side v

  parts : (says_nothing v.client ≡ true) × ((is_none v.client.session.carried.own.blocking && (length (running_from 0 v.client.session.carried.own.methods) == 0)) ≡ true)
  parts = and_parts (says_nothing v.client) (is_none v.client.session.carried.own.blocking && (length (running_from 0 v.client.session.carried.own.methods) == 0)) none

  texts : ((length v.client.own.client.waiting == 0) ≡ true) × (((length v.client.upward == 0) && (length v.client.session.carried.waiting == 0)) ≡ true)
  texts = and_parts (length v.client.own.client.waiting == 0) ((length v.client.upward == 0) && (length v.client.session.carried.waiting == 0)) parts.0

  taken : ((length v.client.upward == 0) ≡ true) × ((length v.client.session.carried.waiting == 0) ≡ true)
  taken = and_parts (length v.client.upward == 0) (length v.client.session.carried.waiting == 0) texts.1

  calls : (is_none v.client.session.carried.own.blocking ≡ true) × ((length (running_from 0 v.client.session.carried.own.methods) == 0) ≡ true)
  calls = and_parts (is_none v.client.session.carried.own.blocking) (length (running_from 0 v.client.session.carried.own.methods) == 0) parts.1

  no_ups : phase_on app ups s ≡ []
  no_ups = ap (λ (n : ℕ). replicate n act.Up) (eqb-true (length v.client.own.client.waiting) 0 texts.0)

  no_recvs : phase_on app recvs s ≡ []
  no_recvs = ap (λ (n : ℕ). replicate n act.Recv) (eqb-true (length v.client.upward) 0 taken.0)

  no_handles : phase_on app handles s ≡ []
  no_handles =
      let waiting = no_items v.client.session.carried.waiting (eqb-true (length v.client.session.carried.waiting) 0 taken.1) in
      ap (λ (ms : List ClientMessage). replicate (length (waiting_of ms v.client.session.bytes)) act.Handle) waiting

  no_begin : can_on app s act.Begin ≡ false
  no_begin =
      let blocking : (state_in (as_conn v.client)).blocking ≡ None = ap (λ (st : State). st.blocking) (own_is v r) ∙ no_call v.client.session.carried.own.blocking calls.0 in
      let off : (not s.conn.is_dropped && is_some (unbegun app s.history s.conn)) ≡ false =
      ap (λ (o : Option Blocking). not s.conn.is_dropped && is_some (without_run (held_in app s.history) s.conn o)) blocking ∙ right_false (not s.conn.is_dropped) in
      ap (λ b. is_done (if not b then answer.Idle else answer.Done)) off

  none_run : [] ≡ running_from 0 v.client.session.carried.own.methods
  none_run = sym (no_items (running_from 0 v.client.session.carried.own.methods) (eqb-true (length (running_from 0 v.client.session.carried.own.methods)) 0 calls.1))

  no_steps : phase_on app steps s ≡ []
  no_steps = no_steps_listed app [] s (calls_cover v r [] none_run) (λ k some. cc some)

  no_learns : phase_on app learns s ≡ []
  no_learns = sym (learns_are v r [] (length v.machine.history) refl none_run)

  -- a phase with no acts
  none_by : (p : Phase) (ps : List Phase) → phase_on app p s ≡ [] → none_in (can_on app) (map (phase_on app) ps) s ≡ true → none_in (can_on app) (map (phase_on app) (p ∷ ps)) s ≡ true
  none_by p ps e t = ap₂ (λ (acts : List Act) (b : Bool). none_of (can_on app) acts s && b) e t

  passed_by : (p : Phase) (ps : List Phase) → phase_on app p s ≡ [] → through (act_on app) (map (phase_on app) ps) s ≡ s → through (act_on app) (map (phase_on app) (p ∷ ps)) s ≡ s
  passed_by p ps e t = ap (λ (acts : List Act). through (act_on app) (map (phase_on app) ps) (made (act_on app) acts s)) e ∙ t

  abbrev late : List Phase
  late = steps ∷ learns ∷ []

  abbrev asks : List Phase
  asks = ups ∷ recvs ∷ handles ∷ begins ∷ late

  none_late : none_in (can_on app) (map (phase_on app) late) s ≡ true
  none_late = none_by steps (learns ∷ []) no_steps (none_by learns [] no_learns refl)

  none_begun : none_in (can_on app) (map (phase_on app) (begins ∷ late)) s ≡ true
  none_begun = ap₂ (λ (b c : Bool). (not b && true) && c) no_begin none_late

  none_asked : none_in (can_on app) (map (phase_on app) asks) s ≡ true
  none_asked = none_by ups (recvs ∷ handles ∷ begins ∷ late) no_ups (none_by recvs (handles ∷ begins ∷ late) no_recvs (none_by handles (begins ∷ late) no_handles none_begun))

  passed_late : through (act_on app) (map (phase_on app) late) s ≡ s
  passed_late = passed_by steps (learns ∷ []) no_steps (passed_by learns [] no_learns refl)

  passed_begun : through (act_on app) (map (phase_on app) (begins ∷ late)) s ≡ s
  passed_begun = ap (through (act_on app) (map (phase_on app) late)) (act_none app act.Begin s no_begin) ∙ passed_late

  passed_asked : through (act_on app) (map (phase_on app) asks) s ≡ s
  passed_asked = passed_by ups (recvs ∷ handles ∷ begins ∷ late) no_ups (passed_by recvs (handles ∷ begins ∷ late) no_recvs (passed_by handles (begins ∷ late) no_handles passed_begun))

  pub nothing_asked : ArePassed asks v v false
  nothing_asked = record { led = led_none v r; leads = passed_asked; none = λ e. (same_itself v, none_asked) }

  -- what is shown is all of its round
  pub told : {E : Type 0} (w : AVisit) (result : Result Bool E) → Passes (loadings ∷ advancings ∷ sendings ∷ takings ∷ []) v w result → Passes order v w result
  told w (Ok flag) p = passed_on asks (loadings ∷ advancings ∷ sendings ∷ takings ∷ []) v v w false flag nothing_asked p
  told w (Err e) p = p
