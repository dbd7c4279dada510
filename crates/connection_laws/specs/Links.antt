-- The acts that move texts between a client and its session.
use Rattle.std.specs.Prelude.{◌≡◌, ◌⊎◌, ℕ, List, [], ◌∷◌, ◌++◌, length, Bool, true, false, not, ◌&&◌, nat_lt, nat_le, Option, None, Some, is_none}
use Rattle.std.specs.Prelude.{is_some, Result, Ok, Err, refl}
use Rattle.std.proofs.Common.{ap, ap₂, sym, subst, ◌∙◌, inl, inr}
use Rattle.std.proofs.lemmas.Bool.{and_parts}
use Rattle.app_model.specs.App.{App}
use Rattle.world_invariant_laws.specs.history_model.declared.entry.Entry.{Entry}
use Rattle.client_model.specs.Client.{Client}
use Rattle.client_model.specs.Taking.{told_text, breaks}
use Rattle.client_model.specs.Asking.{can_take}
use Rattle.client_model.specs.TakingLaws.{text_breaks}
use Rattle.world_invariant_laws.specs.session_model.Subscriptions.{may_load, cursor_of}
use Rattle.client_core.specs.declared.fault.TakeFault.{TakeFault}
use Rattle.client_core.specs.declared.fault.TakeFault.TheVariants as take_fault
use Rattle.client_core.specs.State.{Own}
use Rattle.client_core.specs.Asked.{IsSent}
use Rattle.client_core.specs.Taken.{Takes}
use Rattle.session_laws.specs.Session.{ASession}
use Rattle.session_laws.specs.Meaning.{Means}
use Rattle.session_laws.specs.Events.{Sends}
use Rattle.world_invariant_laws.specs.world_model.declared.events.Act.{Act}
use Rattle.world_invariant_laws.specs.world_model.declared.events.Act.TheVariants as act
use Rattle.world_invariant_laws.specs.world_model.declared.events.Answer.TheVariants as answer
use Rattle.world_invariant_laws.specs.world_model.Store.{moments}
use Rattle.world_invariant_laws.specs.world_model.Conn.{state_in, link_limit, outbox_limit, is_at_work, has_some}
use Rattle.world_invariant_laws.specs.world_model.Acts.{unbegun, learnt, may_advance, goes_up, sends, takes, enabled, outcome}
use Rattle.connection_laws.specs.Connection.{AConnection, as_conn, IsConnection}
use Rattle.connection_laws.specs.Acting.{gone_up, sent_on, taken_off, IsDone}
use Rattle.connection_laws.specs.StandingLaws.{idle_of, done_of}

right_false : (b : Bool) → (b && false) ≡ false
right_false true = refl
right_false false = refl

both_false : (a b : Bool) → (a && false && b) ≡ false
both_false a b = ap (λ x. x && b) (right_false a)

none_is : {A : Type 0} (o : Option A) → is_none o ≡ true → o ≡ None
none_is None e = refl
none_is (Some x) e = cc e

-- ---- a client does something alone

-- what its session has is as before
pub own_stays : (app : App) (name : List ℕ) (history : List Entry) (old : AConnection) → IsConnection app name history old →
    (own : Own) (made_raw : Bool) (upward downward : List (List ℕ)) → own.app ≡ old.own.app → own.name ≡ old.own.name →
    IsConnection app name history (record old { own = own; made_raw = made_raw; upward = upward; downward = downward })
own_stays app name history old p own made_raw upward downward stubs named = record {
  stubs = stubs ∙ p.stubs;
  named = named ∙ p.named;
  served = p.served;
  means = p.means;
  bytes = p.bytes;
  dropped = p.dropped;
  kinds = p.kinds;
}

-- ---- up

module _ (app : App) (name : List ℕ) (history : List Entry) (old : AConnection) (p : IsConnection app name history old) (own : Own) where
  -- with room on the link, the first text that waits goes there
  pub up_made : (t : List ℕ) → old.is_dropped ≡ false → nat_lt (length old.upward) link_limit ≡ true → IsSent old.own own (Some t) →
      IsDone app name history act.Up old (gone_up own t old)
  up_made t there room s = record {
    can = done_of app history (as_conn old) act.Up
        (ap₂ (λ a b. a && b) (ap₂ (λ (d : Bool) (ts : List (List ℕ)). not d && has_some ts) there s.0) room) refl refl;
    does =
        ap (λ (o : Own). as_conn (gone_up o t old)) s.1
        ∙ ap (goes_up (as_conn old)) (sym s.0);
    stays = own_stays app name history old p own old.made_raw (old.upward ++ t ∷ []) old.downward (ap (λ (o : Own). o.app) s.1) (ap (λ (o : Own). o.name) s.1);
  }

pub up_none : (app : App) (history : List Entry) (old : AConnection) (own : Own) → IsSent old.own own None →
    outcome app history (as_conn old) act.Up ≡ answer.Idle
up_none app history old own s =
    idle_of app history (as_conn old) act.Up
    (ap (λ (ts : List (List ℕ)). not old.is_dropped && has_some ts && nat_lt (length old.upward) link_limit) s.0
    ∙ both_false (not old.is_dropped) (nat_lt (length old.upward) link_limit))

pub up_full : (app : App) (history : List Entry) (old : AConnection) → nat_lt (length old.upward) link_limit ≡ false →
    outcome app history (as_conn old) act.Up ≡ answer.Idle
up_full app history old full = idle_of app history (as_conn old) act.Up
    (ap (λ b. not old.is_dropped && has_some old.own.client.waiting && b) full ∙ right_false (not old.is_dropped && has_some old.own.client.waiting))

-- ---- send

module _ (app : App) (name : List ℕ) (history : List Entry) (old : AConnection) (p : IsConnection app name history old) (s : ASession) where
  -- with room on the link, the first text of the outbox goes there
  pub send_made : (t : List ℕ) → nat_lt (length old.downward) link_limit ≡ true → Sends old.session s (Some t) →
      IsDone app name history act.Send old (sent_on t s old)
  send_made t room q =
      let C = moments app old.session.carried.number history in
      let there : old.is_dropped ≡ false = sym p.dropped ∙ q.1 in
      let m : Means old.received C (old.sent ++ t ∷ []) s = q.0.keeps old.received C old.sent p.means in
      record {
        can = done_of app history (as_conn old) act.Send
            (ap₂ (λ a b. a && b) (ap₂ (λ (d : Bool) (ts : List (List ℕ)). not d && has_some ts) there q.0.first) room) refl refl;
        does =
            ap (λ (x : ASession). as_conn (sent_on t x old)) q.0.rest
            ∙ ap (sends (as_conn old)) (sym q.0.first);
        stays = subst (λ (x : ASession). IsConnection app name history (sent_on t x old)) (sym q.0.rest) (record {
          stubs = p.stubs;
          named = p.named;
          served = p.served;
          means = subst (λ (x : ASession). Means old.received C (old.sent ++ t ∷ []) x) q.0.rest m;
          bytes = p.bytes;
          dropped = p.dropped;
          kinds = p.kinds;
        });
      }

  none_sent : (old.session.carried.outbox ≡ []) ⊎ (old.session.dropped ≡ true) → (not old.is_dropped && has_some old.session.carried.outbox) ≡ false
  none_sent (inl none) = ap (λ (ts : List (List ℕ)). not old.is_dropped && has_some ts) none ∙ right_false (not old.is_dropped)
  none_sent (inr gone) = ap (λ d. not d && has_some old.session.carried.outbox) (sym p.dropped ∙ gone)

  pub send_none : Sends old.session s None → outcome app history (as_conn old) act.Send ≡ answer.Idle
  send_none q = idle_of app history (as_conn old) act.Send (ap (λ b. b && nat_lt (length old.downward) link_limit) (none_sent q.why))

pub send_full : (app : App) (history : List Entry) (old : AConnection) → nat_lt (length old.downward) link_limit ≡ false →
    outcome app history (as_conn old) act.Send ≡ answer.Idle
send_full app history old full = idle_of app history (as_conn old) act.Send
    (ap (λ b. not old.is_dropped && has_some old.session.carried.outbox && b) full ∙ right_false (not old.is_dropped && has_some old.session.carried.outbox))

-- ---- take

-- A text is taken off the link, also one that the client refuses.
abbrev pub MakesTaking : {X : Type 0} → App → List ℕ → List Entry → AConnection → AConnection → Result X TakeFault → Type 0
MakesTaking app name history old new (Ok x) = IsDone app name history act.Take old new × (new.own.client.broken ≡ None)
MakesTaking app name history old new (Err (take_fault.ServerSent n)) = IsDone app name history act.Take old new × (new.own.client.broken ≡ Some n)
MakesTaking app name history old new (Err take_fault.Idle) = outcome app history (as_conn old) act.Take ≡ answer.Idle
MakesTaking app name history old new (Err take_fault.Memory) = Unit {0}

is_whole : (c : Client) → can_take c ≡ true → c.broken ≡ None
is_whole c e = none_is c.broken (and_parts (not c.is_failed) (is_none c.broken) e).1

module _ (app : App) (name : List ℕ) (history : List Entry) (old : AConnection) (p : IsConnection app name history old) (own : Own) (t : List ℕ)
    (ts : List (List ℕ)) (there : old.is_dropped ≡ false) (lies : old.downward ≡ t ∷ ts) where
  take_enabled : enabled app history (as_conn old) act.Take ≡ can_take old.own.client
  take_enabled = ap₂ (λ (d : Bool) (down : List (List ℕ)). not d && has_some down && can_take old.own.client) there lies

  -- the client is this one then
  taken_made : (c : Client) → can_take old.own.client ≡ true → told_text old.own.client t ≡ c → own ≡ record old.own { client = c } →
      IsDone app name history act.Take old (taken_off own ts old)
  taken_made c can told is = record {
    can = done_of app history (as_conn old) act.Take (take_enabled ∙ can) refl refl;
    does =
        ap (λ (o : Own). as_conn (taken_off o ts old)) is
        ∙ (ap (λ (x : Client). record (as_conn old) { downward = ts; client = x }) (sym told)
        ∙ ap (takes (as_conn old)) (sym lies));
    stays = own_stays app name history old p own old.made_raw old.upward ts (ap (λ (o : Own). o.app) is) (ap (λ (o : Own). o.name) is);
  }

  pub take_makes : {X : Type 0} (result : Result X TakeFault) → Takes t old.own own result → MakesTaking app name history old (taken_off own ts old) result
  take_makes (Ok x) r = (taken_made (told_text old.own.client t) r.0 refl r.2, ap (λ (o : Own). o.client.broken) r.2 ∙ r.1)
  take_makes (Err (take_fault.ServerSent n)) r =
      (taken_made (breaks n old.own.client) r.0 (text_breaks old.own.client t n r.1 (is_whole old.own.client r.0)) r.2, ap (λ (o : Own). o.client.broken) r.2)
  take_makes (Err take_fault.Idle) r = idle_of app history (as_conn old) act.Take (take_enabled ∙ r.0)
  take_makes (Err take_fault.Memory) r = tt

pub take_none : (app : App) (history : List Entry) (old : AConnection) → old.downward ≡ [] → outcome app history (as_conn old) act.Take ≡ answer.Idle
take_none app history old none = idle_of app history (as_conn old) act.Take
    (ap (λ (down : List (List ℕ)). not old.is_dropped && has_some down && can_take old.own.client) none
    ∙ both_false (not old.is_dropped) (can_take old.own.client))

-- ---- a client that is gone

-- the step of a run goes on without its client
abbrev pub is_step : Act → Bool
is_step (act.Step k) = true
is_step a = false

no_work : (old : AConnection) → old.is_dropped ≡ true → is_at_work (as_conn old) ≡ false
no_work old gone = ap (λ d. not d && not (state_in (as_conn old)).failed && nat_lt (length old.session.carried.outbox) outbox_limit) gone

-- it moves no text, and its session makes no item
pub gone_idle : (app : App) (history : List Entry) (old : AConnection) (a : Act) → old.is_dropped ≡ true → is_step a ≡ false →
    outcome app history (as_conn old) a ≡ answer.Idle
gone_idle app history old act.Up gone e =
    idle_of app history (as_conn old) act.Up (ap (λ d. not d && has_some old.own.client.waiting && nat_lt (length old.upward) link_limit) gone)
gone_idle app history old act.Recv gone e = idle_of app history (as_conn old) act.Recv (ap (λ b. b && has_some old.upward) (no_work old gone))
gone_idle app history old act.Handle gone e = idle_of app history (as_conn old) act.Handle
    (ap (λ b. b && has_some (as_conn old).queue && is_none (state_in (as_conn old)).blocking) (no_work old gone))
gone_idle app history old act.Begin gone e = idle_of app history (as_conn old) act.Begin (ap (λ d. not d && is_some (unbegun app history (as_conn old))) gone)
gone_idle app history old (act.Step k) gone e = cc e
gone_idle app history old (act.Learn k place) gone e =
    idle_of app history (as_conn old) (act.Learn k place) (ap (λ b. b && is_some (learnt app history (as_conn old) k place)) (no_work old gone))
gone_idle app history old (act.Load sub place) gone e =
    idle_of app history (as_conn old) (act.Load sub place)
    (ap (λ b. b && nat_le place (length history) && may_load sub place (state_in (as_conn old)).subs) (no_work old gone))
gone_idle app history old (act.Advance sub count) gone e =
    idle_of app history (as_conn old) (act.Advance sub count)
    (ap (λ b. b && may_advance (length history) count (cursor_of sub (state_in (as_conn old)).subs)) (no_work old gone))
gone_idle app history old act.Send gone e = idle_of app history (as_conn old) act.Send
    (ap (λ d. not d && has_some old.session.carried.outbox && nat_lt (length old.downward) link_limit) gone)
gone_idle app history old act.Take gone e =
    idle_of app history (as_conn old) act.Take (ap (λ d. not d && has_some old.downward && can_take old.own.client) gone)
