-- Laws: A phase of an act that names nothing but its client: the act is made until it can't be made any more.
use Rattle.std.specs.Prelude.{◌≡◌, ℕ, ◌<◌, nat_lt, List, [], ◌∷◌, ◌++◌, length, replicate, Bool, true, false, cond, not, ◌&&◌, is_none, refl}
use Rattle.std.proofs.Common.{sym, subst, arith}
use Rattle.std.proofs.lemmas.Bool.{and_parts}
use Rattle.app_model.specs.App.{App}
use Rattle.world_model.specs.history_model.declared.entry.Entry.{Entry}
use Rattle.client_model.specs.Asking.{can_take}
use Rattle.world_model.specs.session_model.Taking.{Taken, at_once, to_queue, taken_text}
use Rattle.rounds_model.specs.Rounds.{made}
use Rattle.world_model.specs.declared.events.Act.{Act}
use Rattle.world_model.specs.declared.events.Act.TheVariants as act
use Rattle.world_model.specs.Conn.{Waiting, Conn, state_in, link_limit, is_at_work, has_some}
use Rattle.world_model.specs.Acts.{goes_up, received_as, receives, handles, sends, takes, enabled, can, does, entries}
use Rattle.world_model.specs.Settle.{ups, recvs, handles as handlings, sendings, takings}
use Rattle.world_rounds_laws.specs.RepeatsLaws.{not_yet, again, repeated}
use Rattle.world_rounds_laws.specs.Visits.{Side, can_on, act_on, phase_on}
use Rattle.world_rounds_laws.specs.VisitsLaws.{act_none}
use Rattle.world_rounds_laws.specs.Loops.{IsLoop, done_if, downward_in, outbox_in, queue_in, upward_in, waiting_in}

-- ---- an act that is made is enabled, and leaves less

can_enabled : (app : App) (h : List Entry) (c : Conn) (a : Act) → can app h c a ≡ true → enabled app h c a ≡ true
can_enabled app h c a e = elim (enabled app h c a) as (λ b. done_if c a b ≡ true → b ≡ true) [ true ↦ λ f. refl | false ↦ λ f. cc f ] e

up_less : (c : Conn) (ts : List (List ℕ)) → has_some ts ≡ true → length (goes_up c ts).client.waiting < length ts
up_less c [] e = absurd (cc e)
up_less c (t ∷ ts) e = omega arith

as_less : (app : App) (h : List Entry) (c : Conn) (n : ℕ) (x : Taken) → length (received_as app h c n x).upward ≡ length c.upward
as_less app h c n (at_once i) = refl
as_less app h c n (to_queue m) = refl

recv_less : (app : App) (h : List Entry) (c : Conn) (ts : List (List ℕ)) → has_some ts ≡ true → length (receives app h c ts).upward < length ts
recv_less app h c [] e = absurd (cc e)
recv_less app h c (t ∷ ts) e =
    let rest = as_less app h (record c { upward = ts; received = c.received ++ t ∷ [] }) (length t) (taken_text (state_in c).connected t) in
    omega (arith, rest)

handle_less : (app : App) (h : List Entry) (c : Conn) (ws : List Waiting) → has_some ws ≡ true → length (handles app h c ws).queue < length ws
handle_less app h c [] e = absurd (cc e)
handle_less app h c (w ∷ ws) e = omega arith

send_less : (c : Conn) (ts : List (List ℕ)) → has_some ts ≡ true → length (sends c ts).outbox < length ts
send_less c [] e = absurd (cc e)
send_less c (t ∷ ts) e = omega arith

take_less : (c : Conn) (ts : List (List ℕ)) → has_some ts ≡ true → length (takes c ts).downward < length ts
take_less c [] e = absurd (cc e)
take_less c (t ∷ ts) e = omega arith

-- what is counted, of what an act leaves
module _ (app : App) (x : Side) (a : Act) (may : can_on app x a ≡ true) where
  on : enabled app x.history x.conn a ≡ true
  on = can_enabled app x.history x.conn a may

  left_is : (f : Conn → ℕ) → f (does app x.history x.conn a) < f x.conn → f (act_on app a x).conn < f x.conn
  left_is f less = subst
      (λ (b : Bool). f (cond b (record { history = x.history ++ entries app x.history x.conn a; conn = does app x.history x.conn a }) x).conn
      < f x.conn) (sym may) less

-- ---- the acts

module _ (app : App) (x : Side) where
  pub ups_lower : can_on app x act.Up ≡ true → waiting_in (act_on app act.Up x) < waiting_in x
  ups_lower may =
      let parts = and_parts (not x.conn.is_dropped && has_some x.conn.client.waiting) (nat_lt (length x.conn.upward) link_limit) (on app x act.Up may) in
      left_is app x act.Up may (λ (c : Conn). length c.client.waiting)
      (up_less x.conn x.conn.client.waiting (and_parts (not x.conn.is_dropped) (has_some x.conn.client.waiting) parts.0).1)

  pub recvs_lower : can_on app x act.Recv ≡ true → upward_in (act_on app act.Recv x) < upward_in x
  recvs_lower may =
      left_is app x act.Recv may (λ (c : Conn). length c.upward)
      (recv_less app x.history x.conn x.conn.upward (and_parts (is_at_work x.conn) (has_some x.conn.upward) (on app x act.Recv may)).1)

  pub handles_lower : can_on app x act.Handle ≡ true → queue_in (act_on app act.Handle x) < queue_in x
  handles_lower may =
      let parts = and_parts (is_at_work x.conn && has_some x.conn.queue) (is_none (state_in x.conn).blocking) (on app x act.Handle may) in
      left_is app x act.Handle may (λ (c : Conn). length c.queue)
      (handle_less app x.history x.conn x.conn.queue (and_parts (is_at_work x.conn) (has_some x.conn.queue) parts.0).1)

  pub sends_lower : can_on app x act.Send ≡ true → outbox_in (act_on app act.Send x) < outbox_in x
  sends_lower may =
      let parts = and_parts (not x.conn.is_dropped && has_some x.conn.outbox) (nat_lt (length x.conn.downward) link_limit) (on app x act.Send may) in
      left_is app x act.Send may (λ (c : Conn). length c.outbox)
      (send_less x.conn x.conn.outbox (and_parts (not x.conn.is_dropped) (has_some x.conn.outbox) parts.0).1)

  pub takes_lower : can_on app x act.Take ≡ true → downward_in (act_on app act.Take x) < downward_in x
  takes_lower may =
      let parts = and_parts (not x.conn.is_dropped && has_some x.conn.downward) (can_take x.conn.client) (on app x act.Take may) in
      left_is app x act.Take may (λ (c : Conn). length c.downward)
      (take_less x.conn x.conn.downward (and_parts (not x.conn.is_dropped) (has_some x.conn.downward) parts.0).1)

-- ---- the phases

pub loop_begins : (app : App) (count : Side → ℕ) (a : Act) (x : Side) → IsLoop app count a x x
loop_begins app count a x = not_yet (can_on app) (act_on app) (act_none app) count a x

pub loop_goes_on : (app : App) (count : Side → ℕ) (a : Act) (first now : Side) → IsLoop app count a first now → count (act_on app a now) < count now →
    IsLoop app count a first (act_on app a now)
loop_goes_on app count a first now r less = again (can_on app) (act_on app) (act_none app) count a first now r less

-- once it can't be made any more, the phase is over
pub loop_ends : (app : App) (count : Side → ℕ) (a : Act) (first now : Side) → IsLoop app count a first now → can_on app now a ≡ false →
    made (act_on app) (replicate (count first) a) first ≡ now
loop_ends app count a first now r off = repeated (can_on app) (act_on app) (act_none app) count a first now r off

module _ (app : App) (first now : Side) where
  pub ups_are : IsLoop app waiting_in act.Up first now → can_on app now act.Up ≡ false → made (act_on app) (phase_on app ups first) first ≡ now
  ups_are r off = loop_ends app waiting_in act.Up first now r off

  pub recvs_are : IsLoop app upward_in act.Recv first now → can_on app now act.Recv ≡ false → made (act_on app) (phase_on app recvs first) first ≡ now
  recvs_are r off = loop_ends app upward_in act.Recv first now r off

  pub handles_are : IsLoop app queue_in act.Handle first now → can_on app now act.Handle ≡ false → made (act_on app) (phase_on app handlings first) first ≡ now
  handles_are r off = loop_ends app queue_in act.Handle first now r off

  pub sends_are : IsLoop app outbox_in act.Send first now → can_on app now act.Send ≡ false → made (act_on app) (phase_on app sendings first) first ≡ now
  sends_are r off = loop_ends app outbox_in act.Send first now r off

  pub takes_are : IsLoop app downward_in act.Take first now → can_on app now act.Take ≡ false → made (act_on app) (phase_on app takings first) first ≡ now
  takes_are r off = loop_ends app downward_in act.Take first now r off
