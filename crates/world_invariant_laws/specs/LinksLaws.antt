-- Laws: What is so of each client with its session in every world that events lead to, and of the history.
use Rattle.std.specs.Prelude.{◌≡◌, ℕ, suc, nat_le, List, [], ◌∷◌, ◌++◌, length, true, false, cond, not, ◌&&◌, Option, Some, None, is_none, if◌then◌else◌, refl}
use Rattle.std.proofs.Common.{ap, sym, subst, ◌∙◌, arith, append-nil}
use Rattle.std.proofs.lemmas.Bool.{and_parts, ne_eqb}
use Rattle.ejson_value.specs.View.{view}
use Rattle.app_model.specs.App.{App}
use Rattle.world_model.specs.history_model.declared.entry.Entry.{Entry}
use Rattle.world_model.specs.history_model.declared.entry.Entry.TheVariants as entry
use Rattle.client_model.specs.Asking.{can_take}
use Rattle.world_model.specs.session_model.Items.{Item}
use Rattle.world_model.specs.session_model.Taking.{Taken, at_once, to_queue, taken_text}
use Rattle.world_model.specs.session_model.Subscriptions.{may_load, cursor_of}
use Rattle.session_journal_laws.specs.Takes.{answers_first}
use Rattle.world_model.specs.declared.events.Act.{Act}
use Rattle.world_model.specs.declared.events.Act.TheVariants as act
use Rattle.world_model.specs.declared.events.Event.{Event}
use Rattle.world_model.specs.Conn.{Waiting, Conn, new_conn, state_in, is_at_work, has_some}
use Rattle.world_model.specs.Acts.{received_as, receives, handles, is_kept, learnt, learns_item, may_advance, enabled, can, does, entries}
use Rattle.world_model.specs.Asks.{Ask, asked}
use Rattle.world_model.specs.Asks as ask
use Rattle.world_model.specs.World.{start}
use Rattle.world_model.specs.Events.{run, AreEvents}
use Rattle.world_model.specs.Headline.{begun_in}
use Rattle.world_invariant_laws.specs.Lift.{AreUpTo, IsKept, Holds, every_world}
use Rattle.world_invariant_laws.specs.Session.{IsServed}
use Rattle.world_invariant_laws.specs.SessionLaws.{longer_served, step_served}
use Rattle.world_invariant_laws.specs.Served.{recv_served, handle_served, load_served, advance_served, learn_served, begin_served, up_served}
use Rattle.world_invariant_laws.specs.Served.{send_served, take_served}
use Rattle.world_invariant_laws.specs.Heard.{HasHeard}
use Rattle.world_invariant_laws.specs.HeardLaws.{new_has, up_heard, send_heard, take_heard, asked_heard}
use Rattle.world_invariant_laws.specs.LegalLaws.{entries_legal, operation_legal}
use Rattle.world_invariant_laws.specs.Links.{IsLegalOf, IsLinked, done_if}

-- ---- an act that is made is enabled

pub can_enabled : (app : App) (h : List Entry) (c : Conn) (a : Act) → can app h c a ≡ true → enabled app h c a ≡ true
can_enabled app h c a e = elim (enabled app h c a) as (λ b. done_if c a b ≡ true → b ≡ true) [ true ↦ λ f. refl | false ↦ λ f. cc f ] e

-- ---- the client of an act of its session

recv_heard : (app : App) (h : List Entry) (c : Conn) (ts : List (List ℕ)) → HasHeard c → HasHeard (receives app h c ts)
recv_heard app h c [] p = p
recv_heard app h c (t ∷ ts) p = by (taken_text (state_in c).connected t)
  where
    by : (x : Taken) → HasHeard (received_as app h (record c { upward = ts; received = c.received ++ t ∷ [] }) (length t) x)
    by (at_once i) = p
    by (to_queue m) = p

handle_heard : (app : App) (h : List Entry) (c : Conn) (ws : List Waiting) → HasHeard c → HasHeard (handles app h c ws)
handle_heard app h c [] p = p
handle_heard app h c (w ∷ ws) p = p

item_heard : (app : App) (h : List Entry) (c : Conn) (o : Option Item) → HasHeard c → HasHeard (learns_item app h c o)
item_heard app h c None p = p
item_heard app h c (Some i) p = p

-- ---- a client that begins

none_begun_yet : (n : ℕ) (h : List Entry) → AreUpTo n h → begun_in (suc n) h ≡ []
none_begun_yet n [] p = refl
none_begun_yet n (entry.Begin m k method params seed ∷ h) p =
    ap (λ b. cond b (record { k = k; method = method; params = params; seed = view seed } ∷ []) [] ++ begun_in (suc n) h)
    (ne_eqb (suc n) m (λ e. omega (arith, e, p.0))) ∙ none_begun_yet n h p.1
none_begun_yet n (entry.Step m k ∷ h) p = none_begun_yet n h p.1
none_begun_yet n (entry.Admin op ∷ h) p = none_begun_yet n h p.1

new_linked : (app : App) (n : ℕ) (h : List Entry) → AreUpTo n h → IsLinked app h (new_conn (suc n))
new_linked app n h p = record {
  served = record {
    session = record { fits = tt; answers = answers_first; texts = refl };
    begun = record { knows = record { below = tt; fresh = λ k le. refl; last = λ b e. cc e }; begun = append-nil (begun_in (suc n) h) ∙ none_begun_yet n h p };
    refusal = tt;
  };
  heard = new_has;
}

-- ---- each act

same_end : (app : App) (h : List Entry) (c : Conn) → IsLinked app h c → IsLinked app (h ++ []) c
same_end app h c p = subst (λ (x : List Entry). IsLinked app x c) (sym (append-nil h)) p

act_linked : (app : App) (h : List Entry) (c : Conn) (a : Act) → enabled app h c a ≡ true → IsLinked app h c →
    IsLinked app (h ++ entries app h c a) (does app h c a)
act_linked app h c act.Up e p = same_end app h (does app h c act.Up)
    (record { served = up_served app h c c.client.waiting p.served; heard = up_heard c c.client.waiting p.heard })
act_linked app h c act.Recv e p =
    same_end app h (does app h c act.Recv)
    (record {
      served = recv_served app h c c.upward refl (and_parts (is_at_work c) (has_some c.upward) e).0 p.served;
      heard = recv_heard app h c c.upward p.heard;
    })
act_linked app h c act.Handle e p =
    same_end app h (does app h c act.Handle) (record {
      served = handle_served app h c c.queue refl (and_parts (is_at_work c && has_some c.queue) (is_none (state_in c).blocking) e).1 p.served;
      heard = handle_heard app h c c.queue p.heard;
    })
act_linked app h c act.Begin e p = record { served = begin_served app h c p.served; heard = p.heard }
act_linked app h c (act.Step k) e p = record { served = step_served app h c k p.served; heard = p.heard }
act_linked app h c (act.Learn k place) e p =
    same_end app h (does app h c (act.Learn k place)) (record {
      served = learn_served app h c k place p.served;
      heard = item_heard app h (record c { kept = if is_kept k c.kept then None else c.kept }) (learnt app h c k place) p.heard;
    })
act_linked app h c (act.Load s place) e p =
    let parts = and_parts (is_at_work c && nat_le place (length h)) (may_load s place (state_in c).subs) e in
    same_end app h (does app h c (act.Load s place))
    (record { served = load_served app h c s place (and_parts (is_at_work c) (nat_le place (length h)) parts.0).1 parts.1 p.served; heard = p.heard })
act_linked app h c (act.Advance s count) e p =
    let parts = and_parts (is_at_work c) (may_advance (length h) count (cursor_of s (state_in c).subs)) e in
    same_end app h (does app h c (act.Advance s count)) (record { served = advance_served app h c s count parts.1 p.served; heard = p.heard })
act_linked app h c act.Send e p =
    same_end app h (does app h c act.Send) (record { served = send_served app h c c.outbox refl p.served; heard = send_heard c c.outbox p.heard })
act_linked app h c act.Take e p =
    same_end app h (does app h c act.Take) (record {
      served = take_served app h c c.downward p.served;
      heard = take_heard c c.downward refl (and_parts (not c.is_dropped && has_some c.downward) (can_take c.client) e).1 p.heard;
    })

asked_served : (app : App) (h : List Entry) (c : Conn) (a : Ask) → IsServed app h c → IsServed app h (asked app c a)
asked_served app h c (ask.subscribe id name params) p = record { session = p.session; begun = p.begun; refusal = p.refusal }
asked_served app h c (ask.unsubscribe id) p = record { session = p.session; begun = p.begun; refusal = p.refusal }
asked_served app h c (ask.call name params) p = record { session = p.session; begun = p.begun; refusal = p.refusal }
asked_served app h c (ask.raw t) p = record { session = p.session; begun = p.begun; refusal = p.refusal }
asked_served app h c ask.drop p = record { session = p.session; begun = p.begun; refusal = p.refusal }

-- ---- every world

pub links_kept : IsKept IsLegalOf IsLinked
links_kept = record {
  new = new_linked;
  entered = λ app h c a may l p. entries_legal app h c a (can_enabled app h c a may) l p.served;
  acts = λ app h c a may p. act_linked app h c a (can_enabled app h c a may) p;
  longer = λ app h c e apart p. record { served = longer_served app h c e apart p.served; heard = p.heard };
  asks = λ app h c a good may p. record { served = asked_served app h c a p.served; heard = asked_heard app c a p.heard };
  operations = λ w op good is l. operation_legal w op is l;
}

-- every world that events lead to has a legal history, and each of its clients is linked with its session
pub worlds_are_linked : (app : App) (events : List Event) → AreEvents events → Holds IsLegalOf IsLinked links_kept (run (start app) events)
worlds_are_linked app events good = every_world IsLegalOf IsLinked links_kept app events good tt
