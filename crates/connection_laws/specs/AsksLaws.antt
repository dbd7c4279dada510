-- Laws: What a client is asked for from outside.
use Rattle.std.specs.Prelude.{◌≡◌, ℕ, List, Bool, true, false, not, ◌&&◌, Result, Ok, Err, refl}
use Rattle.std.proofs.Common.{ap, sym, subst, ◌∙◌}
use Rattle.value_model.specs.Val.{Val}
use Rattle.app_model.specs.App.{App}
use Rattle.world_invariant_laws.specs.history_model.declared.entry.Entry.{Entry}
use Rattle.client_model.specs.Client.{Client}
use Rattle.client_model.specs.Asking.{can_sub, subscribed, can_unsub, unsubscribed, can_call, can_send, with_text}
use Rattle.client_core.specs.declared.fault.ClientFault.{ClientFault}
use Rattle.client_core.specs.declared.fault.ClientFault.TheVariants as fault
use Rattle.client_core.specs.State.{Own}
use Rattle.client_core.specs.Asked.{Does, Calls, called_by}
use Rattle.session_laws.specs.Session.{ASession}
use Rattle.session_laws.specs.Meaning.{Means}
use Rattle.session_laws.specs.Events.{Closes}
use Rattle.world_invariant_laws.specs.world_model.Store.{moments}
use Rattle.world_invariant_laws.specs.world_model.Asks.{Ask, can_ask, calls}
use Rattle.world_invariant_laws.specs.world_model.Asks as ask
use Rattle.connection_laws.specs.Connection.{AConnection, as_conn, IsConnection}
use Rattle.connection_laws.specs.Acting.{with_own, with_raw, gone}
use Rattle.connection_laws.specs.Links.{own_stays}
use Rattle.connection_laws.specs.Asks.{IsAsked, MakesAsked}

-- a client that is gone does nothing that it is asked for
pub gone_asked : (old : AConnection) (a : Ask) → old.is_dropped ≡ true → can_ask (as_conn old) a ≡ false
gone_asked old (ask.subscribe id name params) e = ap (λ d. not d && can_sub id old.own.client) e
gone_asked old (ask.unsubscribe id) e = ap (λ d. not d && can_unsub id old.own.client) e
gone_asked old (ask.call name params) e = ap (λ d. not d && can_call old.own.client) e
gone_asked old (ask.raw t) e = ap (λ d. not d && can_send old.own.client) e
gone_asked old ask.drop e = ap not e

module _ (app : App) (name : List ℕ) (history : List Entry) (old : AConnection) (p : IsConnection app name history old) (there : old.is_dropped ≡ false) where
  may : (b : Bool) → (not old.is_dropped && b) ≡ b
  may b = ap (λ d. not d && b) there

  module _ (own : Own) where
    pub subscribe_makes : {X : Type 0} (id publication : List ℕ) (params : List Val) (result : Result X ClientFault) →
        Does (can_sub id old.own.client) (subscribed id publication params) old.own own result →
        MakesAsked app name history (ask.subscribe id publication params) old (with_own own old) result
    subscribe_makes id publication params (Ok x) r = record {
      can = may (can_sub id old.own.client) ∙ r.0;
      does = ap (λ (o : Own). as_conn (with_own o old)) r.1;
      stays = own_stays app name history old p own old.made_raw old.upward old.downward (ap (λ (o : Own). o.app) r.1) (ap (λ (o : Own). o.name) r.1);
    }
    subscribe_makes id publication params (Err fault.Idle) r = may (can_sub id old.own.client) ∙ r.0
    subscribe_makes id publication params (Err fault.Memory) r = tt

    pub unsubscribe_makes : {X : Type 0} (id : List ℕ) (result : Result X ClientFault) →
        Does (can_unsub id old.own.client) (unsubscribed id) old.own own result → MakesAsked app name history (ask.unsubscribe id) old (with_own own old) result
    unsubscribe_makes id (Ok x) r = record {
      can = may (can_unsub id old.own.client) ∙ r.0;
      does = ap (λ (o : Own). as_conn (with_own o old)) r.1;
      stays = own_stays app name history old p own old.made_raw old.upward old.downward (ap (λ (o : Own). o.app) r.1) (ap (λ (o : Own). o.name) r.1);
    }
    unsubscribe_makes id (Err fault.Idle) r = may (can_unsub id old.own.client) ∙ r.0
    unsubscribe_makes id (Err fault.Memory) r = tt

    pub raw_makes : {X : Type 0} (t : List ℕ) (result : Result X ClientFault) → Does (can_send old.own.client) (with_text t) old.own own result →
        MakesAsked app name history (ask.raw t) old (with_raw own old) result
    raw_makes t (Ok x) r = record {
      can = may (can_send old.own.client) ∙ r.0;
      does = ap (λ (o : Own). as_conn (with_raw o old)) r.1;
      stays = own_stays app name history old p own true old.upward old.downward (ap (λ (o : Own). o.app) r.1) (ap (λ (o : Own). o.name) r.1);
    }
    raw_makes t (Err fault.Idle) r = may (can_send old.own.client) ∙ r.0
    raw_makes t (Err fault.Memory) r = tt

    -- what the call's stub makes of the view is the same
    call_is : (method : List ℕ) (params : List Val) → (called_by method params old.own).client ≡ calls app method params old.own.client
    call_is method params = ap (λ (a : App). calls a method params old.own.client) p.stubs

    pub call_makes : (method : List ℕ) (params : List Val) (result : Result ℕ ClientFault) → Calls method params old.own own result →
        MakesAsked app name history (ask.call method params) old (with_own own old) result
    call_makes method params (Ok number) r = record {
      can = may (can_call old.own.client) ∙ r.0;
      does = ap (λ (o : Own). as_conn (with_own o old)) r.2 ∙ ap (λ (c : Client). record (as_conn old) { client = c }) (call_is method params);
      stays = own_stays app name history old p own old.made_raw old.upward old.downward (ap (λ (o : Own). o.app) r.2) (ap (λ (o : Own). o.name) r.2);
    }
    call_makes method params (Err fault.Idle) r = may (can_call old.own.client) ∙ r.0
    call_makes method params (Err fault.Memory) r = tt

  -- the client and its session are gone
  pub drop_made : (s : ASession) → Closes old.session s → IsAsked app name history ask.drop old (gone s old)
  drop_made s r =
      let C = moments app old.session.carried.number history in
      let m : Means old.received C old.sent s = r.keeps old.received C old.sent p.means in
      record {
        can = ap not there;
        does = ap (λ (x : ASession). as_conn (gone x old)) r.done;
        stays = subst (λ (x : ASession). IsConnection app name history (gone x old)) (sym r.done) (record {
          stubs = p.stubs;
          named = p.named;
          served = p.served;
          means = subst (λ (x : ASession). Means old.received C old.sent x) r.done m;
          bytes = p.bytes;
          dropped = refl;
          kinds = p.kinds;
        });
      }
