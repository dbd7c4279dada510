-- What a client is asked for, as the requests of the definitions.
use Rattle.std.specs.Prelude.{◌≡◌, ℕ, List, Bool, true, false, Result, Ok, Err, refl}
use Rattle.std.proofs.Common.{ap}
use Rattle.value_model.specs.Val.{Val}
use Rattle.app_model.specs.App.{App}
use Rattle.connection.specs.history_model.declared.entry.Entry.{Entry}
use Rattle.client_model.specs.Asking.{can_sub, subscribed, can_unsub, unsubscribed, can_send, with_text}
use Rattle.connection.specs.client_core.declared.fault.ClientFault.{ClientFault}
use Rattle.connection.specs.client_core.declared.fault.ClientFault.TheVariants as fault
use Rattle.connection.specs.client_core.State.{Own}
use Rattle.connection.specs.client_core.Asked.{Does as DoesOwn, Calls}
use Rattle.connection.specs.session_laws.Session.{ASession}
use Rattle.connection.specs.session_laws.Events.{Closes}
use Rattle.connection.specs.world_model.Asks.{Ask}
use Rattle.connection.specs.world_model.Asks as ask
use Rattle.connection.specs.connection_laws.Connection.{AConnection, IsConnection}
use Rattle.connection.specs.connection_laws.AsksLaws.{subscribe_makes, unsubscribe_makes, call_makes, raw_makes}
use Rattle.connection.specs.connection_laws.AsksLaws.{drop_made, gone_asked}
use Rattle.connection.specs.declared.side.Side.{Side}
use Rattle.connection.specs.Kept.{seen}
use Rattle.connection.specs.Answers.{DoesOver}

abbrev done : Result (Unit {0}) ClientFault
done = Ok tt

abbrev idle : Result (Unit {0}) ClientFault
idle = Err fault.Idle

module _ (a : Side) where
  pub asked_gone : (q : Ask) → a.is_dropped ≡ true → DoesOver q (seen a) (seen a) false
  asked_gone q gone app name history p = (gone_asked (seen a) q gone, refl)

  module _ (there : a.is_dropped ≡ false) (own : Own) where
    pub sub_done : (id publication : List ℕ) (params : List Val) → DoesOwn (can_sub id a.client.client) (subscribed id publication params) a.client own done → DoesOver (ask.subscribe id publication params) (seen a) (seen (record a { client = own })) true
    sub_done id publication params r app name history p = subscribe_makes app name history (seen a) p there own id publication params done r

    pub sub_idle : (id publication : List ℕ) (params : List Val) → DoesOwn (can_sub id a.client.client) (subscribed id publication params) a.client own idle → DoesOver (ask.subscribe id publication params) (seen a) (seen (record a { client = own })) false
    sub_idle id publication params r app name history p = (subscribe_makes app name history (seen a) p there own id publication params idle r, ap (λ (o : Own). seen (record a { client = o })) r.1)

    pub unsub_done : (id : List ℕ) → DoesOwn (can_unsub id a.client.client) (unsubscribed id) a.client own done → DoesOver (ask.unsubscribe id) (seen a) (seen (record a { client = own })) true
    unsub_done id r app name history p = unsubscribe_makes app name history (seen a) p there own id done r

    pub unsub_idle : (id : List ℕ) → DoesOwn (can_unsub id a.client.client) (unsubscribed id) a.client own idle → DoesOver (ask.unsubscribe id) (seen a) (seen (record a { client = own })) false
    unsub_idle id r app name history p = (unsubscribe_makes app name history (seen a) p there own id idle r, ap (λ (o : Own). seen (record a { client = o })) r.1)

    pub call_done : (method : List ℕ) (params : List Val) (number : ℕ) → Calls method params a.client own (Ok number) → DoesOver (ask.call method params) (seen a) (seen (record a { client = own })) true
    call_done method params number r app name history p = call_makes app name history (seen a) p there own method params (Ok number) r

    pub call_idle : (method : List ℕ) (params : List Val) → Calls method params a.client own (Err fault.Idle) → DoesOver (ask.call method params) (seen a) (seen (record a { client = own })) false
    call_idle method params r app name history p = (call_makes app name history (seen a) p there own method params (Err fault.Idle) r, ap (λ (o : Own). seen (record a { client = o })) r.1)

    pub raw_done : (t : List ℕ) → DoesOwn (can_send a.client.client) (with_text t) a.client own done → DoesOver (ask.raw t) (seen a) (seen (record a { client = own; made_raw = true })) true
    raw_done t r app name history p = raw_makes app name history (seen a) p there own t done r

    pub raw_idle : (t : List ℕ) → DoesOwn (can_send a.client.client) (with_text t) a.client own idle → DoesOver (ask.raw t) (seen a) (seen (record a { client = own })) false
    raw_idle t r app name history p = (raw_makes app name history (seen a) p there own t idle r, ap (λ (o : Own). seen (record a { client = o })) r.1)

  pub leave_done : (s : ASession) → a.is_dropped ≡ false → Closes a.session s → DoesOver ask.drop (seen a) (seen (record a { session = s; is_dropped = true })) true
  leave_done s there r app name history p = drop_made app name history (seen a) p there s r
