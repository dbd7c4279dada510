-- What a client that speaks for itself does, by what the client does.
use Rattle.std.specs.Prelude.{◌≡◌, ℕ, List, true, false, Result, Ok, Err}
use Rattle.std.proofs.Common.{ap, sym, ◌∙◌}
use Rattle.value_model.specs.Val.{Val}
use Rattle.client_model.specs.TakingLaws.{text_breaks}
use Rattle.client_model.specs.Asking.{can_sub, subscribed, can_unsub, unsubscribed}
use Rattle.ejson_value.specs.declared.memory.Mem.{Mem}
use Rattle.client_core.specs.State.{Own}
use Rattle.client_core.specs.Asked.{Calls}
use Rattle.client_core.specs.Asked as client
use Rattle.client_core.specs.Taken.{Takes}
use Rattle.client_core.specs.declared.fault.ClientFault.{ClientFault}
use Rattle.client_core.specs.declared.fault.ClientFault.TheVariants.{Idle, Memory}
use Rattle.client_core.specs.declared.fault.TakeFault.TheVariants as fault
use Rattle.client_script.specs.declared.line.Ask.TheVariants as ask
use Rattle.client_script.specs.declared.speaker.Heard.TheVariants as answer
use Rattle.client_script.specs.Speaking.{Hears}
use Rattle.client_script.proofs.Stopping.{not_refused}
use Rattle.client_script.specs.Speaking.{goes_on}
use Rattle.console_run.specs.Speaking.{look_of, Does, IsAsked}

-- ---- what is asked for

pub asks_sub : {X : Type 0} (old new : Own) (id name : List ℕ) (params : List Val) (r : Result X ClientFault) → client.Does (can_sub id old.client) (subscribed id name params) old new r → IsAsked old (ask.Sub id name params) new r
asks_sub old new id name params (Ok x) d = d
asks_sub old new id name params (Err Idle) d = d
asks_sub old new id name params (Err Memory) d = d

pub asks_unsub : {X : Type 0} (old new : Own) (id : List ℕ) (r : Result X ClientFault) → client.Does (can_unsub id old.client) (unsubscribed id) old new r → IsAsked old (ask.Unsub id) new r
asks_unsub old new id (Ok x) d = d
asks_unsub old new id (Err Idle) d = d
asks_unsub old new id (Err Memory) d = d

-- ---- a text that is heard

pub hears_taken : {X : Type 0} (old new : Own) (t : List ℕ) (x : X) → Takes t old new (Ok x) → new.client.is_failed ≡ false → Hears look_of Does {F = Mem} old t new (Ok answer.Taken)
hears_taken old new t x d failed = (d.2, (failed, ap (λ (o : Own). o.client.broken) d.2 ∙ d.1))

pub hears_failed : {X : Type 0} (old new : Own) (t : List ℕ) (x : X) → Takes t old new (Ok x) → new.client.is_failed ≡ true → Hears look_of Does {F = Mem} old t new (Ok answer.Failed)
hears_failed old new t x d failed = (d.2, (failed, ap (λ (o : Own). o.client.broken) d.2 ∙ d.1))

pub hears_refused : (old new : Own) (t : List ℕ) (n : ℕ) → goes_on (look_of old) ≡ true → Takes {X = Unit {0}} t old new (Err (fault.ServerSent n)) → Hears look_of Does {F = Mem} old t new (Ok (answer.Refused n))
hears_refused old new t n on d =
    let was = not_refused (look_of old) on in (
      d.2 ∙ ap (λ c. record old { client = c }) (sym (text_breaks old.client t n d.1 was.1)),
      (ap (λ (o : Own). o.client.is_failed) d.2 ∙ was.0, ap (λ (o : Own). o.client.broken) d.2),
    )
