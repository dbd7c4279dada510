-- A session's subscriptions and calls as the journal's definitions see them, and what a step makes of them.
use Rattle.std.specs.Prelude.{◌≡◌, ℕ, suc, ◌<◌, max, List, [], ◌∷◌, ◌++◌, map, true, Option, Some, None, option_map}
use Rattle.std.specs.Vec.{vec_len, vec_capacity}
use Rattle.ejson_value.specs.View.{view}
use Rattle.live_observer.specs.Observing.{AnObserver}
use Rattle.session_model.specs.Subscriptions.{Live, loaded, closed}
use Rattle.session_model.specs.Methods.{Blocking, Phase, running, refused, finished, phase_at, turned, freed, all_told}
use Rattle.session_model.specs.State.{State}
use Rattle.session_state.specs.declared.own.Call.{Call}
use Rattle.session_state.specs.declared.kept.Own.{Own}
use Rattle.session_state.specs.declared.own.Step.{Step}
use Rattle.session_state.specs.declared.own.Step.TheVariants as step
use Rattle.session_model.specs.Observers.{observers_without}
use Rattle.session_state.specs.Subs.{as_live, observers_of}
use Rattle.session_state.specs.Calls.{as_method}

abbrev pub as_blocking : Call → Blocking
as_blocking c = record { k = c.k; method = c.method; params = c.params; seed = view c.seed }

abbrev pub as_state : Own → State
as_state o = record {
  connected = o.connected;
  failed = o.failed;
  subs = map as_live o.subs.items;
  opened = o.opened;
  methods = map as_method o.methods.items;
  blocking = option_map as_blocking o.blocking;
  reach = o.reach;
}

-- what a step makes of them, before any call is told
abbrev pub stepped : Step → State → State
stepped step.Stay st = st
stepped step.Connect st = record st { connected = true }
stepped step.Fail st = record st { failed = true }
stepped (step.Open s) st = record st { subs = st.subs ++ as_live s ∷ []; opened = suc st.opened }
stepped (step.Show s place) st = record st { subs = loaded s place st.subs; reach = max st.reach place }
stepped (step.Close s) st = record st { subs = closed s st.subs }
stepped (step.Handle id call) st = record st { methods = st.methods ++ record { id = id; phase = running } ∷ []; blocking = Some (as_blocking call) }
stepped (step.Refuse k) st = record st { methods = turned k refused st.methods; blocking = freed k st.blocking }
stepped (step.Unblock k) st = record st { blocking = freed k st.blocking }
stepped (step.Finish k place) st = record st { methods = turned k (finished place) st.methods; blocking = freed k st.blocking; reach = max st.reach place }

-- the call of this number is so far, and blocks no longer
abbrev pub turned_state : ℕ → Phase → State → State
turned_state k p st = record st { methods = turned k p st.methods; blocking = freed k st.blocking }

-- the call that blocks from the step on; the call that ended, and where
abbrev pub started_by : Step → Option ℕ
started_by (step.Handle id call) = Some call.k
started_by s = None

abbrev pub ended_by : Step → Option (ℕ × ℕ)
ended_by (step.Finish k place) = Some (k, place)
ended_by s = None

-- a call that is refused runs
abbrev pub CanStep : Step → State → Type 0
CanStep (step.Refuse k) st = phase_at k st.methods ≡ Some running
CanStep s st = Unit {0}

-- the ids of the calls that are told with the step
abbrev pub told_with : Step → State → List (List ℕ)
told_with s st = let own = stepped s st in all_told own.subs own.methods

-- ---- room

-- more than a session opens subscriptions
abbrev pub max_items : ℕ
max_items = 262144

-- for one more subscription and one more call
pub record HasRoom (o : Own) : Type 0 where
  pub subs : vec_len o.subs < vec_capacity o.subs
  pub methods : vec_len o.methods < vec_capacity o.methods

-- the same, in other memory perhaps
pub record SameOwn (old new : Own) : Type 0 where
  pub state : as_state new ≡ as_state old
  pub observers : observers_of new.subs.items ≡ observers_of old.subs.items

-- what a step makes of the observers of the live subscriptions
abbrev pub observers_after : Step → List Live → List (Option AnObserver) → List (Option AnObserver)
observers_after (step.Open s) ls os = os ++ s.observer ∷ []
observers_after (step.Close s) ls os = observers_without s ls os
observers_after s ls os = os

abbrev pub Watch : Type 0
Watch = List (Option AnObserver)

-- the observers after a step of the subscriptions and calls
abbrev pub watch_after : Step → Own → Watch
watch_after s old = observers_after s (map as_live old.subs.items) (observers_of old.subs.items)
