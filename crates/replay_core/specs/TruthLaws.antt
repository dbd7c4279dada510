-- Each world of a replay is true: the application that an input has is made of values, and its events are events of the program.
use Rattle.std.specs.Prelude.{◌≡◌, ℕ, zero, suc, List, [], ◌∷◌, take, Bool, true, false, Option, Some, None, IfSome, Ok, Err, IfOk, slice_get, if◌then◌else◌}
use Rattle.std.proofs.Common.{ap, sym, subst}
use Rattle.app_model.specs.App.{App}
use Rattle.app_model.specs.Reading.{app_reading}
use Rattle.program_reading.specs.Faults.{Reading}
use Rattle.world_core.specs.world_values_laws.Values.{HasValues}
use Rattle.world_values_laws.specs.AppsReadLaws.{read_apps_have_values}
use Rattle.world_core.specs.world_model.Store.{programs}
use Rattle.world_core.specs.world_model.declared.events.Event.{Event}
use Rattle.world_core.specs.world_model.declared.events.Event.TheVariants as event
use Rattle.world_core.specs.world_model.Conn.{Conn}
use Rattle.world_core.specs.world_model.World.{World, start, conn_of}
use Rattle.world_core.specs.world_model.Events.{step, run, IsEvent, AreEvents}
use Rattle.world_events.specs.Events.{event_in}
use Rattle.client_model.specs.Showing.{IsShown}
use Rattle.world_core.specs.world_invariant_laws.Links.{IsLinked}
use Rattle.world_core.specs.world_invariant_laws_for_proofs.WorldsLaws.{all_linked}
use Rattle.world_core.specs.headline_for_proofs.WorldsLaws.{worlds_are_true}
use Rattle.world_core.specs.headline_for_proofs.PoliteWorldsLaws.{worlds_have_long_alone}
use Rattle.world_core.specs.AtRest.{settled_worlds_rest}
use Rattle.world_core.specs.RestingRounds.{rounds_stay}
use Rattle.checking.specs.Input.{lines_in, rest_of, is_blank, value_in}
use Rattle.checking.specs.Walk.{before_bad}
use Rattle.replay_core.specs.Replay.{read_as, app_of, event_of, events_of}
use Rattle.replay_core.specs.ValuesRead.{IsRead}
use Rattle.replay_core.specs.ValuesReadLaws.{from_one, line_is}
use Rattle.replay_core.specs.EventsReadLaws.{event_is}
use Rattle.replay_core.specs.Truth.{AreShown, IsSettled, world_after, IsTrueRun, IsTrueReplay}

first_events : (n : ℕ) (events : List Event) → AreEvents events → AreEvents (take n events)
first_events zero events p = tt
first_events (suc n) [] p = tt
first_events (suc n) (e ∷ events) p = (p.0, first_events n events p.1)

are_shown : (w : World) → ((name : List ℕ) → IfSome (conn_of w name) (IsLinked w.app w.history)) → AreShown w
are_shown w linked name = by (conn_of w name) (linked name)
  where
    by : (o : Option Conn) → IfSome o (IsLinked w.app w.history) → IfSome o (λ (c : Conn). IsShown c.client)
    by None p = tt
    by (Some c) p = p.heard.shown

-- the event at this place is the last of those that run up to it
last_event : (w : World) (events : List Event) (n : ℕ) (e : Event) → slice_get events n ≡ Some e → run w (take (suc n) events) ≡ step (run w (take n events)) e
last_event w [] n e is = cc is
last_event w (x ∷ events) zero e is = let same : x ≡ e = cc is in ap (step w) same
last_event w (x ∷ events) (suc n) e is = last_event (step w x) events n e is

run_is_true : (app : App) (events : List Event) → HasValues (programs app) → AreEvents events → IsTrueRun app events
run_is_true app events values fits = record {
  each = λ n.
      let firsts : AreEvents (take n events) = first_events n events fits in
      record {
        headline = worlds_are_true app (take n events) values firsts;
        shown = are_shown (world_after app events n) (all_linked app (take n events) firsts);
        long = worlds_have_long_alone app (take n events) values firsts;
      };
  settled = λ n is.
      let firsts : AreEvents (take n events) = first_events n events fits in
      subst IsSettled (sym (last_event (start app) events n event.Settle is)) (record {
        at_rest = settled_worlds_rest app (take n events) values firsts;
        stays = rounds_stay app (take n events) values firsts;
      });
}

-- ---- what is read of an input

abbrev HasMade : App → Type 0
HasMade app = HasValues (programs app)

app_made : (r : Reading App) → IfOk r HasMade → IfSome (read_as r) HasMade
app_made (Ok app) is = is
app_made (Err e) is = tt

app_is : (ls : List (List ℕ)) → IfSome (app_of ls) HasMade
app_is [] = tt
app_is (l ∷ ls) =
    from_one (value_in l) (λ v. read_as (app_reading v)) IsRead HasMade (line_is l) (λ v is. app_made (app_reading v) (read_apps_have_values v is.value))

line_event : (l : List ℕ) → IfSome (event_of l) IsEvent
line_event l = from_one (value_in l) event_in IsRead IsEvent (line_is l) (λ v is. event_is v is.value)

with_line : (blank : Bool) (o : Option Event) (events : List Event) → IfSome o IsEvent → AreEvents events →
    AreEvents (if blank then events else before_bad o events)
with_line true o events is all = all
with_line false None events is all = tt
with_line false (Some e) events is all = (is, all)

events_are : (ls : List (List ℕ)) → AreEvents (events_of ls)
events_are [] = tt
events_are (l ∷ ls) = with_line (is_blank l) (event_of l) (events_of ls) (line_event l) (events_are ls)

-- Of every input, also of one whose replay ends before its last event.
pub replays_are_true : (input : List ℕ) → IsTrueReplay input
replays_are_true input app is =
    let rest = rest_of (lines_in input) in
    run_is_true app (events_of rest) (subst (λ (o : Option App). IfSome o HasMade) is (app_is (lines_in input))) (events_are rest)
