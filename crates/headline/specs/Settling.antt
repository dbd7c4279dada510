-- Every world that events lead to settles.
use Rattle.std.specs.Prelude.{◌≡◌, ℕ, List, true, Option, Some, None, IfSome, refl}
use Rattle.app_model.specs.App.{App}
use Rattle.rounds_model.specs.Tower.{often}
use Rattle.headline.specs.world_model.declared.events.Event.{Event}
use Rattle.headline.specs.world_model.Store.{programs}
use Rattle.headline.specs.world_model.Conn.{Conn}
use Rattle.headline.specs.world_model.World.{World, start, conn_of}
use Rattle.headline.specs.world_model.Settle.{round, is_stuck, settled}
use Rattle.headline.specs.world_model.Events.{run, AreEvents}
use Rattle.headline.specs.world_values_laws.Values.{HasValues}
use Rattle.headline.specs.world_invariant_laws.Lift.{done_holds}
use Rattle.headline.specs.world_invariant_laws.Links.{IsLinked}
use Rattle.headline.specs.Worlds.{IsSound}
use Rattle.headline.specs.WorldsLaws.{sound_kept, worlds_hold}
use Rattle.headline.specs.Settled as settling
use Rattle.headline.specs.StuckLaws.{none_of_phase}
use Rattle.headline.specs.Rest.{is_resting}
use Rattle.headline.specs.Resting.{RestsUnless}
use Rattle.headline.specs.Tidy.{Stands}
use Rattle.headline.specs.TidyLaws.{stands_tidy}

module _ (first : App) (good : HasValues (programs first)) where
  pub stuck : (w : World) → Stands first w → is_stuck (settled w) ≡ true
  stuck w l = settling.settled_is_stuck (Stands first) (λ v p. stands_tidy first v good p)
      (λ e v p. done_holds (IsSound first) IsLinked (sound_kept first) e v p) w l

  pub stands : (w : World) → Stands first w → Stands first (settled w)
  stands w l = settling.settled_keeps (Stands first) (λ v p. stands_tidy first v good p)
      (λ e v p. done_holds (IsSound first) IsLinked (sound_kept first) e v p) w l

  pub rounds : (n : ℕ) (w : World) → Stands first w → is_stuck (often n round w) ≡ true → often n round w ≡ settled w
  rounds n w l s = settling.rounds_settle (Stands first) (λ v p. stands_tidy first v good p)
      (λ e v p. done_holds (IsSound first) IsLinked (sound_kept first) e v p) n w l s

pub stuck_rests : (first : App) (w : World) → Stands first w → is_stuck w ≡ true → (name : List ℕ) → IfSome (conn_of w name) (RestsUnless w)
stuck_rests first w l s name = by (conn_of w name) refl
  where
    by : (o : Option Conn) → conn_of w name ≡ o → IfSome o (RestsUnless w)
    by None e = tt
    by (Some c) e = λ there room able going. is_resting w.app w.history c there room able going (none_of_phase w name c s e)
        (l.all name c e).served.session.fits

-- ---- from the beginning

pub settled_worlds_are_stuck : (app : App) (events : List Event) → HasValues (programs app) → AreEvents events →
    is_stuck (settled (run (start app) events)) ≡ true
settled_worlds_are_stuck app events good all = stuck app good (run (start app) events) (worlds_hold app events all)

pub rounds_lead_to_the_settled_world : (app : App) (events : List Event) → HasValues (programs app) → AreEvents events → (n : ℕ) →
    let w = run (start app) events in is_stuck (often n round w) ≡ true → often n round w ≡ settled w
rounds_lead_to_the_settled_world app events good all n s = rounds app good n (run (start app) events) (worlds_hold app events all) s

pub settled_sessions_rest : (app : App) (events : List Event) → HasValues (programs app) → AreEvents events → (name : List ℕ) →
    let w = settled (run (start app) events) in IfSome (conn_of w name) (RestsUnless w)
settled_sessions_rest app events good all name =
    let w = run (start app) events in
    let l = worlds_hold app events all in
    stuck_rests app (settled w) (stands app good w l) (stuck app good w l) name
