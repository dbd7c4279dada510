-- A further round leaves a settled world, and so does settling it again.
use Rattle.std.specs.Prelude.{◌≡◌, ℕ, List}
use Rattle.app_model.specs.App.{App}
use Rattle.rounds_model.specs.Tower.{Leads}
use Rattle.rounds_model.specs.RoundLaws.{round_leads}
use Rattle.headline.specs.world_model.declared.events.Act.{Act}
use Rattle.headline.specs.world_model.declared.events.Event.{Event}
use Rattle.headline.specs.world_model.Store.{programs}
use Rattle.headline.specs.world_model.World.{World, start, done, can_in}
use Rattle.headline.specs.world_model.Settle.{phases, round, is_stuck, measures, settled}
use Rattle.headline.specs.world_model.Events.{run, AreEvents}
use Rattle.headline.specs.world_values_laws.Values.{HasValues}
use Rattle.headline.specs.world_invariant_laws.Lift.{done_holds}
use Rattle.headline.specs.world_invariant_laws.Links.{IsLinked}
use Rattle.headline.specs.Worlds.{IsSound}
use Rattle.headline.specs.WorldsLaws.{sound_kept, worlds_hold}
use Rattle.headline.specs.LoweringLaws.{acts_lower}
use Rattle.headline.specs.Settled as settling
use Rattle.headline.specs.Tidy.{Stands}
use Rattle.headline.specs.TidyLaws.{stands_tidy}
use Rattle.headline.specs.Settling.{stuck, stands}

module _ (first : App) (good : HasValues (programs first)) where
  keeps : (e : List ℕ × Act) (w : World) → Stands first w → Stands first (done e w)
  keeps e w p = done_holds (IsSound first) IsLinked (sound_kept first) e w p

  leads : Leads (Stands first) is_stuck measures round
  leads = round_leads (Stands first) can_in done measures (record { keeps = keeps; goes = λ e w p. acts_lower e w (stands_tidy first w good p) }) phases

pub rounds_stay : (app : App) (events : List Event) → HasValues (programs app) → AreEvents events → let w = settled (run (start app) events) in round w ≡ w
rounds_stay app events good all =
    let w = run (start app) events in
    let l = worlds_hold app events all in
    let k = leads app good in
    k.stays (settled w) (stands app good w l) (stuck app good w l)

pub settling_stays : (app : App) (events : List Event) → HasValues (programs app) → AreEvents events → let w = settled (run (start app) events) in settled w ≡ w
settling_stays app events good all =
    let w = run (start app) events in
    let l = worlds_hold app events all in
    settling.stuck_stays (Stands app) (λ v p. stands_tidy app v good p) (keeps app good) (settled w) (stands app good w l) (stuck app good w l)
