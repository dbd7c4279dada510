-- A world settles: rounds end where none of their acts is made, and however many they are, they lead to the settled world.
use Rattle.std.specs.Prelude.{◌≡◌, ℕ, List, true}
use Rattle.std.proofs.Common.{sym}
use Rattle.rounds_model.specs.Tower.{often, Leads}
use Rattle.rounds_model.specs.TowerLaws as towers
use Rattle.rounds_model.specs.Rounds.{Acts}
use Rattle.rounds_model.specs.RoundLaws.{round_leads}
use Rattle.world_model.specs.declared.events.Act.{Act}
use Rattle.world_model.specs.World.{World, done, can_in}
use Rattle.world_model.specs.Settle.{phases, round, is_stuck, measures, settled}
use Rattle.headline.specs.Lowering.{AreTidy}
use Rattle.headline.specs.LoweringLaws.{acts_lower}

-- whatever each act keeps, and by which clients and sessions are tidy
module _ (P : World → Type 0) (tidy : (w : World) → P w → AreTidy w) (keeps : (e : List ℕ × Act) (w : World) → P w → P (done e w)) where
  acts_lead : Acts P can_in done measures
  acts_lead = record { keeps = keeps; goes = λ e w p. acts_lower e w (tidy w p) }

  leads : Leads P is_stuck measures round
  leads = round_leads P can_in done measures acts_lead phases

  pub settled_is_stuck : (w : World) → P w → is_stuck (settled w) ≡ true
  settled_is_stuck w p = towers.tower_is_stuck P is_stuck measures round leads w p

  pub settled_keeps : (w : World) → P w → P (settled w)
  settled_keeps w p = towers.tower_keeps P is_stuck measures round leads w p

  pub rounds_settle : (n : ℕ) (w : World) → P w → is_stuck (often n round w) ≡ true → often n round w ≡ settled w
  rounds_settle n w p s = towers.steps_end_at_the_tower P is_stuck measures round leads n w p s

  -- a world in which no act is made is settled
  pub stuck_stays : (w : World) → P w → is_stuck w ≡ true → settled w ≡ w
  unfolding often
  stuck_stays w p s = sym (rounds_settle 0 w p s)
