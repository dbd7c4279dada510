-- Laws: An act leaves a client linked with its session.
use Rattle.std.specs.Prelude.{◌≡◌, ◌++◌, true, false, cond, refl}
use Rattle.app_model.specs.App.{App}
use Rattle.world_invariant_laws.specs.world_model.declared.events.Act.{Act}
use Rattle.world_invariant_laws.specs.world_model.Acts.{does, entries}
use Rattle.world_invariant_laws.specs.Links.{IsLinked}
use Rattle.world_invariant_laws.specs.LinksLaws.{links_kept}
use Rattle.world_rounds_laws.specs.Visits.{Side, can_on, act_on}
use Rattle.world_rounds_laws.specs.Linked.{IsLinkedOn}

pub act_linked : (app : App) (a : Act) (x : Side) → IsLinked app x.history x.conn → IsLinked app (act_on app a x).history (act_on app a x).conn
act_linked app a x p =
    elim (can_on app x a) as
    (λ b. can_on app x a ≡ b →
    IsLinkedOn app (cond b (record { history = x.history ++ entries app x.history x.conn a; conn = does app x.history x.conn a }) x)) [
      | true ↦ λ may. links_kept.acts app x.history x.conn a may p
      | false ↦ λ may. p
    ] refl
