-- What every world is that the code makes.
use Rattle.std.specs.Prelude.{◌≡◌, ℕ, List, Some, refl}
use Rattle.std.proofs.Common.{subst, arith}
use Rattle.map_model.specs.MapLaws.{sorted-nil}
use Rattle.value_model.specs.Order.{text_cmp}
use Rattle.app_model.specs.App.{App}
use Rattle.headline.specs.world_values_laws.Values.{HasValues}
use Rattle.headline.specs.world_model.Store.{programs}
use Rattle.headline.specs.world_model.World.{World}
use Rattle.headline.specs.world_model.Settle.{settled}
use Rattle.headline.specs.world_model.Headline.{IsTrueWorld, HaveLongAlone, AreAtRest}
use Rattle.headline.specs.WorldsLaws.{worlds_are_true}
use Rattle.headline.specs.PoliteWorldsLaws.{worlds_have_long_alone}
use Rattle.headline.specs.AtRest.{settled_worlds_rest}
use Rattle.headline.specs.world_invariant_laws.Links.{IsLinked}
use Rattle.connection_laws.specs.Connection.{AConnection, as_conn}
use Rattle.world_laws.specs.World.{AWorld, new_world, as_world, connection_of, IsWorld}
use Rattle.world_laws.specs.ReachingLaws.{start_reaches, reached_stands}
use Rattle.world_laws.specs.Changing.{conn_there}

pub worlds_true : (x : AWorld) → IsWorld x → IsTrueWorld (as_world x)
worlds_true x p = subst IsTrueWorld p.reachable.2 (worlds_are_true x.app p.reachable.0 p.values p.reachable.1)

pub worlds_long : (x : AWorld) → IsWorld x → HaveLongAlone (as_world x)
worlds_long x p = subst (λ (w : World). HaveLongAlone w) p.reachable.2 (worlds_have_long_alone x.app p.reachable.0 p.values p.reachable.1)

pub settled_rests : (x : AWorld) → IsWorld x → AreAtRest (settled (as_world x))
settled_rests x p = subst (λ (w : World). AreAtRest (settled w)) p.reachable.2 (settled_worlds_rest x.app p.reachable.0 p.values p.reachable.1)

-- a new world
pub new_stays : (app : App) → HasValues (programs app) → IsWorld (new_world app)
new_stays app values = record {
  values = values;
  reachable = start_reaches app;
  order = sorted-nil text_cmp;
  clients = λ name. tt;
  present = (sorted-nil text_cmp, λ name. refl);
  busy = sorted-nil text_cmp;
  settled = omega arith;
}

-- each client with its session is linked, and so served, as the laws of each have it
pub clients_linked : (x : AWorld) → IsWorld x → (name : List ℕ) (c : AConnection) → connection_of x name ≡ Some c → IsLinked x.app x.history (as_conn c)
clients_linked x p name c is = (reached_stands (as_world x) p.reachable).all name (as_conn c) (conn_there x name c is)
