-- Each act that is made leaves less to be done.
use Rattle.std.specs.Prelude.{ℕ, List, IfSome}
use Rattle.map_model.specs.Maps.{IsSorted}
use Rattle.value_model.specs.Order.{text_cmp}
use Rattle.world_model.specs.World.{World, conn_of}
use Rattle.headline.specs.Clients.{IsTidy}

-- ---- in any world

-- each client and its session is tidy
pub record AreTidy (w : World) : Type 0 where
  pub sorted : IsSorted text_cmp w.conns
  pub tidy : (name : List ℕ) → IfSome (conn_of w name) IsTidy
