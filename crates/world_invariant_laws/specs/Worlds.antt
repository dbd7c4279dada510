-- The laws of every world that events lead to.
use Rattle.std.specs.Prelude.{ℕ, List, IfSome}
use Rattle.world_model.specs.World.{World, conn_of}
use Rattle.world_invariant_laws.specs.Links.{IsLinked}

abbrev pub Linked : World → Type 0
Linked w = (name : List ℕ) → IfSome (conn_of w name) (IsLinked w.app w.history)
