-- An act leaves a client linked with its session.
use Rattle.app_model.specs.App.{App}
use Rattle.world_invariant_laws.specs.Links.{IsLinked}
use Rattle.world_rounds_laws.specs.Visits.{Side}

abbrev pub IsLinkedOn : App → Side → Type 0
IsLinkedOn app x = IsLinked app x.history x.conn
