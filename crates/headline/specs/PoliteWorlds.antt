-- In every world that events lead to, a client that sent no text as it stands is polite; so it refuses none but for its length.
use Rattle.std.specs.Prelude.{◌≡◌, ◌-◌, List, false}
use Rattle.app_model.specs.App.{App}
use Rattle.headline.specs.history_model.declared.entry.Entry.{Entry}
use Rattle.headline.specs.world_values_laws.Values.{HasValues, AreEntries}
use Rattle.headline.specs.world_model.Store.{programs}
use Rattle.headline.specs.world_model.Conn.{Conn}
use Rattle.headline.specs.world_invariant_laws.Links.{IsLinked}
use Rattle.headline.specs.Polite.{IsPolite}

-- ---- every world

-- it is linked with its session, and polite where it sent no text as it stands, for an application and a history of values
abbrev pub IsKnownPolite : App → List Entry → Conn → Type 0
IsKnownPolite app h c = IsLinked app h c × (HasValues (programs app) → AreEntries h → c.made_raw ≡ false → IsPolite c)
