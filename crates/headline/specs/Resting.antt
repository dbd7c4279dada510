-- What holds of a client and its session in a settled world.
use Rattle.std.specs.Prelude.{◌≡◌, true, false}
use Rattle.client_model.specs.Asking.{can_take}
use Rattle.headline.specs.world_model.Conn.{Conn, state_in, is_full}
use Rattle.headline.specs.world_model.World.{World}
use Rattle.headline.specs.Rest.{IsResting}

-- It is at rest, where the client is there and takes texts, its session refused no version, and its journal has room.
abbrev pub RestsUnless : World → Conn → Type 0
RestsUnless w c = c.is_dropped ≡ false → is_full c ≡ false → can_take c.client ≡ true → (state_in c).failed ≡ false → IsResting w.history c
