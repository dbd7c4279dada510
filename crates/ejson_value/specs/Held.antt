-- The bytes of a text, whichever way it is held.
use Rattle.std.specs.Prelude.{ℕ, List, string_bytes}
use Rattle.std.specs.Arc.{arc_value}
use Rattle.ejson_value.specs.declared.text.Held.{Held}
use Rattle.ejson_value.specs.declared.text.Held.TheVariants as held

abbrev pub held_bytes : Held → List ℕ
held_bytes (held.Short s) = s
held_bytes (held.Long s) = string_bytes (arc_value s)
