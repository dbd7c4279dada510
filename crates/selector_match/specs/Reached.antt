-- What contracts see of what a path reached.
use Rattle.std.specs.Prelude.{Option, None, Some}
use Rattle.value_model.specs.Val.{Val, text}
use Rattle.ejson_value.specs.View.{view}
use Rattle.selector_match.specs.declared.reached.Reached.{Reached}
use Rattle.selector_match.specs.declared.reached.Reached.TheVariants as reached

abbrev pub reached_view : Reached → Option Val
reached_view reached.Nothing = None
reached_view (reached.Id id) = Some (text id.now)
reached_view (reached.Value v) = Some (view v.now)
