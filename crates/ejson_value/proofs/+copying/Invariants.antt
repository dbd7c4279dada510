use Rattle.std.proofs.Common.{◌+◌, ◌*◌}
use Rattle.value_model.specs.Depth.{depth}
use Rattle.ejson_value.specs.View.{view}
use Rattle.ejson_value.proofs.+copying.Given as goal

abbrev pub decreases-copying::copy : goal.decreases-copying::copy
decreases-copying::copy l = 3 * depth (view l.value.now)

abbrev pub decreases-copying::copy_user : goal.decreases-copying::copy_user
decreases-copying::copy_user l = 3 * depth l.value.now + 2

abbrev pub decreases-value::Boxed::copy : goal.decreases-value::Boxed::copy
decreases-value::Boxed::copy l = 3 * depth l.self.now + 1
