use Rattle.std.proofs.Common.{◌+◌, ◌*◌, length}
use Rattle.modifier_apply.proofs.applying.+walking.Given as goal

abbrev pub decreases-changed_at : goal.decreases-changed_at
decreases-changed_at l = 4 * length l.path.now

abbrev pub decreases-changed_at_place : goal.decreases-changed_at_place
decreases-changed_at_place l = 4 * length l.rest.now + 1

abbrev pub decreases-changed_in_nothing : goal.decreases-changed_in_nothing
decreases-changed_in_nothing l = 4 * length l.rest.now + 2

abbrev pub decreases-changed_inside : goal.decreases-changed_inside
decreases-changed_inside l = 4 * length l.rest.now + 3

abbrev pub decreases-element_changed : goal.decreases-element_changed
decreases-element_changed l = 4 * length l.rest.now + 2

abbrev pub decreases-field_changed : goal.decreases-field_changed
decreases-field_changed l = 4 * length l.rest.now + 1
