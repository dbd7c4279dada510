use Rattle.std.proofs.Common.{inr, ⊎_elim}
use Rattle.std.specs.BinaryHeap.{heap_items}
use Rattle.write_fence.specs.Index.{fences_in}
use Rattle.write_fence.proofs.Armed.{IsFired, fired_is}
use Rattle.write_fence.proofs.fences.Fences.fired.Goals as goal

fired : (c : goal.After-pop_least) → IsFired c.pop_least.result c.args.least (fences_in (heap_items c.self.inside.waiting) (heap_items c.self.inside.reached)) (fences_in (heap_items c.pop_least.new.waiting) (heap_items c.pop_least.new.reached))
fired c = fired_is c.pop_least.result c.args.least _ (fences_in (heap_items c.move_reached.new.waiting) (heap_items c.move_reached.new.reached)) _ c.self.invariant.distinct c.move_reached.ensures.same c.pop_least.ensures.same c.pop_least.ensures.none c.pop_least.ensures.taken

pub returns-clause-none : goal.returns-clause-none
returns-clause-none c = rw (← c.self.view_is) ((λ e. inr ((fired c).none.0 e)), λ why. ⊎_elim (λ opening. cc) (λ quiet. (fired c).none.1 quiet) why)

pub returns-clause-least : goal.returns-clause-least
returns-clause-least c = rw (← c.self.view_is) (fired c).least_one

pub returns-clause-unchanged : goal.returns-clause-unchanged
returns-clause-unchanged c = rw (← c.self.view_is) (fired c).unchanged

pub returns-clause-taken : goal.returns-clause-taken
returns-clause-taken c = rw (← c.self.view_is) (fired c).taken
