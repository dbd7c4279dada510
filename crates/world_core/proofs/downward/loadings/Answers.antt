use Rattle.std.proofs.Common.{map, sym, subst, ◌∙◌}
use Rattle.connection.specs.session_state.Subs.{as_live}
use Rattle.world_core.proofs.Adding.{AddNone, loads_add}
use Rattle.world_core.proofs.downward.loadings.Goals as goal

pub each-requires-clause-add : goal.each-requires-clause-add
each-requires-clause-add c = subst AddNone (sym (c.as_slice.ensures.value ∙ c.in_ok-acts.ensures)) (loads_add c.length.result (map as_live c.subs.result.now))
