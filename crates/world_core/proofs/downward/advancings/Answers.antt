use Rattle.std.proofs.Common.{map, sym, subst, ◌∙◌}
use Rattle.connection.specs.session_state.Subs.{as_live}
use Rattle.world_core.specs.Visit.{visit}
use Rattle.world_core.proofs.Adding.{AddNone, behind_add}
use Rattle.world_core.proofs.Passing.{all_advanced}
use Rattle.world_core.proofs.downward.advancings.Goals as goal

pub each-requires-clause-add : goal.each-requires-clause-add
each-requires-clause-add c = subst AddNone (sym (c.as_slice.ensures.value ∙ c.in_ok-acts.ensures)) (behind_add c.length.result (map as_live c.subs.result.now))

pub returns : goal.returns
returns c =
    let v = visit c.args.machine.now c.args.connection.now c.args.news.now in
    let x = visit c.args.machine.now c.each.new.connection c.each.new.news in
    all_advanced v c.requires (map as_live c.subs.result.now) c.as_slice.result.now c.length.result x c.each.result (c.as_slice.ensures.value ∙ c.in_ok-acts.ensures) c.length.ensures c.subs.ensures.live c.each.ensures
