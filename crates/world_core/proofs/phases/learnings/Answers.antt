use Rattle.std.proofs.Common.{sym, subst, ◌∙◌}
use Rattle.connection.specs.world_model.Settle.{learns}
use Rattle.world_core.specs.Visit.{visit}
use Rattle.world_core.proofs.Adding.{AddNone, learns_add}
use Rattle.world_core.proofs.Passing.{learns_are, listed}
use Rattle.world_core.proofs.phases.learnings.Goals as goal

pub each-requires-clause-add : goal.each-requires-clause-add
each-requires-clause-add c = subst AddNone (sym (c.as_slice-2.ensures.value ∙ c.in_ok-acts.ensures)) (learns_add c.length.result c.as_slice.result.now)

pub returns : goal.returns
returns c =
    let v = visit c.args.machine.now c.args.connection.now c.args.news.now in
    let x = visit c.args.machine.now c.each.new.connection c.each.new.news in
    let lists = c.as_slice-2.ensures.value ∙ (c.in_ok-acts.ensures ∙ learns_are v c.requires c.as_slice.result.now c.length.result c.length.ensures (c.as_slice.ensures.value ∙ c.in_ok-calls.ensures)) in
    listed learns c.as_slice-2.result.now v x c.each.result lists c.each.ensures
