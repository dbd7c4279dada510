use Rattle.std.proofs.Common.{◌∙◌}
use Rattle.world_core.specs.Visit.{visit}
use Rattle.world_core.proofs.Passing.{calls_rise, calls_cover}
use Rattle.world_core.proofs.phases.runs.Goals as goal

pub steps-requires-clause-rise : goal.steps-requires-clause-rise
steps-requires-clause-rise c = calls_rise (visit c.args.machine.now c.args.connection.now c.args.news.now) c.requires c.as_slice.result.now (c.as_slice.ensures.value ∙ c.in_ok-calls.ensures)

pub steps-requires-clause-covers : goal.steps-requires-clause-covers
steps-requires-clause-covers c = calls_cover (visit c.args.machine.now c.args.connection.now c.args.news.now) c.requires c.as_slice.result.now (c.as_slice.ensures.value ∙ c.in_ok-calls.ensures)
