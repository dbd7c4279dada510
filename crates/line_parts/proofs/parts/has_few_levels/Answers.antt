use Rattle.line_parts.proofs.Levels.{capped_fits}
use Rattle.line_parts.proofs.parts.has_few_levels.Goals as goal

pub returns : goal.returns
returns c = capped_fits _ _ c.depth.ensures
