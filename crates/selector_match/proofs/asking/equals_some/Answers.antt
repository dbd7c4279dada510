use Rattle.std.proofs.Common.{◌∙◌}
use Rattle.selector_match.specs.Holds.{candidates, equals}
use Rattle.selector_match.specs.Asked.{subject_branches}
use Rattle.selector_match.proofs.Loops.{any_either_way}
use Rattle.selector_match.proofs.asking.equals_some.Goals as goal

pub returns : goal.returns
returns c = c.some_meets.ensures ∙ any_either_way equals (candidates (subject_branches c.args.subject)) c.args.operands.now
