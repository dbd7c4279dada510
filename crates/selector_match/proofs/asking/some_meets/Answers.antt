use Rattle.std.proofs.Common.{sym, ◌∙◌}
use Rattle.ejson_value.proofs.Branching.{list_any-flat_map}
use Rattle.selector_match.specs.Holds.{branch_candidates}
use Rattle.selector_match.specs.Asked.{meets, subject_branches}
use Rattle.selector_match.proofs.asking.some_meets.Goals as goal

pub returns : goal.returns
returns c = c.some_answer.ensures ∙ sym (list_any-flat_map (λ x. meets c.args.criterion x) branch_candidates (subject_branches c.args.subject))
