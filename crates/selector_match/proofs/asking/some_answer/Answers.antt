use Rattle.std.proofs.Common.{ap, sym, ◌∙◌, rules}
use Rattle.std.specs.List.{list_any}
use Rattle.value_model.specs.Branches.{Branch}
use Rattle.selector_match.specs.Asked.{asked, subject_branches}
use Rattle.selector_match.proofs.asking.some_answer.Goals as goal

pub returns-in-Branches : goal.returns-in-Branches
returns-in-Branches c =
    c.some_branch.ensures (λ x whole. asked c.args.question x whole) (λ x whole r h. search rules)
    ∙ ap (λ s. list_any (λ (b : Branch). asked c.args.question b.0 b.1) (subject_branches s)) (sym c.in-Branches.is)
