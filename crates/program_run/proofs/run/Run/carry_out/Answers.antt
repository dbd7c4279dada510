use Rattle.std.proofs.Common.{suc, drop, ap, ◌∙◌}
use Rattle.program_run.specs.Progress.{with_left}
use Rattle.program_run.specs.Planned.{setting_of, planned}
use Rattle.program_run.proofs.Steps.{if_ok_map}
use Rattle.program_run.proofs.run.Run.carry_out.Goals as goal

pub returns-in-Answers-clause-does : goal.returns-in-Answers-clause-does
returns-in-Answers-clause-does c =
    let self = c.args.self.now in
    let store = c.args.store.now in
    let left = drop (suc self.next) c.args.steps.now in
    if_ok_map c.answer.result (λ effect does app. ap (planned (setting_of app store c.args.room) store.rows (with_left self left)) c.in-Answers.is ∙ does c.args.steps.now left) c.answer.ensures.does
