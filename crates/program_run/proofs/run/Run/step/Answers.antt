use Rattle.std.specs.Option.{option_copied}
use Rattle.std.proofs.Common.{suc, drop, ◌∙◌}
use Rattle.program_run.specs.Planned.{setting_of}
use Rattle.program_run.proofs.Steps.{if_ok_map, steps_next}
use Rattle.program_run.proofs.run.Run.step.Goals as goal

pub returns-clause-does : goal.returns-clause-does
returns-clause-does c =
    let self = c.args.self.now in
    let store = c.args.store.now in
    let app = option_copied c.args.app in
    let steps = c.args.steps.now in
    let next = c.in-Some.ensures.some in
    if_ok_map c.carry_out.result
    (λ effect does. steps_next (setting_of app store c.args.room) store.rows steps self c.in-Some.step.now next.0 next.1 ∙ (c.in_ok-plan.ensures c.args.room (drop (suc self.next) steps) ∙ does app)) c.carry_out.ensures.does
