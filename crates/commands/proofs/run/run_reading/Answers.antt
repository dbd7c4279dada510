use Rattle.std.proofs.Common.{ℕ, List, subst, rules}
use Rattle.commands.specs.Cause.{EndsAs}
use Rattle.commands.proofs.Causes.{cause_of, run_is_true}
use Rattle.commands.proofs.run.run_reading.Goals as goal

pub returns-in-Ok-clause-cause : goal.returns-in-Ok-clause-cause
returns-in-Ok-clause-cause g c =
    let command = c.args.command in
    let before = g.O.Sink.written c.args.output.now in
    let now = g.O.Sink.written c.run_input.new.output in
    let ends = subst (λ (bytes : List ℕ). EndsAs command bytes before now c.run_input.result) c.as_slice.ensures.value c.run_input.ensures.ends in
    let left = g.I.Source.left c.args.input.now in
    let rest = g.I.Source.left c.read_input.new.input in
    cause_of command left rest c.in-Ok.bytes before now c.run_input.result c.in-Ok.ensures.all c.in-Ok.ensures.within c.in-Ok.ensures.end ends

pub returns-in-Err-Memory-clause-cause : goal.returns-in-Err-Memory-clause-cause
returns-in-Err-Memory-clause-cause g c = (run_is_true c.args.command (g.I.Source.left c.args.input.now), search rules)
