use Rattle.std.proofs.Common.{ℕ, List, subst, ◌∙◌}
use Rattle.commands.specs.declared.status.Status.TheVariants as status
use Rattle.network_commands.specs.Cause.{Tells}
use Rattle.network_commands.proofs.reporting.tell_sent.Goals as goal

pub returns-clause-tells : goal.returns-clause-tells
returns-clause-tells g c =
    subst (λ (b : List ℕ). Tells status.ServerSent b (g.O.Sink.written c.args.output.now) (g.O.Sink.written c.write_line.new.output) c.write_line.result)
    (c.as_slice.ensures.value ∙ c.in-Ok.ensures) c.write_line.ensures.tells
