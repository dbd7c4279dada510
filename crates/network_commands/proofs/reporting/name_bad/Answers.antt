use Rattle.std.proofs.Common.{ℕ, List, refl, subst, ◌∙◌}
use Rattle.commands.specs.declared.status.Status.TheVariants as status
use Rattle.network_commands.specs.Cause.{Tells}
use Rattle.network_commands.proofs.reporting.name_bad.Goals as goal

pub returns : goal.returns
returns g c = record {
  tells =
      subst (λ (b : List ℕ). Tells status.BadInput b (g.O.Sink.written c.args.output.now) (g.O.Sink.written c.write_line.new.output) c.write_line.result)
      (c.as_slice.ensures.value ∙ c.in-Ok.ensures) c.write_line.ensures.tells;
  write_fault = c.write_line.ensures.write_fault;
  told = λ n. refl;
}
