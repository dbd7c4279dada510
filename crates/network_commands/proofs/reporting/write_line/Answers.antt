use Rattle.std.proofs.Common.{refl, inl, inr}
use Rattle.io_edge.specs.Whole.{written_before}
use Rattle.network_commands.proofs.reporting.write_line.Goals as goal

pub returns-in-Err-clause-tells : goal.returns-in-Err-clause-tells
returns-in-Err-clause-tells g c = inr (inl (refl, (written_before c.in-Err._fault, c.in-Err.ensures.part)))
