use Rattle.app_model.proofs.PathLaws.{NoneBelow}
use Rattle.app_model.proofs.seen.Seen.has_prefix.Given as goal

abbrev pub invariant-loop-end : goal.invariant-loop-end
invariant-loop-end l = NoneBelow l.self l.path l.end
