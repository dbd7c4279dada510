use Rattle.std.proofs.Common.{◌+◌, ◌≤◌, refl, sym, subst, arith}
use Rattle.multiplexer_tests.proofs.Known.{known_whole}
use Rattle.multiplexer_tests.proofs.once.ask_again.Goals as goal

pub returns : goal.returns
returns g c = c.span.ensures.known c.args.machine.now refl (known_whole _ c.args.sub.now c.args.machine.now c.args.from (c.args.from + 1) c.args.lent c.requires.lent (c.learn.ensures.known c.requires.source))
