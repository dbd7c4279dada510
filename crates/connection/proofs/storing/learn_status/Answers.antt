use Rattle.std.proofs.Common.{rules}
use Rattle.connection.specs.Kept.{seen}
use Rattle.connection.proofs.Stores.{learns_in}
use Rattle.connection.proofs.storing.learn_status.Goals as goal

pub returns-in-Ok-Some-clause-learns : goal.returns-in-Ok-Some-clause-learns
returns-in-Ok-Some-clause-learns c =
    learns_in c.args.side.now c.requires.kept c.args.machine.now c.args.k c.args.at c.requires.free c.in-Ok-Some.status (seen c.learn_from.new.side) c.learn_from.result (search rules) (rw c.in-Ok-Some.field-0-is at c.in-Ok-Some.ensures) c.learn_from.ensures.learns
