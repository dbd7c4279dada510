use Rattle.std.proofs.Common.{rules, ◌≡◌, sym}
use Rattle.connection.specs.Storing.{IsTurnedDown}
use Rattle.connection.proofs.Stores.{begin_known, begin_follows, begin_done, begin_full}
use Rattle.connection.proofs.storing.begin_blocking.Goals as goal

pub try_begin-requires-clause-known : goal.try_begin-requires-clause-known
try_begin-requires-clause-known c = begin_known c.args.side.now c.requires.kept c.args.machine.now c.requires.connection c.in-Some.call.now (sym c.in-Some.ensures) c.requires.there (search rules) (search rules) c.requires.served

pub try_begin-requires-clause-next : goal.try_begin-requires-clause-next
try_begin-requires-clause-next c = begin_follows c.args.side.now c.requires.kept c.args.machine.now c.requires.connection c.in-Some.call.now (sym c.in-Some.ensures) c.requires.there (search rules) (search rules) c.requires.served

pub returns-in-Ok-None-clause-begins : goal.returns-in-Ok-None-clause-begins
returns-in-Ok-None-clause-begins c =
    begin_done c.args.side.now c.requires.kept c.args.machine.now c.requires.connection c.in-Some.call.now (sym c.in-Some.ensures) c.requires.there (search rules) (search rules) c.try_begin.new.machine (rw c.in-Ok-None.field-0-is at c.in-Ok-None.ensures)

pub returns-in-Ok-Some-clause-begins : goal.returns-in-Ok-Some-clause-begins
returns-in-Ok-Some-clause-begins c =
    let tried : IsTurnedDown c.args.side.now.number c.in-Some.call.now c.args.machine.now c.in-Ok-Some.refusal × (c.try_begin.new.machine ≡ c.args.machine.now) = rw c.in-Ok-Some.field-0-is at c.in-Ok-Some.ensures in
    begin_full c.args.side.now c.requires.kept c.args.machine.now c.requires.connection c.in-Some.call.now (sym c.in-Some.ensures) c.requires.there (search rules) (search rules) c.try_begin.new.machine c.in-Ok-Some.refusal tried.0 tried.1
