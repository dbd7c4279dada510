use Rattle.operation_reading.proofs.TellLaws.{some_told}
use Rattle.operation_reading.proofs.told.operation_told.Goals as goal

pub returns-in-Ok-read_line : goal.returns-in-Ok-read_line
returns-in-Ok-read_line c = some_told c.args.line.now c.in-Ok.reader c.in-Ok-read_line.operation c.in-Ok.ensures.ok c.in-Ok-read_line.ensures
