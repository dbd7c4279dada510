-- The exit status of each end of a run.
use Rattle.std.specs.Prelude.{ℕ}
use Rattle.commands.specs.declared.status.Status.{Status}
use Rattle.commands.specs.declared.status.Status.TheVariants as status

abbrev pub code_of : Status → ℕ
code_of status.Ok = 0
code_of status.Usage = 2
code_of status.BadInput = 3
code_of status.ReadFault = 4
code_of status.WriteFault = 5
code_of status.TooLong = 6
code_of status.Memory = 7
code_of status.NetFault = 8
code_of status.ServerSent = 9
code_of status.Version = 10
code_of status.Closed = 11
code_of status.Timeout = 12
