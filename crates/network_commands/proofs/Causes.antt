-- The causes of the statuses.
use Rattle.std.proofs.Common.{◌≡◌, ◌≢◌, Bool, true, false, refl}
use Rattle.client_script.specs.declared.end.ConsoleEnd.{ConsoleEnd}
use Rattle.client_script.specs.declared.end.ConsoleEnd.TheVariants as ended
use Rattle.client_script.specs.Ends.{is_write_fault}
use Rattle.console_run.specs.declared.timing.TimedConsole.TheVariants as timed
use Rattle.console_run.specs.Timing.{is_timed_write_fault}

pub no_write_fault : (end : ConsoleEnd) → end ≢ ended.WriteFault → is_write_fault end ≡ false
no_write_fault ended.WriteFault n = absurd (n refl)
no_write_fault _ n = refl

pub no_timed_write_fault : (end : ConsoleEnd) → end ≢ ended.WriteFault → is_timed_write_fault (timed.Ended end) ≡ false
no_timed_write_fault ended.WriteFault n = absurd (n refl)
no_timed_write_fault _ n = refl
