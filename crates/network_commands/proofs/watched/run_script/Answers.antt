use Rattle.std.specs.Prelude.{ℕ}
use Rattle.std.proofs.Common.{refl, sym, ap₂, subst, inl}
use Rattle.std.proofs.lemmas.List.{append-nil}
use Rattle.client_script.specs.declared.end.ConsoleEnd.{ConsoleEnd}
use Rattle.console_run.specs.declared.timing.TimedConsole.TheVariants as timed
use Rattle.commands.specs.declared.status.Status.TheVariants as status
use Rattle.network_commands.specs.Cause.{Counts, ComesTo}
use Rattle.network_commands.proofs.watched.run_script.Goals as goal

pub returns-in-Timeout-clause-talks : goal.returns-in-Timeout-clause-talks
returns-in-Timeout-clause-talks g c = inl (record {
  net = ap₂ (λ (n m : ℕ). let k : Counts = record { given = n; faults = m } in k) c.in-Ok-connect.ensures.given c.in-Ok-connect.ensures.sound;
  first = c.watch-link.result;
  last = c.console_timed.new.link;
  shown = g.O.Sink.written c.console_timed.new.output;
  end = timed.Timeout c.in-Timeout.pinged c.in-Timeout.now;
  ran = record { watched = c.watch-link.ensures.watched; ran = c.in-Timeout.ensures.ran };
  link = c.in-Timeout.ensures.link;
  told = (refl, λ now is. (now, is, append-nil now));
})

pub returns-in-WriteFault-clause-talks : goal.returns-in-WriteFault-clause-talks
returns-in-WriteFault-clause-talks g c = inl (record {
  net = ap₂ (λ (n m : ℕ). let k : Counts = record { given = n; faults = m } in k) c.in-Ok-connect.ensures.given c.in-Ok-connect.ensures.sound;
  first = c.watch-link.result;
  last = c.console_timed.new.link;
  shown = g.O.Sink.written c.console_timed.new.output;
  end = timed.Ended c.in-Ended.end;
  ran = record { watched = c.watch-link.ensures.watched; ran = c.in-Ended.ensures.ran };
  link = c.in-Ended.ensures.link;
  told =
      subst (λ (e : ConsoleEnd). ComesTo e (g.O.Sink.written c.console_timed.new.output) (g.O.Sink.written c.console_timed.new.output) status.WriteFault)
      (sym c.in-WriteFault.is) (refl, λ now is. (now, is, append-nil now));
})

pub returns-clause-talks : goal.returns-clause-talks
returns-clause-talks g c = inl (record {
  net = ap₂ (λ (n m : ℕ). let k : Counts = record { given = n; faults = m } in k) c.in-Ok-connect.ensures.given c.in-Ok-connect.ensures.sound;
  first = c.watch-link.result;
  last = c.console_timed.new.link;
  shown = g.O.Sink.written c.console_timed.new.output;
  end = timed.Ended c.in-Ended.end;
  ran = record { watched = c.watch-link.ensures.watched; ran = c.in-Ended.ensures.ran };
  link = c.in-Ended.ensures.link;
  told = c.tell_end.ensures.told;
})
