use Rattle.std.proofs.Common.{subst, sym, arith, take}
use Rattle.std.specs.Prelude.{List}
use Rattle.session_state.specs.declared.journal.Line.{Line}
use Rattle.session_state.specs.Journal.{runs}
use Rattle.session_core.specs.Lines.{lines_of}
use Rattle.connection.specs.Printed.{Prints, record_at}
use Rattle.connection.proofs.PrintingLemmas.{lines_in, none_prints, prints_on, taken_next, all_prints}
use Rattle.connection.proofs.lines.push_all.Goals as goal

pub loop-at-init : goal.loop-at-init
loop-at-init c = none_prints c.args.session.now c.args.sent.now (record { items = 0; texts = 0 }) c.args.lines.now

pub loop-at-preserved : goal.loop-at-preserved
loop-at-preserved c =
    let s = c.args.session.now in
    let sent = c.args.sent.now in
    let n = c.loop-at.at in
    subst (λ (ls : List Line). Prints s sent ls (record { items = 0; texts = 0 }) c.push_at.new.place c.args.lines.now c.push_at.new.lines) (sym (taken_next n (runs (lines_of s))))
    (prints_on s sent (lines_in (take n (runs (lines_of s)))) (record_at s n) (record { items = 0; texts = 0 }) c.loop-at.place c.push_at.new.place
    c.args.lines.now c.loop-at.lines c.push_at.new.lines c.loop-at.invariant c.in_ok-push_at.ensures)

pub returns : goal.returns
returns c = all_prints c.args.session.now c.args.sent.now c.loop-at.at c.loop-at.place c.args.lines.now c.loop-at.lines (omega (arith, c.records-at-end.ensures)) c.loop-at.invariant
