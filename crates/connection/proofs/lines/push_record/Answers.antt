use Rattle.std.proofs.Common.{subst, sym, ◌∷◌, [], replicate}
use Rattle.session_state.specs.declared.journal.Line.{Line}
use Rattle.std.specs.Prelude.{List}
use Rattle.connection.specs.Printed.{Prints}
use Rattle.connection.proofs.PrintingLemmas.{none_prints, prints_on, replicate_next}
use Rattle.connection.proofs.lines.push_record.Goals as goal

pub loop-turn-init : goal.loop-turn-init
loop-turn-init c = none_prints c.args.session.now c.args.sent.now c.args.place.now c.args.lines.now

pub loop-turn-preserved : goal.loop-turn-preserved
loop-turn-preserved c =
    let s = c.args.session.now in
    let sent = c.args.sent.now in
    let l = c.args.line.now in
    let n = c.loop-turn.turn in
    subst (λ (ls : List Line). Prints s sent ls c.args.place.now c.push_item.new.place c.args.lines.now c.push_item.new.lines) (sym (replicate_next n l))
    (prints_on s sent (replicate n l) (l ∷ []) c.args.place.now c.loop-turn.place c.push_item.new.place c.args.lines.now
    c.loop-turn.lines c.push_item.new.lines c.loop-turn.invariant c.in_ok-push_item.ensures)
