use Rattle.std.proofs.Common.{refl, sym, append-nil}
use Rattle.std.specs.Prelude.{drop}
use Rattle.connection.specs.Printed.{texts_in}
use Rattle.connection.proofs.PrintingLemmas.{texts_on, left_on}
use Rattle.connection.proofs.texts.push_texts.Goals as goal

pub loop-turn-init : goal.loop-turn-init
loop-turn-init c = record { left = refl; lines = sym (append-nil c.args.lines.now) }

pub loop-turn-preserved : goal.loop-turn-preserved
loop-turn-preserved c =
    let all = texts_in c.args.sent.now c.args.session.now in
    let rest = drop c.args.place.now all in
    let i = c.loop-turn.invariant in record {
      left = left_on c.loop-turn.turn rest (drop c.loop-turn.place all) (drop c.push_text.new.place all) i.left c.in_ok-push_text.ensures.left;
      lines = texts_on c.loop-turn.turn rest c.args.lines.now c.loop-turn.lines c.push_text.new.lines (drop c.loop-turn.place all) i.left i.lines c.in_ok-push_text.ensures.line;
    }
