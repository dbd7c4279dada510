use Rattle.std.proofs.Common.{◌≡◌, ◌++◌, map, take, drop}
use Rattle.connection.specs.Printed.{out_text, texts_in}
use Rattle.connection.proofs.texts.push_texts.Given as goal

abbrev pub invariant-loop-turn : goal.invariant-loop-turn
invariant-loop-turn l = record {
  left : drop l.place (texts_in l.sent l.session) ≡ drop l.turn (drop l.fn.place (texts_in l.sent l.session));
  lines : l.lines ≡ l.fn.lines ++ map out_text (take l.turn (drop l.fn.place (texts_in l.sent l.session)));
}
