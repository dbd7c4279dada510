use Rattle.std.proofs.Common.{◌≡◌, ◌++◌, map}
use Rattle.ejson_codec.specs.Lines.{doc_line}
use Rattle.client_model.specs.Lines.{line_texts}
use Rattle.client_core.proofs.lines.push_docs.Given as goal

abbrev pub invariant-loop-key : goal.invariant-loop-key
invariant-loop-key l = record {
  can_next : goal.iterator-loop-key.can_next l.key-iterator;
  is_finite : goal.iterator-loop-key.is_finite l.key-iterator;
  left : l.lines ++ line_texts (map doc_line l.key-iterator) ≡ l.initial.lines ++ line_texts (map doc_line l.initial.key-iterator);
}
