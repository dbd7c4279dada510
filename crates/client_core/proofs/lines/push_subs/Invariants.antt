use Rattle.std.proofs.Common.{◌≡◌, ◌++◌, map}
use Rattle.client_model.specs.Lines.{sub_line, line_texts}
use Rattle.client_core.proofs.lines.push_subs.Given as goal

abbrev pub invariant-loop-id : goal.invariant-loop-id
invariant-loop-id l = record {
  can_next : goal.iterator-loop-id.can_next l.id-iterator;
  is_finite : goal.iterator-loop-id.is_finite l.id-iterator;
  left : l.lines ++ line_texts (map sub_line l.id-iterator) ≡ l.initial.lines ++ line_texts (map sub_line l.initial.id-iterator);
}
