use Rattle.std.proofs.Common.{◌≡◌, ◌++◌, suc, drop}
use Rattle.client_model.specs.Lines.{method_lines, line_texts}
use Rattle.client_core.proofs.lines.push_calls.Given as goal

-- as many calls are told as the number says
abbrev pub invariant-loop-call : goal.invariant-loop-call
invariant-loop-call l = record {
  told : l.number ≡ l.call-index;
  left : l.lines ++ line_texts (method_lines (suc l.number) (drop l.call-index l.calls)) ≡ l.initial.lines ++ line_texts (method_lines 1 l.calls);
}
