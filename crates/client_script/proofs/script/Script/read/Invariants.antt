use Rattle.std.proofs.Common.{◌≡◌, length, map, take, Some}
use Rattle.ejson_value.specs.View.{views}
use Rattle.client_script.specs.Lines.{line_in}
use Rattle.client_script.proofs.script.Script.read.Given as goal

abbrev pub invariant-loop-value : goal.invariant-loop-value
invariant-loop-value l = record {
  lines : map line_in (views (take l.value-index l.value-items)) ≡ map Some l.lines;
  count : length l.lines ≡ l.value-index;
}
