use Rattle.std.proofs.Common.{◌≡◌, ◌++◌, map, drop}
use Rattle.ejson_value.specs.View.{views}
use Rattle.ejson_codec.specs.Lines.{line_text}
use Rattle.generated_work.proofs.generating.put_texts.Given as goal

abbrev pub invariant-loop-value : goal.invariant-loop-value
invariant-loop-value l = l.lines ++ map line_text (views (drop l.value-index l.values)) ≡ l.initial.lines ++ map line_text (views l.values)
