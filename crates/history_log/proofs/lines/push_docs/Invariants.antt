use Rattle.std.proofs.Common.{◌≡◌, ◌++◌, map}
use Rattle.ejson_value.specs.Rows.{Rows}
use Rattle.history_model.specs.Lines.{doc_value, line_of}
use Rattle.history_log.proofs.lines.push_docs.Given as goal

abbrev pub invariant-loop-key : goal.invariant-loop-key
invariant-loop-key l =
    (goal.iterator-loop-key).can_next l.key-iterator × (goal.iterator-loop-key).is_finite l.key-iterator ×
    ((done : Rows) × (l.rows ≡ done ++ l.key-iterator) × (l.lines ≡ l.fn.lines ++ map line_of (map doc_value done)))
