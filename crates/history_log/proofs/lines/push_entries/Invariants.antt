use Rattle.std.proofs.Common.{◌≡◌, ◌++◌, map, drop}
use Rattle.history_log.specs.Log.{entries_in}
use Rattle.history_model.specs.Lines.{entry_value, line_of}
use Rattle.history_log.proofs.lines.push_entries.Given as goal

abbrev pub invariant-loop-one : goal.invariant-loop-one
invariant-loop-one l = l.lines ++ map line_of (map entry_value (entries_in (drop l.one-index l.logged))) ≡ l.fn.lines ++ map line_of (map entry_value (entries_in l.logged))
