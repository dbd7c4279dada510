use Rattle.std.proofs.Common.{◌≡◌, drop}
use Rattle.map_model.specs.Changes.{changed}
use Rattle.ejson_value.specs.Changes.{changes_of}
use Rattle.ejson_value.specs.Key.{key_cmp}
use Rattle.history_log.proofs.changes.put_changes.Given as goal

abbrev pub invariant-loop-change : goal.invariant-loop-change
invariant-loop-change l = changed key_cmp l.rows (changes_of (drop l.change-index l.change-items)) ≡ changed key_cmp l.initial.rows (changes_of l.change-items)
