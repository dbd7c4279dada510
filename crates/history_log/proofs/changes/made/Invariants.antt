use Rattle.std.proofs.Common.{◌≡◌, drop}
use Rattle.map_model.specs.Changes.{changed}
use Rattle.ejson_value.specs.Changes.{changes_of}
use Rattle.ejson_value.specs.Key.{key_cmp}
use Rattle.history_log.specs.Log.{changes_in, rows_by}
use Rattle.history_log.proofs.changes.made.Given as goal

abbrev pub invariant-loop-one : goal.invariant-loop-one
invariant-loop-one l = changed key_cmp l.rows (changes_of (changes_in (drop l.one-index l.logged))) ≡ rows_by (changes_in l.logged)
