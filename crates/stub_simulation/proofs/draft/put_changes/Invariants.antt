use Rattle.std.proofs.Common.{◌≡◌, drop}
use Rattle.map_model.specs.Changes.{changed}
use Rattle.ejson_value.specs.Key.{key_cmp}
use Rattle.ejson_value.specs.Changes.{changes_of}
use Rattle.stub_simulation.proofs.draft.put_changes.Given as goal

abbrev pub invariant-loop-change : goal.invariant-loop-change
invariant-loop-change l = changed key_cmp l.left (changes_of (drop l.change-index l.changes)) ≡ changed key_cmp l.initial.left (changes_of l.changes)
