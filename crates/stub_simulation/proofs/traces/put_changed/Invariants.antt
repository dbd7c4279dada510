use Rattle.std.proofs.Common.{◌≡◌, drop}
use Rattle.program_model.specs.Touched.{keys_put}
use Rattle.stub_simulation.specs.Simulating.{changed_keys}
use Rattle.stub_simulation.proofs.traces.put_changed.Given as goal

abbrev pub invariant-loop-change : goal.invariant-loop-change
invariant-loop-change l = keys_put l.keys (changed_keys (drop l.change-index l.changes)) ≡ keys_put l.initial.keys (changed_keys l.changes)
