use Rattle.std.proofs.Common.{◌≡◌, drop}
use Rattle.program_model.specs.Touched.{keys_put}
use Rattle.stub_simulation.proofs.traces.put_keys.Given as goal

abbrev pub invariant-loop-key : goal.invariant-loop-key
invariant-loop-key l = keys_put l.keys (drop l.key-index l.more) ≡ keys_put l.initial.keys l.more
