use Rattle.stub_simulation.specs.KeySets.{keys_held}
use Rattle.stub_simulation.proofs.KeyRows.{stays_rising}
use Rattle.stub_simulation.proofs.key_set.KeySet.put.Goals as goal

pub invariant_of-self : goal.invariant_of-self
invariant_of-self c = stays_rising c.put.result (keys_held c.self.inside.held) (keys_held c.put.new.self) c.args.key.now c.self.invariant c.put.ensures.ok c.put.ensures.err
