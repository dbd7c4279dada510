use Rattle.ejson_value.specs.View.{view}
use Rattle.ejson_value.proofs.Built.{pushed}
use Rattle.ejson_value.proofs.building.ItemsBuilder.push.Goals as goal

pub invariant_of-self : goal.invariant_of-self
invariant_of-self c = pushed c.put_behind.result _ _ (view c.args.value) c.put_behind.ensures.ok c.put_behind.ensures.err c.self.invariant c.known.ensures
