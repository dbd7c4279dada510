use Rattle.kept_document.proofs.Alone.{held_alone}
use Rattle.kept_document.proofs.held.Held.one.Goals as goal

pub invariant_of-result : goal.invariant_of-result
invariant_of-result c = held_alone c.args.sub c.args.doc c.known.ensures.names
