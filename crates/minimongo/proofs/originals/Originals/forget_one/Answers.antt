use Rattle.minimongo.proofs.Holding.{whole_left}
use Rattle.minimongo.proofs.originals.Originals.forget_one.Goals as goal

pub invariant_of-self : goal.invariant_of-self
invariant_of-self c =
    whole_left c.self.inside.saved.entries c.forget_in.new.saved.entries c.self.inside.index.entries c.forget_in.new.index.entries c.args.method c.self.invariant c.len-len.ensures.ordered c.forget_in.ensures.gone c.forget_in.ensures.others
