use Rattle.std.proofs.Common.{◌∙◌}
use Rattle.minimongo.proofs.Holding.{forget_next, forget_end}
use Rattle.minimongo.proofs.originals.Originals.forget.Goals as goal

pub loop-method-preserved : goal.loop-method-preserved
loop-method-preserved c = λ k.
    forget_next c.args.methods.now c.loop-method.method-index c.loop-method.self c.forget_one.new.self c.loop-method-test.true c.forget_one.ensures k
    ∙ c.loop-method.invariant k

pub returns : goal.returns
returns c = forget_end c.args.methods.now c.loop-method.method-index c.args.self.now c.loop-method.self c.loop-method-test.false c.known.ensures.held c.loop-method.invariant
