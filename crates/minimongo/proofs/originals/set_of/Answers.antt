use Rattle.std.proofs.Common.{◌∙◌}
use Rattle.minimongo.proofs.Listing.{number_next}
use Rattle.minimongo.proofs.originals.set_of.Goals as goal

pub loop-number-preserved : goal.loop-number-preserved
loop-number-preserved c = λ n. number_next c.args.numbers.now c.loop-number.number-index c.loop-number.set c.insert.new.self c.loop-number-test.true c.in_ok-_new.ensures.updates.0 n ∙ c.loop-number.invariant n
