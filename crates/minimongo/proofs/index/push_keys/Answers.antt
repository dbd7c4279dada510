use Rattle.std.proofs.Common.{◌∙◌}
use Rattle.minimongo.proofs.Listing.{key_pushed}
use Rattle.minimongo.proofs.index.push_keys.Goals as goal

pub loop-key-preserved : goal.loop-key-preserved
loop-key-preserved c = λ k.
    key_pushed c.args.keys.now c.loop-key.key-index c.key-item.result c.in_ok-copy.field-0 c.loop-key.all.items c.push.new.self.items c.key-item.is c.loop-key-test.true c.in_ok-copy.ensures c.in_ok-push.ensures.items k
    ∙ c.loop-key.invariant k
