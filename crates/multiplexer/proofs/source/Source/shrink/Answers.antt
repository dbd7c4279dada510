use Rattle.std.proofs.Common.{map, subst, arith}
use Rattle.std.proofs.lemmas.List.{length-map}
use Rattle.multiplexer.specs.Bounds.{IsSmall}
use Rattle.multiplexer.specs.Inside.{seen_entry}
use Rattle.multiplexer.proofs.Weights.{counted_light}
use Rattle.multiplexer.proofs.source.Source.shrink.Goals as goal

pub returns-clause-small : goal.returns-clause-small
returns-clause-small c =
    let ones = c.self.inside.ones.items in
    subst IsSmall c.self.view_is (record {
      few = omega (arith, length-map ones seen_entry, c.self.invariant.few);
      light = counted_light (map seen_entry ones) (omega (arith, c.self.invariant.counted, c.loop-self-test.false));
    })
