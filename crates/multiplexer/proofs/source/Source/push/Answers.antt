use Rattle.std.proofs.Common.{map, arith}
use Rattle.std.proofs.lemmas.List.{length-map}
use Rattle.std.specs.Arc.{arc_value}
use Rattle.multiplexer.specs.Inside.{seen_entry}
use Rattle.multiplexer.proofs.Weights.{counted_few, counted_little}
use Rattle.multiplexer.proofs.source.Source.push.Goals as goal

pub overflow_add-self : goal.overflow_add-self
overflow_add-self c =
    let ones = c.self.inside.ones.items in
    omega (arith, c.self.invariant.counted, c.self.invariant.few, counted_few (map seen_entry ones), length-map ones seen_entry, c.counted-bytes.ensures, counted_little (arc_value c.args.told.news))
