use Rattle.std.proofs.Common.{◌≡◌, ◌+◌, ◌-◌, refl, subst, arith}
use Rattle.multiplexer.specs.Inside.{seen_entry}
use Rattle.multiplexer.specs.Sources.{TellsBy}
use Rattle.multiplexer.proofs.source.Source.of_ones.Goals as goal

pub returns : goal.returns
returns c = λ cursors m told.
    let all : c.args.from + (c.args.until - c.args.from) ≡ c.args.until = omega (arith, c.requires.order) in
    let tells = subst (λ n. TellsBy cursors m c.args.from n (seen_entry c.in_ok-told.told)) all (c.in_ok-told.ensures cursors m told) in
    record { begins = refl; ends = refl; is = record { order = c.requires.order; within = omega (arith, c.requires.ends, told.within); leads = tells.leads; known = tells.known } }
