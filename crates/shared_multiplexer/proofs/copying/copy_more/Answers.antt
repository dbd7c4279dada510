use Rattle.std.specs.Prelude.{◌≡◌, ◌+◌, true, refl}
use Rattle.std.proofs.Common.{◌∙◌, arith, rules}
use Rattle.shared_multiplexer.proofs.Lists.{prefix_same, prefix_then}
use Rattle.shared_multiplexer.proofs.copying.copy_more.Goals as goal

pub loop-init : goal.loop-init
loop-init g c = record { grows = prefix_same c.args.pass.now; are = c.requires; begins = refl; counts = omega arith }

pub loop-preserved : goal.loop-preserved
loop-preserved g c =
    let more = c.in_ok-some.ensures.more (search rules) in
    record {
      grows = prefix_then c.args.pass.now c.loop.pass c.copy_next.new.pass c.loop.invariant.grows c.copy_next.ensures.grows;
      are = c.copy_next.ensures.are;
      begins = more.begins ∙ c.loop.invariant.begins;
      counts = omega (arith, more.more, c.loop.invariant.counts);
    }

pub returns-in_err-some-clause-grows : goal.returns-in_err-some-clause-grows
returns-in_err-some-clause-grows g c = prefix_then c.args.pass.now c.loop.pass c.copy_next.new.pass c.loop.invariant.grows c.copy_next.ensures.grows

pub returns-then-not-some-clause-grows : goal.returns-then-not-some-clause-grows
returns-then-not-some-clause-grows g c = prefix_then c.args.pass.now c.loop.pass c.copy_next.new.pass c.loop.invariant.grows c.copy_next.ensures.grows
