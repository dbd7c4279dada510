use Rattle.std.proofs.Common.{◌+◌, ◌≤◌, refl, sym, subst, arith, length}
use Rattle.multiplexer.specs.Looks.{looks}
use Rattle.multiplexer.specs.Sources.{next_of}
use Rattle.multiplexer.proofs.Growing.{alike_then}
use Rattle.multiplexer.proofs.Counts.{filled_one, filled_all, filled_most}
use Rattle.multiplexer.proofs.source.Source.fill.Goals as goal

pub loop-self-init : goal.loop-self-init
loop-self-init g c = record {
  same = record { name = refl; params = refl };
  order = omega arith;
  kept = c.requires.kept;
  told = λ m are none told. told;
  grows = omega arith;
  most = omega arith;
  ticks = λ m are. omega arith;
}

pub loop-self-preserved : goal.loop-self-preserved
loop-self-preserved g c = record {
  same = alike_then _ _ _ c.loop-self.invariant.same c.tell.ensures.same;
  order = omega (arith, c.loop-self.invariant.order, c.in_ok-tell.ensures.next);
  kept = c.tell.ensures.first c.args.from c.loop-self.invariant.kept (omega (arith, c.loop-self-test.true, c.requires.near));
  told = λ m are none told. c.tell.ensures.told m are none (c.loop-self.invariant.told m are none told);
  grows = omega (arith, c.loop-self.invariant.grows, c.tell.ensures.grows);
  most = omega (arith, c.loop-self.invariant.order, c.in_ok-tell.ensures.next, c.loop-self-test.true);
  ticks = λ m are.
      subst (λ q. c.tell.new.steps ≤ c.args.steps.now + looks (length c.args.observer.now) m (next_of c.args.self.now) q) (sym c.in_ok-tell.ensures.next)
      (filled_one (length c.args.observer.now) m (next_of c.args.self.now) (next_of c.loop-self.self) c.args.steps.now c.loop-self.steps c.tell.new.steps c.loop-self.invariant.order (c.loop-self.invariant.ticks m are) (c.tell.ensures.ticks m are));
}

pub returns-in_err-tell-clause-kept : goal.returns-in_err-tell-clause-kept
returns-in_err-tell-clause-kept g c = c.tell.ensures.first c.args.from c.loop-self.invariant.kept (omega (arith, c.loop-self-test.true, c.requires.near))

pub returns-in_err-tell-clause-ticks : goal.returns-in_err-tell-clause-ticks
returns-in_err-tell-clause-ticks g c = λ m are.
    filled_all (length c.args.observer.now) m (next_of c.args.self.now) (next_of c.loop-self.self + 1) c.args.until c.args.steps.now c.tell.new.steps (omega (arith, c.loop-self-test.true))
    (filled_one (length c.args.observer.now) m (next_of c.args.self.now) (next_of c.loop-self.self) c.args.steps.now c.loop-self.steps c.tell.new.steps c.loop-self.invariant.order (c.loop-self.invariant.ticks m are) (c.tell.ensures.ticks m are))

pub returns-clause-ticks : goal.returns-clause-ticks
returns-clause-ticks g c = λ m are.
    filled_most (length c.args.observer.now) m (next_of c.args.self.now) (next_of c.loop-self.self) c.args.until c.args.steps.now c.loop-self.steps c.loop-self.invariant.order c.loop-self.invariant.most (c.loop-self.invariant.ticks m are)
