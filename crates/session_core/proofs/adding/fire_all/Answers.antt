use Rattle.std.proofs.Common.{ap, sym, subst, ◌∙◌, inl, None, refl, true≢false}
use Rattle.std.specs.Ordering.{nat_cmp}
use Rattle.std.specs.Prelude.{length, ◌<◌}
use Rattle.map_model.specs.Maps.{IsSorted}
use Rattle.map_model.specs.MapLaws.{sorted-set}
use Rattle.session_journal_laws.specs.Fired.{unfired}
use Rattle.session_core.proofs.Firing.{number_order, step_fired, fired_there, none_fired}
use Rattle.session_core.proofs.adding.fire_all.Goals as goal

pub loop-k-smaller : goal.loop-k-smaller
loop-k-smaller c = subst (λ a. length a < length c.loop-k.fences) (sym c.in-Some.ensures.taken) (fired_there c.loop-k.fences c.args.progress.now.least c.in-Some._k c.in-Some.ensures.least.can_fire)

pub loop-k-preserved : goal.loop-k-preserved
loop-k-preserved c = record {
  sorted = subst (IsSorted nat_cmp) (sym c.in-Some.ensures.taken) (sorted-set number_order c.loop-k.fences c.in-Some._k None c.loop-k.invariant.sorted);
  same = ap (unfired c.args.progress.now.opening c.args.progress.now.least) c.in-Some.ensures.taken
      ∙ (step_fired c.loop-k.fences c.args.progress.now.opening c.args.progress.now.least c.in-Some._k (λ e. true≢false (c.in-Some.ensures.none.1 (inl e))) c.loop-k.invariant.sorted c.in-Some.ensures.least.can_fire ∙ c.loop-k.invariant.same);
}

pub returns : goal.returns
returns c = c.in_default.ensures.unchanged ∙ (sym (none_fired c.loop-k.fences c.args.progress.now.opening c.args.progress.now.least c.loop-k.invariant.sorted (c.in_default.ensures.none.0 refl)) ∙ c.loop-k.invariant.same)
