use Rattle.std.proofs.Common.{Bool, true, refl, sym, subst, ◌∙◌}
use Rattle.stub_simulation.specs.Drafts.{IsFollowedIf}
use Rattle.stub_simulation.proofs.steps.follow.Goals as goal

pub returns-then-not-is_taken : goal.returns-then-not-is_taken
returns-then-not-is_taken c = record {
  totals = c.in_ok-totals.totals;
  are = record { documents = c.in_ok-totals.ensures.documents; bytes = c.in_ok-totals.ensures.bytes };
  follows = subst (λ (b : Bool). IsFollowedIf b c.args.step.now c.args.effect.now c.in_ok-totals.totals c.args.draft.now (record c.args.draft.now { is_over = true })) (sym c.if-not-is_taken.true ∙ c.is_taken.ensures) refl;
}

pub returns : goal.returns
returns c = record {
  totals = c.in_ok-totals.totals;
  are = record { documents = c.in_ok-totals.ensures.documents; bytes = c.in_ok-totals.ensures.bytes };
  follows = subst (λ (b : Bool). IsFollowedIf b c.args.step.now c.args.effect.now c.in_ok-totals.totals c.args.draft.now c.take.new.self) (sym c.if-not-is_taken.false ∙ c.is_taken.ensures) (record {
    keys = c.in_ok-take.ensures.changed;
    touched = c.in_ok-take.ensures.touched;
    left = c.in_ok-take.ensures.left;
    totals = c.in_ok-take.ensures.totals;
    made = c.in_ok-take.ensures.made;
    over = c.in_ok-take.ensures.over;
  });
}
