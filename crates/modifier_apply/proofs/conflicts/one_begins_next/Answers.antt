use Rattle.std.proofs.Common.{◌≡◌, true, ◌∷◌, ◌||◌, sym, ap, ◌∙◌}
use Rattle.modifier_apply.specs.Modified.{is_prefix}
use Rattle.modifier_apply.specs.Neighbours.{begins_next}
use Rattle.modifier_apply.proofs.Neighbours.{conflicts-in_order}
use Rattle.modifier_apply.proofs.conflicts.one_begins_next.Goals as goal

pub returns-then-is_prefix : goal.returns-then-is_prefix
returns-then-is_prefix c =
    let begins : is_prefix c.loop-next.path.now c.in-Some-next.next.now ≡ true = cc in
    sym (conflicts-in_order c.args.paths.now.keys c.iter-others.ensures.ordered
    ∙ (sym c.loop-next.invariant.2
    ∙ (ap (λ others. begins_next (c.loop-next.path.now ∷ others)) c.in-Some-next.ensures.steps
    ∙ ap (λ b. b || begins_next (c.in-Some-next.next.now ∷ c.next-in-loop-next.new.self)) begins)))

pub returns : goal.returns
returns c =
    sym (conflicts-in_order c.args.paths.now.keys c.iter-others.ensures.ordered
    ∙ (sym c.loop-next.invariant.2
    ∙ ap (λ others. begins_next (c.loop-next.path.now ∷ others)) c.in-None.ensures.steps.0))
