use Rattle.std.proofs.Common.{◌∙◌, sym, refl}
use Rattle.duct.specs.contracts.memory_link.MemoryLink.{the_view}
use Rattle.duct.proofs.Polling.{keeps_failed, keeps_passed, polls_next, line_answers, line_next, told_polled, length-answers}
use Rattle.duct.proofs.memory_link.MemoryLinkLink.poll.Goals as goal

pub invariant_of-self : goal.invariant_of-self
invariant_of-self c =
    keeps_failed _ c.self.inside.at c.self.inside.polls.calls c.in-Some.call c.self.inside.ended c.in-Some.ensures.some.0
    (sym c.in-Some.ensures.some.1 ∙ c.if-fails.true) c.self.invariant

pub returns-then-fails-clause-answer : goal.returns-then-fails-clause-answer
returns-then-fails-clause-answer c =
    rw (← c.self.view_is, length-answers _ c.self.inside.polls.calls, ← c.in-Some.ensures.some.1, c.if-fails.true) refl

pub invariant_of-self-2 : goal.invariant_of-self-2
invariant_of-self-2 c =
    keeps_passed _ c.self.inside.at c.self.inside.polls.calls c.in-Some.call c.self.inside.ended _ c.in-Ok.answer c.in-Some.ensures.some.0
    (sym c.in-Some.ensures.some.1 ∙ c.if-fails.false) c.in-Ok.ensures c.ends-self-inside.ensures c.self.invariant

pub returns-clause-made : goal.returns-clause-made
returns-clause-made c =
    rw (← c.self.view_is) (polls_next _ _ c.in-Ok.answer c.in-Ok.ensures
    (told_polled _ _ _ _ c.self.inside.at c.self.inside.polls.calls c.in-Some.call c.in-Ok.answer c.in-Some.ensures.some.0
    (sym c.in-Some.ensures.some.1 ∙ c.if-fails.false) c.self.invariant.1 c.in-Ok.ensures))

pub returns-clause-answer : goal.returns-clause-answer
returns-clause-answer c =
    rw (← c.self.view_is) (line_answers (the_view c.self.inside) c.in-Ok.answer
    (rw (length-answers _ c.self.inside.polls.calls) (sym c.in-Some.ensures.some.1 ∙ c.if-fails.false)) c.in-Ok.ensures)

pub returns-clause-after : goal.returns-clause-after
returns-clause-after c =
    rw (
      ← c.self.view_is,
      ← line_next (the_view c.self.inside) c.in-Ok.answer c.in-Ok.ensures,
      told_polled _ _ _ _ c.self.inside.at c.self.inside.polls.calls c.in-Some.call c.in-Ok.answer c.in-Some.ensures.some.0
          (sym c.in-Some.ensures.some.1 ∙ c.if-fails.false) c.self.invariant.1 c.in-Ok.ensures,
    ) refl
