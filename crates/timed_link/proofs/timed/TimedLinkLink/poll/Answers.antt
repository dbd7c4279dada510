use Rattle.std.specs.Prelude.{refl}
use Rattle.std.proofs.Common.{sym, ◌∙◌, rules}
use Rattle.timed_link.proofs.Polling.{no_moments, polled_again, polled_without, polled_text, polled_closed, polled_failed, polled_memory, polled_quiet, polled_over, polled_answered}
use Rattle.timed_link.proofs.timed.TimedLinkLink.poll.Goals as goal

pub returns-then-is_some-clause-made : goal.returns-then-is_some-clause-made
returns-then-is_some-clause-made g c = rw (← c.self.view_is) (polled_again g.L.Link.steps g.C.Clock.told _ (sym c.is_some.ensures ∙ c.if-is_some.true))

pub returns-in_default-clause-made : goal.returns-in_default-clause-made
returns-in_default-clause-made g c = rw (← c.self.view_is) (polled_without g.L.Link.steps g.C.Clock.told _)

pub returns-in-Message-clause-made : goal.returns-in-Message-clause-made
returns-in-Message-clause-made g c =
    rw (← c.self.view_is) (polled_text g.L.Link.steps g.C.Clock.told _ _ c.now-now.result c.now-now.ensures (no_moments _ (sym c.is_some.ensures ∙ c.if-is_some.false)) c.in-Message.heard c.in-Message.ensures.made c.self.invariant.1 (search rules))

pub returns-in-Nothing-clause-made : goal.returns-in-Nothing-clause-made
returns-in-Nothing-clause-made g c =
    let none = no_moments _ (sym c.is_some.ensures ∙ c.if-is_some.false) in
    rw (← c.self.view_is) (polled_quiet g.L.Link.steps g.C.Clock.told _ _ c.poll.new.self c.now-now.result c.now-now.ensures c.in-Quiet.ensures.made none c.ask.ensures.ticked (sym c.in-Nothing.ensures.answer) none refl)

pub returns-in-Ping-clause-made : goal.returns-in-Ping-clause-made
returns-in-Ping-clause-made g c =
    let none = no_moments _ (sym c.is_some.ensures ∙ c.if-is_some.false) in
    rw (← c.self.view_is) (polled_answered g.L.Link.steps g.C.Clock.told _ _ c.poll.new.self c.now-now.result c.now-now.ensures c.in-Quiet.ensures.made none c.ask.ensures.ticked
    c.in-Ok.text c.send.result c.answered.result c.answered.ensures (sym c.in-Ping.ensures.answer) none c.in-Ok.ensures c.send.ensures.made)

pub returns-in-Close-clause-made : goal.returns-in-Close-clause-made
returns-in-Close-clause-made g c =
    let none = no_moments _ (sym c.is_some.ensures ∙ c.if-is_some.false) in
    rw (← c.self.view_is) (polled_over g.L.Link.steps g.C.Clock.told _ _ c.poll.new.self c.now-now.result c.now-now.ensures c.in-Quiet.ensures.made none c.ask.ensures.ticked c.in-Close.pinged c.in-Close.now (sym c.in-Close.ensures.answer) refl refl)

pub returns-in-Closed-clause-made : goal.returns-in-Closed-clause-made
returns-in-Closed-clause-made g c = rw (← c.self.view_is) (polled_closed g.L.Link.steps g.C.Clock.told _ _ c.now-now.result c.now-now.ensures (no_moments _ (sym c.is_some.ensures ∙ c.if-is_some.false)) c.in-Closed.ensures.made refl)

pub returns-in-Failed-clause-made : goal.returns-in-Failed-clause-made
returns-in-Failed-clause-made g c = rw (← c.self.view_is) (polled_failed g.L.Link.steps g.C.Clock.told _ _ c.now-now.result c.now-now.ensures (no_moments _ (sym c.is_some.ensures ∙ c.if-is_some.false)) c.in-Failed.ensures.made refl)

pub returns-in-Memory-clause-made : goal.returns-in-Memory-clause-made
returns-in-Memory-clause-made g c = rw (← c.self.view_is) (polled_memory g.L.Link.steps g.C.Clock.told _ _ c.now-now.result c.now-now.ensures (no_moments _ (sym c.is_some.ensures ∙ c.if-is_some.false)) c.in-Memory.ensures.made refl)
