use Rattle.std.specs.Prelude.{Option, IfSome}
use Rattle.std.proofs.Common.{◌+◌, refl, subst}
use Rattle.world_news_laws.specs.multiplexer.Spans.{HasItsSource, IsLent}
use Rattle.world_news_laws.specs.multiplexer.declared.news.Lent.{Lent}
use Rattle.world_news_laws.specs.Sources.{cursors_at_of}
use Rattle.multiplexer_tests.proofs.once.ask_twice.Goals as goal

pub ask_again-requires-clause-source : goal.ask_again-requires-clause-source
ask_again-requires-clause-source g c = subst (λ (o : Option Lent). IfSome o (HasItsSource c.span.new.self.sources)) c.in-Some.is c.in_ok-lent.ensures.source

pub ask_again-requires-clause-lent : goal.ask_again-requires-clause-lent
ask_again-requires-clause-lent g c =
    subst (λ (o : Option Lent). IfSome o (IsLent c.args.machine.now c.args.sub.now c.args.from (c.args.from + 1))) c.in-Some.is
    (c.in_ok-lent.ensures.lent (cursors_at_of c.args.app.now) c.args.machine.now refl c.requires.told c.requires.source)

pub returns-in-Some : goal.returns-in-Some
returns-in-Some g c = rw c.ask_again.ensures (c.span.ensures.ticks (cursors_at_of c.args.app.now) c.args.machine.now refl c.requires.source)

pub returns-in-None : goal.returns-in-None
returns-in-None g c = c.span.ensures.ticks (cursors_at_of c.args.app.now) c.args.machine.now refl c.requires.source

pub returns-in_err-lent : goal.returns-in_err-lent
returns-in_err-lent g c = c.span.ensures.ticks (cursors_at_of c.args.app.now) c.args.machine.now refl c.requires.source
