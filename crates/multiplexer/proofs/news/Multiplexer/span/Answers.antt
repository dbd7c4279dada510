use Rattle.std.proofs.Common.{◌+◌}
use Rattle.multiplexer.specs.LendingLaws.{asked_leads}
use Rattle.multiplexer.proofs.news.Multiplexer.span.Goals as goal

pub returns-in_ok-lent-in-Some-clause-told : goal.returns-in_ok-lent-in-Some-clause-told
returns-in_ok-lent-in-Some-clause-told g c = λ cursors_at m are told source.
    let lent = c.in_ok-lent-in-Some.lent in
    asked_leads c.args.sub.now.cursors m c.args.from (c.args.from + c.args.count) lent.span (c.in_ok-lent-in-Some.ensures.told cursors_at m are told source).asked
