use Rattle.std.proofs.Common.{◌+◌, sym, ◌∙◌}
use Rattle.std.specs.Arc.{arc_value}
use Rattle.world_news_laws.specs.Sources.{cursors_at_of, IsSub}
use Rattle.world_core.proofs.TellingLemmas.{sub_is, source, feeds, lends}
use Rattle.world_core.proofs.showing.told.Goals as goal

pub returns-in-Some-clause-keeps : goal.returns-in-Some-clause-keeps
returns-in-Some-clause-keeps c =
    let is : IsSub c.args.sub c.in-Some.live.now c.args.connection.now.session = sub_is c.args.sub c.subs.result.now c.in-Some.live.now c.args.connection.now.session c.subs.ensures.live c.subs.ensures.observers c.in-Some.ensures.live c.in-Some.ensures.observer in
    c.span.ensures.keeps (cursors_at_of c.args.machine.now.app) c.requires.news (source c.args.machine.now c.args.connection.now c.requires.connection c.args.sub c.in-Some.live.now is (sym c.limited.ensures ∙ c.if-not-limited.true))

pub returns-in-Some-clause-feeds : goal.returns-in-Some-clause-feeds
returns-in-Some-clause-feeds c =
    let is : IsSub c.args.sub c.in-Some.live.now c.args.connection.now.session = sub_is c.args.sub c.subs.result.now c.in-Some.live.now c.args.connection.now.session c.subs.ensures.live c.subs.ensures.observers c.in-Some.ensures.live c.in-Some.ensures.observer in
    feeds c.args.machine.now c.args.connection.now c.requires.connection c.args.sub c.in-Some.live.now is (sym c.limited.ensures ∙ c.if-not-limited.true) (λ lent. arc_value lent.span.told) c.args.from c.args.count c.requires.is c.requires.within c.span.result
    (c.span.ensures.told (cursors_at_of c.args.machine.now.app) c.requires.news (source c.args.machine.now c.args.connection.now c.requires.connection c.args.sub c.in-Some.live.now is (sym c.limited.ensures ∙ c.if-not-limited.true)))

pub returns-in-Some-clause-lent : goal.returns-in-Some-clause-lent
returns-in-Some-clause-lent c =
    let is : IsSub c.args.sub c.in-Some.live.now c.args.connection.now.session = sub_is c.args.sub c.subs.result.now c.in-Some.live.now c.args.connection.now.session c.subs.ensures.live c.subs.ensures.observers c.in-Some.ensures.live c.in-Some.ensures.observer in
    let none = sym c.limited.ensures ∙ c.if-not-limited.true in
    lends c.args.machine.now c.args.connection.now c.requires.connection c.args.sub c.in-Some.live.now is none c.args.from (c.args.from + c.args.count) c.requires.is c.span.result
    (c.span.ensures.lent (cursors_at_of c.args.machine.now.app) c.requires.news (source c.args.machine.now c.args.connection.now c.requires.connection c.args.sub c.in-Some.live.now is none))
