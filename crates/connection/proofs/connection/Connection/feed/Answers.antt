use Rattle.std.proofs.Common.{sym, subst}
use Rattle.ejson_value.specs.Changes.{news_of}
use Rattle.connection.specs.session_core.Known.{AreRight}
use Rattle.connection.specs.connection_laws.Connection.{AConnection}
use Rattle.connection.proofs.Stores.{feed_done, feed_refused}
use Rattle.connection.proofs.connection.Connection.feed.Goals as goal

pub returns-clause-feeds : goal.returns-clause-feeds
returns-clause-feeds c = rw (← c.self.view_is) (feed_done c.self.inside.side c.args.sub c.feed.new.self c.args.count c.args.news.now tt c.in-Ok.ensures.feeds)

pub returns-in-Err-clause-feeds : goal.returns-in-Err-clause-feeds
returns-in-Err-clause-feeds c = rw (← c.self.view_is) (feed_refused c.self.inside.side c.args.sub c.feed.new.self c.args.count c.args.news.now c.in-Err.fault c.refused.result c.in-Err.ensures.feeds c.refused.ensures)

pub returns-clause-learnt : goal.returns-clause-learnt
returns-clause-learnt c = rw (← c.self.view_is) (c.feed.ensures.learnt)

pub returns-in-Err-clause-learnt : goal.returns-in-Err-clause-learnt
returns-in-Err-clause-learnt c = rw (← c.self.view_is) (c.feed.ensures.learnt)

pub feed-requires : goal.feed-requires
feed-requires c =
    record { right = subst (λ (x : AConnection). AreRight c.args.sub x.session.carried.box (news_of c.args.news.now) c.args.known.now) (sym c.self.view_is) c.requires.right }
