use Rattle.std.proofs.Common.{sym, subst}
use Rattle.world_news_laws.specs.multiplexer.LongerLaws.{nothing_told_yet}
use Rattle.world_news_laws.specs.multiplexer.Telling.{ANews}
use Rattle.world_news_laws.specs.Sources.{cursors_at_of}
use Rattle.shared_store.specs.Store.{over}
use Rattle.shared_multiplexer.specs.Told.{AreTheirs}
use Rattle.shared_multiplexer.proofs.held.HeldMultiplexer.make.Goals as goal

pub invariant_of-result : goal.invariant_of-result
invariant_of-result g c =
    let app = g.N.StoreName.app in
    subst (λ (news : ANews). AreTheirs app (record { news = news; list = c.args.pass })) (sym c.new-multiplexer.ensures) (nothing_told_yet (cursors_at_of app) (over app c.args.pass))
