use Rattle.std.proofs.Common.{sym, subst}
use Rattle.world_news_laws.specs.multiplexer.LongerLaws.{nothing_told_yet}
use Rattle.world_news_laws.specs.multiplexer.Telling.{ANews, AreTold}
use Rattle.world_news_laws.specs.Sources.{cursors_at_of}
use Rattle.multiplexer_tests.proofs.once.ask_new_twice.Goals as goal

pub ask_twice-requires-clause-told : goal.ask_twice-requires-clause-told
ask_twice-requires-clause-told g c =
    subst (λ (news : ANews). AreTold (cursors_at_of c.args.app.now) c.args.machine.now news) (sym c.new-multiplexer.ensures)
    (nothing_told_yet (cursors_at_of c.args.app.now) c.args.machine.now)
