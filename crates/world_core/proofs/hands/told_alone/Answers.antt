use Rattle.world_core.proofs.Told.{no_news}
use Rattle.world_core.proofs.hands.told_alone.Goals as goal

pub told_in_turn-requires-clause-news : goal.told_in_turn-requires-clause-news
told_in_turn-requires-clause-news c = no_news c.args.machine.now c.new-news.result c.new-news.ensures
