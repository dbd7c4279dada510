use Rattle.std.proofs.Common.{refl, ◌∙◌}
use Rattle.world_news_laws.specs.Sources.{cursors_at_of}
use Rattle.world_core.proofs.TellingLemmas.{advanced_in}
use Rattle.world_core.proofs.showing.advance_alone.Goals as goal

pub returns-in_err-batch-clause-keeps : goal.returns-in_err-batch-clause-keeps
returns-in_err-batch-clause-keeps c = c.batch.ensures.told (cursors_at_of c.args.machine.now.app) c.args.machine.now refl c.requires.news

pub returns-clause-keeps : goal.returns-clause-keeps
returns-clause-keeps c = c.batch.ensures.told (cursors_at_of c.args.machine.now.app) c.args.machine.now refl c.requires.news

pub returns-clause-advances : goal.returns-clause-advances
returns-clause-advances c =
    advanced_in c.args.machine.now c.args.connection.now c.advance_over.new.self c.args.sub c.args.count c.requires.few c.args.from c.deref.result.now
    (c.deref.ensures ∙ c.in_ok-batch.ensures.batch (cursors_at_of c.args.machine.now.app) c.args.machine.now refl c.requires.news) c.requires.is c.requires.within c.advance_over.result c.advance_over.ensures
