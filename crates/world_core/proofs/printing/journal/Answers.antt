use Rattle.std.proofs.Common.{◌∙◌}
use Rattle.world_core.specs.Kept.{seen}
use Rattle.world_core.proofs.ShowingLemmas.{journals, nobody_journals}
use Rattle.world_core.proofs.printing.journal.Goals as goal

pub returns-in_ok-journal_lines-in-Some : goal.returns-in_ok-journal_lines-in-Some
returns-in_ok-journal_lines-in-Some c =
    journals (seen c.args.inside.now) c.requires c.args.client.now c.in-Some.connection.now c.in-Some.ensures.value c.of.result (c.of.ensures ∙ c.in_ok-journal_lines-in-Some.ensures)

pub returns-in-None : goal.returns-in-None
returns-in-None c = nobody_journals (seen c.args.inside.now) c.requires c.args.client.now c.in-None.ensures.value c.asked.result c.asked.ensures
