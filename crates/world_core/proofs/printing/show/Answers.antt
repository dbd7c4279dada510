use Rattle.std.proofs.Common.{◌∙◌}
use Rattle.world_core.specs.Kept.{seen}
use Rattle.world_core.proofs.ShowingLemmas.{shows, nobody_shows}
use Rattle.world_core.proofs.printing.show.Goals as goal

pub returns-in_ok-show_lines-in-Some : goal.returns-in_ok-show_lines-in-Some
returns-in_ok-show_lines-in-Some c =
    shows (seen c.args.inside.now) c.requires c.args.client.now c.in-Some.connection.now c.in-Some.ensures.value c.of.result (c.of.ensures ∙ c.in_ok-show_lines-in-Some.ensures)

pub returns-in-None : goal.returns-in-None
returns-in-None c = nobody_shows (seen c.args.inside.now) c.requires c.args.client.now c.in-None.ensures.value c.asked.result c.asked.ensures
