use Rattle.std.proofs.Common.{ap, sym, ◌∙◌}
use Rattle.map_model.specs.Maps.{at}
use Rattle.value_model.specs.Order.{text_cmp}
use Rattle.lanes.specs.Lanes.{Named}
use Rattle.lanes.specs.UnionsLaws.{is_in_right}
use Rattle.lanes.proofs.Puts.{same_left}
use Rattle.lanes.proofs.both.BothLanes.get.Goals as goal

pub returns-then-has : goal.returns-then-has
returns-then-has g c =
    let there = same_left c.self.inside.one (g.B.Lanes.values c.self.inside.other) c.args.name.now (sym c.has.ensures ∙ c.if-has.true) in
    record { value = c.get.ensures.value ∙ (there ∙ ap (λ (m : Named g.row.X.Denot). at text_cmp m c.args.name.now) c.self.view_is) }

pub returns-else-has : goal.returns-else-has
returns-else-has g c =
    let there = is_in_right c.self.inside.one (g.B.Lanes.values c.self.inside.other) c.args.name.now (sym c.has.ensures ∙ c.if-has.false) in
    record { value = c.get-else-has.ensures.value ∙ (sym there ∙ ap (λ (m : Named g.row.X.Denot). at text_cmp m c.args.name.now) c.self.view_is) }
