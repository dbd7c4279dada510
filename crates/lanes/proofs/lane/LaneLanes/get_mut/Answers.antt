use Rattle.std.specs.Prelude.{refl}
use Rattle.std.proofs.Common.{ap, subst, ◌∙◌}
use Rattle.map_model.specs.Maps.{at}
use Rattle.value_model.specs.Order.{text_cmp}
use Rattle.lanes.specs.Lanes.{Named, IsWritten}
use Rattle.lanes.specs.LentLaws.{lent}
use Rattle.lanes.proofs.lane.LaneLanes.get_mut.Goals as goal

pub returns : goal.returns
returns g c =
    let name = c.args.name.now in
    let old = c.self.inside.values.entries in (
      (
        refl,
        (λ w.
            let holds = c.get_mut.follows.holds w in
            subst (λ (m : Named g.row.X.Denot). IsWritten m name w (c.get_mut.follows.lender w).entries) c.self.view_is
            (lent old (c.get_mut.follows.lender w).entries name w c.self.invariant holds.4 holds.0 (λ there. (holds.3 there).0))),
        ap (λ m. m.entries) c.get_mut.follows.holds-at-none ∙ c.self.view_is,
      ),
      record { written = tt; value = c.get_mut.ensures.value ∙ ap (λ (m : Named g.row.X.Denot). at text_cmp m name) c.self.view_is },
    )
