use Rattle.std.specs.Prelude.{◌≡◌, refl}
use Rattle.std.proofs.Common.{ap, sym, subst, ◌∙◌}
use Rattle.map_model.specs.Maps.{at, union}
use Rattle.value_model.specs.Order.{text_cmp}
use Rattle.lanes.specs.Lanes.{Named, IsWritten, AreLanes}
use Rattle.lanes.specs.UnionsLaws.{is_in_right, visit_left, visit_right}
use Rattle.lanes.proofs.Puts.{same_left}
use Rattle.lanes.proofs.both.BothLanes.get_mut.Goals as goal

pub invariant_of-self-lent : goal.invariant_of-self-lent
invariant_of-self-lent g c = λ lent.
    let one = c.self.inside.one in
    let other = g.B.Lanes.values c.self.inside.other in (
      (λ w. (visit_left (λ x y r. y ≡ w) tt one (c.get_mut.follows.lender w) other c.args.name.now tt (sym c.has.ensures ∙ c.if-has.true) (c.get_mut.follows.holds w) c.self.invariant).lanes),
      subst (λ (m : Named g.row.X.Denot). AreLanes m other) (sym c.get_mut.follows.holds-at-none) c.self.invariant,
    )

pub invariant_of-self-lent-else-has : goal.invariant_of-self-lent-else-has
invariant_of-self-lent-else-has g c = λ lent.
    let values = g.B.Lanes.values in
    let one = c.self.inside.one in
    let other = values c.self.inside.other in (
      (λ w. (visit_right (λ x y r. y ≡ w) tt one other (values (c.get_mut-else-has.follows.lender w)) c.args.name.now tt (sym c.has.ensures ∙ c.if-has.false) (c.get_mut-else-has.follows.holds w) c.self.invariant).lanes),
      subst (λ (m : Named g.row.X.Denot). AreLanes one m) (sym c.get_mut-else-has.follows.holds-at-none) c.self.invariant,
    )

pub returns-then-has : goal.returns-then-has
returns-then-has g c =
    let name = c.args.name.now in
    let one = c.self.inside.one in
    let other = g.B.Lanes.values c.self.inside.other in
    let there = sym c.has.ensures ∙ c.if-has.true in (
      (
        refl,
        (λ w.
            subst (λ (m : Named g.row.X.Denot). IsWritten m name w (union text_cmp (c.get_mut.follows.lender w) other)) c.self.view_is
            (visit_left (λ x y r. y ≡ w) tt one (c.get_mut.follows.lender w) other name tt there (c.get_mut.follows.holds w) c.self.invariant).visit),
        ap (λ (m : Named g.row.X.Denot). union text_cmp m other) c.get_mut.follows.holds-at-none ∙ c.self.view_is,
      ),
      record { written = tt; value = c.get_mut.ensures.value ∙ (same_left one other name there ∙ ap (λ (m : Named g.row.X.Denot). at text_cmp m name) c.self.view_is) },
    )

pub returns-else-has : goal.returns-else-has
returns-else-has g c =
    let values = g.B.Lanes.values in
    let name = c.args.name.now in
    let one = c.self.inside.one in
    let other = values c.self.inside.other in
    let free = sym c.has.ensures ∙ c.if-has.false in (
      (
        refl,
        (λ w.
            subst (λ (m : Named g.row.X.Denot). IsWritten m name w (union text_cmp one (values (c.get_mut-else-has.follows.lender w)))) c.self.view_is
            (visit_right (λ x y r. y ≡ w) tt one other (values (c.get_mut-else-has.follows.lender w)) name tt free (c.get_mut-else-has.follows.holds w) c.self.invariant).visit),
        ap (λ (m : Named g.row.X.Denot). union text_cmp one m) c.get_mut-else-has.follows.holds-at-none ∙ c.self.view_is,
      ),
      record { written = tt; value = c.get_mut-else-has.ensures.value ∙ (sym (is_in_right one other name free) ∙ ap (λ (m : Named g.row.X.Denot). at text_cmp m name) c.self.view_is) },
    )
