use Rattle.std.proofs.Common.{◌≡◌, ap, sym, subst, ◌∙◌}
use Rattle.kept_document.specs.declared.held.Change.TheVariants.{Whole}
use Rattle.kept_document.specs.Held.{alone_if, has_other}
use Rattle.kept_document.specs.Changes.{IsChange}
use Rattle.kept_document.proofs.Places.{form_on, change_grown}
use Rattle.merge_box.proofs.plan.plan_held.Goals as goal

pub tell-requires : goal.tell-requires
tell-requires c = form_on c.args.held.now c.make_places.new.self c.in_ok-change.change c.make_places.ensures.grown.same c.in_ok-change.ensures.is.form

pub returns-clause-planned : goal.returns-clause-planned
returns-clause-planned c = record {
  listed = c.in_ok-list_published.ensures.listed;
  is = change_grown c.args.sub c.args.publish.now.new c.args.held.now c.make_places.new.self c.in_ok-change.change c.make_places.ensures.grown
      (subst (λ d. IsChange c.args.sub d c.args.held.now c.in_ok-change.change) c.as_ref.ensures.value c.in_ok-change.ensures.is);
  alone = λ alone. subst (λ d. c.in_ok-change.change ≡ Whole (alone_if c.args.sub d)) c.as_ref.ensures.value
      (c.in_ok-change.ensures.alone (ap (has_other c.args.sub) (sym c.make_places.ensures.grown.same.publishers) ∙ alone));
  places = c.in_ok-make_places.ensures.room;
  told = c.in_ok-tell.ensures;
}
