use Rattle.std.proofs.Common.{◌∷◌, [], ◌++◌, ap, sym, subst, ◌∙◌}
use Rattle.map_model.specs.Maps.{IsSorted}
use Rattle.value_model.specs.Order.{text_cmp}
use Rattle.merge_model.specs.Kept.{claimed}
use Rattle.ejson_value.specs.View.{view}
use Rattle.ejson_value.specs.Key.{name_order}
use Rattle.kept_document.proofs.Walks.{walk_on, walk_put, walk_pass}
use Rattle.kept_document.proofs.shared.Shared.fields_by.Goals as goal

pub loop-name-preserved-in-None-claim_of : goal.loop-name-preserved-in-None-claim_of
loop-name-preserved-in-None-claim_of c =
    let walk = c.loop-name.invariant in
    let name = c.in-Some.name.now in
    let claims = c.in-Some.claims.now in
    let rest = c.next.new.self in
    let all = c.into_iter-name-iterator.result in
    record {
      can_next = tt;
      is_finite = tt;
      done = walk.done ++ (name, claims) ∷ [];
      whole = walk_on all walk.done (name, claims) c.loop-name.name-iterator rest walk.whole c.in-Some.ensures.steps;
      made = walk_pass name_order (λ f cs. claimed c.args.sub cs) all walk.done name claims rest c.loop-name.doc (walk.whole ∙ ap (λ l. walk.done ++ l) c.in-Some.ensures.steps) walk.made (sym c.in-None-claim_of.ensures);
    }

pub loop-name-preserved : goal.loop-name-preserved
loop-name-preserved c =
    let walk = c.loop-name.invariant in
    let name = c.in-Some.name.now in
    let claims = c.in-Some.claims.now in
    let rest = c.next.new.self in
    let all = c.into_iter-name-iterator.result in
    let sorted = subst (λ es. IsSorted text_cmp es) (sym (c.into_iter-name-iterator.ensures.into_iter_gives ∙ c.iter-name-items.ensures.rest)) c.iter-name-items.ensures.ordered in
    record {
      can_next = tt;
      is_finite = tt;
      done = walk.done ++ (name, claims) ∷ [];
      whole = walk_on all walk.done (name, claims) c.loop-name.name-iterator rest walk.whole c.in-Some.ensures.steps;
      made = c.in_ok-put_copy-in-Some-claim_of.ensures
          ∙ walk_put name_order (λ f cs. claimed c.args.sub cs) all walk.done name claims rest c.loop-name.doc (walk.whole ∙ ap (λ l. walk.done ++ l) c.in-Some.ensures.steps) walk.made (view c.in-Some-claim_of.value.now) sorted
          (sym c.in-Some-claim_of.ensures);
    }
