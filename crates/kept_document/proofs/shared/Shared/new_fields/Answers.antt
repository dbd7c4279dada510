use Rattle.std.proofs.Common.{◌∷◌, [], ◌++◌, refl, ap, ap₂, sym, subst, ◌∙◌}
use Rattle.map_model.specs.Maps.{at, IsSorted, filter_map_entries}
use Rattle.value_model.specs.Order.{text_cmp}
use Rattle.merge_model.specs.Kept.{merged_fields, first_value}
use Rattle.kept_document.specs.Claims.{Name, Pairs}
use Rattle.ejson_value.specs.Key.{name_order}
use Rattle.kept_document.specs.Held.{put_some, new_of}
use Rattle.kept_document.proofs.Walks.{walk_on, walk_end, walk_put_some}
use Rattle.kept_document.proofs.shared.Shared.new_fields.Goals as goal

pub loop-name-preserved : goal.loop-name-preserved
loop-name-preserved c =
    let walk = c.loop-name.invariant in
    let seen = merged_fields c.args.before.now.fields in
    let name = c.in-Some.name.now in
    let claims = c.in-Some.claims.now in
    let rest = c.next.new.self in
    let all = c.into_iter-name-iterator.result in
    let sorted = subst (λ es. IsSorted text_cmp es) (sym (c.into_iter-name-iterator.ensures.into_iter_gives ∙ c.iter-name-items.ensures.rest)) c.iter-name-items.ensures.ordered in
    record {
      can_next = tt;
      is_finite = tt;
      done = walk.done ++ (name, claims) ∷ [];
      whole = walk_on all walk.done (name, claims) c.loop-name.name-iterator rest walk.whole c.in-Some.ensures.steps;
      made = c.in_ok-put_new.ensures
          ∙ ap₂ (λ v w. put_some text_cmp c.loop-name.doc name (new_of v w)) c.shown.ensures c.first.ensures
          ∙ walk_put_some name_order (λ f cs. new_of (at text_cmp seen f) (first_value cs)) all walk.done name claims rest c.loop-name.doc (new_of (at text_cmp seen name) (first_value claims)) (walk.whole ∙ ap (λ l. walk.done ++ l) c.in-Some.ensures.steps) walk.made sorted refl;
    }

pub returns : goal.returns
returns c =
    let walk = c.loop-name.invariant in
    let seen = merged_fields c.args.before.now.fields in
    let f = λ (name : Name) (claims : Pairs). new_of (at text_cmp seen name) (first_value claims) in
    let all = walk_end c.into_iter-name-iterator.result walk.done c.loop-name.name-iterator walk.whole c.in-None.ensures.steps.0 ∙ c.into_iter-name-iterator.ensures.into_iter_gives ∙ c.iter-name-items.ensures.rest in
    walk.made ∙ ap (filter_map_entries f) all
    ∙ ap (λ e. filter_map_entries f e.fields) c.self.view_is
