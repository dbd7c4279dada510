use Rattle.std.proofs.Common.{◌∷◌, [], ◌++◌, refl, ap, ap₂, ◌∙◌}
use Rattle.std.specs.Map.{keys_of}
use Rattle.value_model.specs.Order.{text_cmp}
use Rattle.map_model.specs.Maps.{at, keyed, filter_map_entries}
use Rattle.merge_model.specs.Kept.{merged_fields, first_value}
use Rattle.kept_document.specs.Claims.{Name, Pairs}
use Rattle.kept_document.specs.Held.{lost_of}
use Rattle.kept_document.proofs.Walks.{walk_on, walk_end, walk_keys}
use Rattle.kept_document.proofs.shared.Shared.cleared.Goals as goal

pub loop-name-preserved : goal.loop-name-preserved
loop-name-preserved c =
    let walk = c.loop-name.invariant in
    let seen = merged_fields c.args.before.now.fields in
    let name = c.in-Some.name.now in
    let claims = c.in-Some.claims.now in
    let rest = c.next.new.self in
    let all = c.into_iter-name-iterator.result in
    record {
      can_next = tt;
      is_finite = tt;
      done = walk.done ++ (name, claims) ∷ [];
      whole = walk_on all walk.done (name, claims) c.loop-name.name-iterator rest walk.whole c.in-Some.ensures.steps;
      made = c.in_ok-push_lost.ensures
          ∙ ap₂ (λ v w. c.loop-name.names ++ keys_of (keyed name (lost_of v w) [])) c.shown.ensures c.first.ensures
          ∙ walk_keys (λ f cs. lost_of (at text_cmp seen f) (first_value cs)) walk.done name claims c.loop-name.names (lost_of (at text_cmp seen name) (first_value claims)) walk.made refl;
    }

pub returns : goal.returns
returns c =
    let walk = c.loop-name.invariant in
    let seen = merged_fields c.args.before.now.fields in
    let f = λ (name : Name) (claims : Pairs). lost_of (at text_cmp seen name) (first_value claims) in
    let all = walk_end c.into_iter-name-iterator.result walk.done c.loop-name.name-iterator walk.whole c.in-None.ensures.steps.0 ∙ c.into_iter-name-iterator.ensures.into_iter_gives ∙ c.iter-name-items.ensures.rest in
    walk.made ∙ ap (λ es. keys_of (filter_map_entries f es)) all ∙ ap (λ e. keys_of (filter_map_entries f e.fields)) c.self.view_is
