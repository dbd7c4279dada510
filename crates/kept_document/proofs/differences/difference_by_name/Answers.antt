use Rattle.std.proofs.Common.{◌∷◌, [], ◌++◌, refl, ap, ◌∙◌, option_map}
use Rattle.std.specs.Map.{keys_of}
use Rattle.value_model.specs.Val.{Val}
use Rattle.value_model.specs.Order.{text_cmp}
use Rattle.map_model.specs.Maps.{filter_map_entries}
use Rattle.ejson_value.specs.View.{view}
use Rattle.ejson_value.specs.Key.{name_order}
use Rattle.kept_document.specs.Claims.{Name}
use Rattle.kept_document.specs.Held.{new_of, lost_of}
use Rattle.kept_document.specs.Sides.{Both, side_by_side, pairs_left}
use Rattle.kept_document.proofs.Beside.{sorted-side_by_side}
use Rattle.kept_document.proofs.Telling.{new_of_both, lost_of_both}
use Rattle.kept_document.proofs.Walks.{walk_put_some, walk_on, walk_end, walk_keys}
use Rattle.kept_document.proofs.differences.difference_by_name.Goals as goal

pub loop-pair-preserved : goal.loop-pair-preserved
loop-pair-preserved c =
    let walk = c.loop-pair.invariant in
    let name = c.in-Some.pair.name.now in
    let both : Both Val Val = (option_map (λ v. view v.now) c.in-Some.pair.before, option_map (λ v. view v.now) c.in-Some.pair.after) in
    let left = pairs_left c.loop-pair.pairs.before c.loop-pair.pairs.before_rest c.loop-pair.pairs.after c.loop-pair.pairs.after_rest in
    let rest = pairs_left c.next.new.self.before c.next.new.self.before_rest c.next.new.self.after c.next.new.self.after_rest in
    let all = side_by_side text_cmp c.args.before.now c.args.after.now in
    let sorted = sorted-side_by_side name_order c.args.before.now c.args.after.now c.of-pairs.ensures.before_by_name c.of-pairs.ensures.after_by_name in
    let fresh = λ (f : Name) (b : Both Val Val). new_of b.0 b.1 in
    let gone = λ (f : Name) (b : Both Val Val). lost_of b.0 b.1 in
    record {
      done = walk.done ++ (name, both) ∷ [];
      whole = walk_on all walk.done (name, both) left rest walk.whole c.in-Some.ensures;
      new = c.in_ok-put_new.ensures
          ∙ walk_put_some name_order fresh all walk.done name both rest c.loop-pair.fields (new_of both.0 both.1) (walk.whole ∙ ap (λ l. walk.done ++ l) c.in-Some.ensures) walk.new sorted refl;
      lost = c.in_ok-push_lost.ensures ∙ walk_keys gone walk.done name both c.loop-pair.names (lost_of both.0 both.1) walk.lost refl;
    }

pub returns-clause-fields : goal.returns-clause-fields
returns-clause-fields c =
    let walk = c.loop-pair.invariant in
    let left = pairs_left c.loop-pair.pairs.before c.loop-pair.pairs.before_rest c.loop-pair.pairs.after c.loop-pair.pairs.after_rest in
    let all = side_by_side text_cmp c.args.before.now c.args.after.now in
    walk.new ∙ ap (filter_map_entries (λ f b. new_of b.0 b.1)) (walk_end all walk.done left walk.whole c.in_default.ensures)
    ∙ new_of_both c.args.before.now c.args.after.now c.of-pairs.ensures.before_by_name c.of-pairs.ensures.after_by_name

pub returns-clause-names : goal.returns-clause-names
returns-clause-names c =
    let walk = c.loop-pair.invariant in
    let left = pairs_left c.loop-pair.pairs.before c.loop-pair.pairs.before_rest c.loop-pair.pairs.after c.loop-pair.pairs.after_rest in
    let all = side_by_side text_cmp c.args.before.now c.args.after.now in
    walk.lost ∙ ap (λ es. keys_of (filter_map_entries (λ f b. lost_of b.0 b.1) es)) (walk_end all walk.done left walk.whole c.in_default.ensures)
    ∙ lost_of_both c.args.before.now c.args.after.now c.of-pairs.ensures.before_by_name c.of-pairs.ensures.after_by_name
