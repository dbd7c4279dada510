use Rattle.std.proofs.Common.{◌∷◌, [], ◌++◌, ℕ, List, refl, ap, ◌∙◌, option_copied, option_map}
use Rattle.value_model.specs.Val.{Val}
use Rattle.value_model.specs.Order.{text_cmp}
use Rattle.map_model.specs.Maps.{filter_map_entries}
use Rattle.ejson_value.specs.View.{view}
use Rattle.ejson_value.specs.Key.{name_order}
use Rattle.kept_document.specs.Sides.{Both, side_by_side, fields_left}
use Rattle.kept_document.proofs.Beside.{field_after, sorted-side_by_side, claims_beside}
use Rattle.kept_document.proofs.Walks.{walk_put_some, walk_on, walk_end}
use Rattle.kept_document.proofs.fields.fields_beside.Goals as goal

pub loop-side-preserved : goal.loop-side-preserved
loop-side-preserved c =
    let walk = c.loop-side.invariant in
    let name = c.in-Some.side.name.now in
    let both : Both (List (ℕ × Val)) Val = (option_copied c.in-Some.side.kept, option_map (λ v. view v.now) c.in-Some.side.given) in
    let left = fields_left c.loop-side.sides.kept c.loop-side.sides.kept_rest c.loop-side.sides.given c.loop-side.sides.given_rest in
    let rest = fields_left c.next.new.self.kept c.next.new.self.kept_rest c.next.new.self.given c.next.new.self.given_rest in
    let all = side_by_side text_cmp c.args.fields.now.entries c.args.doc.now in
    let sorted = sorted-side_by_side name_order c.args.fields.now.entries c.args.doc.now c.of-sides.ensures.kept_by_name c.of-sides.ensures.doc_by_name in
    record {
      done = walk.done ++ (name, both) ∷ [];
      whole = walk_on all walk.done (name, both) left rest walk.whole c.in-Some.ensures;
      made = c.in_ok-put_field.ensures
          ∙ walk_put_some name_order (field_after c.args.sub) all walk.done name both rest c.loop-side.made.entries (field_after c.args.sub name both)
          (walk.whole ∙ ap (λ l. walk.done ++ l) c.in-Some.ensures) walk.made sorted refl;
    }

pub returns : goal.returns
returns c =
    let walk = c.loop-side.invariant in
    let left = fields_left c.loop-side.sides.kept c.loop-side.sides.kept_rest c.loop-side.sides.given c.loop-side.sides.given_rest in
    let all = side_by_side text_cmp c.args.fields.now.entries c.args.doc.now in
    claims_beside c.args.sub c.args.fields.now.entries c.args.doc.now c.loop-side.made.entries c.of-sides.ensures.kept_by_name c.of-sides.ensures.doc_by_name
    (walk.made ∙ ap (filter_map_entries (field_after c.args.sub)) (walk_end all walk.done left walk.whole c.in_default.ensures))
