use Rattle.std.proofs.Common.{◌≡◌, ℕ, List, [], Some, cond, refl, sym, ap, ◌∙◌}
use Rattle.std.specs.Ordering.{is_eq}
use Rattle.map_model.specs.Maps.{at}
use Rattle.value_model.specs.Order.{text_cmp}
use Rattle.ejson_value.specs.Key.{name_order}
use Rattle.kept_document.proofs.Puts.{put_nothing, put_grows}
use Rattle.kept_document.proofs.fields.make_place.Goals as goal

change : (c : goal.After-drop) (f : List ℕ) → at text_cmp c.insert.new.self.entries f ≡ cond (is_eq (text_cmp c.args.name.now f)) (Some []) (at text_cmp c.args.fields.now.entries f)
change c f = c.in_ok-insert.ensures.updates.0 f ∙ ap (λ q. cond (is_eq (text_cmp q f)) (Some c.new.result) (at text_cmp c.args.fields.now.entries f)) c.in_ok-copy.ensures
    ∙ ap (λ v. cond (is_eq (text_cmp c.args.name.now f)) (Some v) (at text_cmp c.args.fields.now.entries f)) c.new.ensures

pub returns-in_ok-insert-clause-same : goal.returns-in_ok-insert-clause-same
returns-in_ok-insert-clause-same c = put_nothing name_order c.args.fields.now.entries c.insert.new.self.entries c.args.name.now (Some []) (change c) [] refl (sym c.if-not-contains_key.ensures)

pub returns-in_ok-insert-clause-grows : goal.returns-in_ok-insert-clause-grows
returns-in_ok-insert-clause-grows c = put_grows name_order c.args.fields.now.entries c.insert.new.self.entries c.args.name.now (Some []) (change c) refl
