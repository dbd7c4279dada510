use Rattle.std.proofs.Common.{◌≡◌, true, false, cond, Some, None, slice_get, ap, sym, ◌∙◌}
use Rattle.std.specs.Ordering.{is_eq}
use Rattle.std.proofs.lemmas.Map.Lookups.{exact_bytes}
use Rattle.value_model.specs.TruthLaws.{equal_of}
use Rattle.value_model.specs.Order.{text_cmp}
use Rattle.ejson_value.specs.Key.{name_order}
use Rattle.sort_window.proofs.ById.{entry_if, find_at}
use Rattle.sort_window.proofs.lists.find.Goals as goal

pub returns-in-None-clause-value : goal.returns-in-None-clause-value
returns-in-None-clause-value c =
    let rows = c.args.rows.now in
    let id = c.args.id.now in
    ap (entry_if name_order id) (c.in-None.ensures ∙ ap (slice_get rows) c.place_of_id.ensures.value) ∙ sym (find_at name_order id rows c.requires)

pub returns-then-is_eq-clause-value : goal.returns-then-is_eq-clause-value
returns-then-is_eq-clause-value c =
    let rows = c.args.rows.now in
    let id = c.args.id.now in
    let held = c.in-Some.held.now in
    let same : is_eq (text_cmp held.0 id) ≡ true = ap (λ k. is_eq (text_cmp k id)) (sym c.id.ensures) ∙ ap is_eq (sym c.cmp.ensures) ∙ sym c.is_eq.ensures ∙ c.if-is_eq.true in
    sym (ap (λ b. cond b (Some held.1) None) same) ∙ ap (entry_if name_order id) (c.in-Some.ensures ∙ ap (slice_get rows) c.place_of_id.ensures.value) ∙ sym (find_at name_order id rows c.requires)

pub returns-then-is_eq-clause-found : goal.returns-then-is_eq-clause-found
returns-then-is_eq-clause-found c =
    let id = c.args.id.now in
    let held = c.in-Some.held.now in
    exact_bytes held.0 id (equal_of _ (ap (λ k. is_eq (text_cmp k id)) (sym c.id.ensures) ∙ ap is_eq (sym c.cmp.ensures) ∙ sym c.is_eq.ensures ∙ c.if-is_eq.true))

pub returns-else-is_eq-clause-value : goal.returns-else-is_eq-clause-value
returns-else-is_eq-clause-value c =
    let rows = c.args.rows.now in
    let id = c.args.id.now in
    let held = c.in-Some.held.now in
    let other : is_eq (text_cmp held.0 id) ≡ false = ap (λ k. is_eq (text_cmp k id)) (sym c.id.ensures) ∙ ap is_eq (sym c.cmp.ensures) ∙ sym c.is_eq.ensures ∙ c.if-is_eq.false in
    sym (ap (λ b. cond b (Some held.1) None) other) ∙ ap (entry_if name_order id) (c.in-Some.ensures ∙ ap (slice_get rows) c.place_of_id.ensures.value) ∙ sym (find_at name_order id rows c.requires)
