use Rattle.std.proofs.Common.{ℕ, List, rules}
use Rattle.std.proofs.lemmas.Fn.{always_returns_same}
use Rattle.value_model.specs.Order.{text_cmp}
use Rattle.ejson_value.specs.Key.{name_order}
use Rattle.sort_window.specs.declared.rows.Row.{Row}
use Rattle.sort_window.specs.Inside.{has_id_below}
use Rattle.sort_window.proofs.Ordered.{count_to_place, front_first}
use Rattle.sort_window.proofs.ById.{sorted_entries, down}
use Rattle.sort_window.proofs.lists.place_of_id.Goals as goal

pub returns-clause-value : goal.returns-clause-value
returns-clause-value c =
    let id = c.args.id.now in
    let rows = c.args.rows.now in
    let test = has_id_below id in
    let facts = c.partition_point.ensures in
    let split = facts.partitioned test (always_returns_same _ _ _ (λ a r f called. (search rules, search rules))) (front_first (λ (a b : List ℕ × Row). text_cmp a.0 b.0) (λ (z : List ℕ × Row). text_cmp z.0 id) (down name_order id) rows (sorted_entries name_order rows c.requires)) in
    count_to_place test rows c.partition_point.result facts.bound split.0 split.1
