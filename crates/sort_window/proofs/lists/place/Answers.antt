use Rattle.std.proofs.Common.{ℕ, List, rules}
use Rattle.std.proofs.lemmas.Fn.{always_returns_same}
use Rattle.sort_window.specs.declared.rows.Row.{Row}
use Rattle.sort_window.specs.Sorting.{id_doc_cmp}
use Rattle.sort_window.specs.Inside.{row_cmp, stands_before}
use Rattle.sort_window.proofs.Ordered.{count_to_place, front_first}
use Rattle.sort_window.proofs.Placed.{order_down}
use Rattle.sort_window.proofs.lists.place.Goals as goal

pub returns-clause-value : goal.returns-clause-value
returns-clause-value c =
    let id = c.args.id.now in
    let whole = c.args.whole.now in
    let sort = c.args.sort.now in
    let rows = c.args.rows.now in
    let test = stands_before sort id whole in
    let facts = c.partition_point.ensures in
    let split = facts.partitioned test (always_returns_same _ _ _ (λ a r f called. (search rules, search rules))) (front_first (row_cmp sort) (λ (z : List ℕ × Row). id_doc_cmp sort z.0 z.1.whole id whole) (order_down sort id whole) rows c.requires) in
    count_to_place test rows c.partition_point.result facts.bound split.0 split.1
