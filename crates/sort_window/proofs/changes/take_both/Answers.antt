use Rattle.std.proofs.Common.{ℕ, ◌<◌, None, sym, subst}
use Rattle.map_model.specs.MapLaws.{sorted-set}
use Rattle.ejson_value.specs.Key.{name_order}
use Rattle.sort_window.specs.Shown.{RowMap}
use Rattle.sort_window.specs.Inside.{is_row, IsInside}
use Rattle.sort_window.proofs.Inside.{is_there, taken_same}
use Rattle.sort_window.proofs.changes.take_both.Goals as goal

pub take_in_order-requires-clause-there : goal.take_in_order-requires-clause-there
take_in_order-requires-clause-there c =
    let held = c.args.held.now in
    let rows = c.args.by_id.now.items in
    subst (λ (n : ℕ). 0 < n) (sym (c.requires.inside.same (is_row held))) (is_there rows held.0 c.requires.inside.ids held.1 c.requires.there)

pub returns-clause-inside : goal.returns-clause-inside
returns-clause-inside c =
    let held = c.args.held.now in
    let rows = c.args.by_id.now.items in
    let in_order = c.args.in_order.now.items in
    let left = c.take_in_order.new.rows.items in
    let ids = c.requires.inside.ids in
    subst (λ (ids : RowMap). IsInside c.args.sort.now ids left) (sym c.take_by_id.ensures.value) (record {
      ids = sorted-set name_order rows held.0 None ids;
      order = c.take_in_order.ensures.sorted;
      same = taken_same rows held.0 ids held.1 in_order left c.requires.there c.requires.inside.same c.take_in_order.ensures.less;
    })
