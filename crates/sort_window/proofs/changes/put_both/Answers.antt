use Rattle.std.proofs.Common.{◌≡◌, None, Some, ap, sym, subst, ◌∙◌}
use Rattle.map_model.specs.Maps.{at}
use Rattle.map_model.specs.MapLaws.{sorted-set}
use Rattle.value_model.specs.Order.{text_cmp}
use Rattle.ejson_value.specs.Key.{name_order}
use Rattle.sort_window.specs.Shown.{RowMap}
use Rattle.sort_window.specs.Inside.{has_id, HasOneMore, IsInside}
use Rattle.sort_window.proofs.Inside.{no_id, put_same}
use Rattle.sort_window.proofs.changes.put_both.Goals as goal

pub put_in_order-requires-clause-new : goal.put_in_order-requires-clause-new
put_in_order-requires-clause-new c =
    let rows = c.args.by_id.now.items in
    let id = c.both.inside.in_order.0 in
    let none : at text_cmp rows id ≡ None = ap (λ held. at text_cmp rows held.0) (c.both.invariant ∙ c.both.view_is) ∙ c.requires.new in
    c.requires.inside.same (has_id id) ∙ no_id rows id none

pub returns-clause-inside : goal.returns-clause-inside
returns-clause-inside c =
    let rows = c.args.by_id.now.items in
    let in_order = c.args.in_order.now.items in
    let held = c.both.inside.by_id in
    let grown = c.put_in_order.new.rows.items in
    let ids = c.requires.inside.ids in
    let none : at text_cmp rows held.0 ≡ None = ap (λ held. at text_cmp rows held.0) c.both.view_is ∙ c.requires.new in
    let more = subst (λ held. HasOneMore in_order held grown) c.both.invariant c.put_in_order.ensures.more in
    subst (λ (ids : RowMap). IsInside c.args.sort.now ids grown) (sym c.put_by_id.ensures.value) (record {
      ids = sorted-set name_order rows held.0 (Some held.1) ids;
      order = c.put_in_order.ensures.sorted;
      same = put_same rows held.0 ids held.1 in_order grown none c.requires.inside.same more;
    })
