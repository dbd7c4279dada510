use Rattle.std.proofs.Common.{List, ℕ, option_map, ap, ◌∙◌}
use Rattle.map_model.specs.Maps.{at, set}
use Rattle.map_model.specs.Changes.{Change}
use Rattle.value_model.specs.Order.{text_cmp}
use Rattle.sort_window.specs.declared.changes.Both.{Both}
use Rattle.sort_window.specs.declared.rows.Row.{Row}
use Rattle.sort_window.proofs.Inside.{gone, set_again}
use Rattle.sort_window.proofs.changes.carry_out.Goals as goal

pub put_after-requires-clause-new : goal.put_after-requires-clause-new
put_after-requires-clause-new c =
    let id = c.change.inside.id in
    ap (λ rows. at text_cmp rows id) c.take_before.ensures.value ∙ gone c.args.by_id.now.items id c.requires.inside.ids

pub returns-clause-value : goal.returns-clause-value
returns-clause-value c =
    let rows = c.args.by_id.now.items in
    let id = c.change.inside.id in
    let after = option_map {T = Both} {U = Row} (λ both. both.1) c.change.inside.after in
    c.put_after.ensures.value
    ∙ ap (λ m. set text_cmp m id after) c.take_before.ensures.value
    ∙ set_again rows id c.requires.inside.ids after
    ∙ ap (λ (change : Change (List ℕ) Row). set text_cmp rows change.key change.after) c.change.view_is
