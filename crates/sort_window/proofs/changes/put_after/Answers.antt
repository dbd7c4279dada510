use Rattle.std.proofs.Common.{option_map, ap, sym, ◌∙◌}
use Rattle.map_model.specs.Maps.{set}
use Rattle.value_model.specs.Order.{text_cmp}
use Rattle.sort_window.specs.declared.changes.Both.{Both}
use Rattle.sort_window.specs.declared.rows.Row.{Row}
use Rattle.sort_window.proofs.Inside.{none_set}
use Rattle.sort_window.proofs.changes.put_after.Goals as goal

pub returns-in-None-clause-value : goal.returns-in-None-clause-value
returns-in-None-clause-value c =
    let rows = c.args.by_id.now.items in
    let id = c.args.id.now in
    none_set rows id c.requires.inside.ids c.requires.new ∙ ap (λ after. set text_cmp rows id (option_map {T = Both} {U = Row} (λ both. both.1) after)) (sym c.in-None.is)
