use Rattle.std.proofs.Common.{option_map, ap, ◌∙◌}
use Rattle.sort_window.specs.declared.held.Held.{Held}
use Rattle.sort_window.specs.declared.rows.Row.{Row}
use Rattle.sort_window.proofs.Inside.{none_set}
use Rattle.sort_window.proofs.changes.take_before.Goals as goal

pub returns-in-None-clause-value : goal.returns-in-None-clause-value
returns-in-None-clause-value c =
    let none = c.requires.fits ∙ ap (option_map {T = Held} {U = Row} (λ held. held.1)) c.in-None.is in
    none_set c.args.by_id.now.items c.args.id.now c.requires.inside.ids none
