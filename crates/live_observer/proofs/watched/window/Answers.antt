use Rattle.std.proofs.Common.{◌≡◌, ap, ◌∙◌}
use Rattle.sort_window.specs.Windows.{WindowState}
use Rattle.live_observer.proofs.Plans.{filled_is}
use Rattle.live_observer.proofs.watched.window.Goals as goal

pub returns-in_ok-filled-in-Some-clause-stands : goal.returns-in_ok-filled-in-Some-clause-stands
returns-in_ok-filled-in-Some-clause-stands c = ap (λ (w : WindowState). w.rows) c.in_ok-filled-in-Some.ensures ∙ filled_is c.args.cursor.now c.args.all.now c.requires
