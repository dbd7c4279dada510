use Rattle.std.proofs.Common.{◌≡◌, ap, ◌∙◌}
use Rattle.sort_window.specs.Shown.{RowMap}
use Rattle.sort_window.specs.Windows.{WindowState}
use Rattle.live_observer.specs.Noting.{rows_with}
use Rattle.live_observer.proofs.Plans.{with_rows}
use Rattle.live_observer.proofs.News.{rows_said}
use Rattle.live_observer.proofs.window.fill.Goals as goal

pub returns : goal.returns
returns c =
    let window = c.args.window.now in
    c.commit.ensures ∙ ap (with_rows window) (rows_said window.rows c.in_ok-moves.moves.changes ∙ ap (rows_with window.rows) c.in_ok-moves.ensures.says)
