use Rattle.std.proofs.Common.{◌≡◌, ap, sym, ◌∙◌}
use Rattle.live_observer.specs.Answering.{ToldOf}
use Rattle.live_observer.proofs.Plans.{told_window}
use Rattle.live_observer.proofs.watched.Watched.told_window.Goals as goal

pub returns-clause-told : goal.returns-clause-told
returns-clause-told g c =
    let made = c.window.ensures in
    told_window c.args.self.now c.args.window.now c.args.changes.now c.window.result c.in_ok-moves.moves c.requires.watching c.requires.window (ap (λ (t : ToldOf). t.name) made ∙ c.in_ok-name.ensures) (ap (λ (t : ToldOf). t.told) made) (ap (λ (t : ToldOf). t.moves) made) c.in_ok-moves.ensures.plan
