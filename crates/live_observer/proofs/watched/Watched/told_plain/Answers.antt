use Rattle.std.proofs.Common.{ap, ◌∙◌}
use Rattle.live_observer.specs.Answering.{ToldOf}
use Rattle.live_observer.proofs.Plans.{told_plain}
use Rattle.live_observer.proofs.watched.Watched.told_plain.Goals as goal

pub returns-clause-told : goal.returns-clause-told
returns-clause-told g c =
    let made = c.plain.ensures in
    told_plain c.args.self.now c.args.changes.now c.plain.result c.requires.watching c.requires.plain (ap (λ (t : ToldOf). t.name) made ∙ c.in_ok-name.ensures) (ap (λ (t : ToldOf). t.told) made ∙ c.in_ok-shown.ensures.told) (ap (λ (t : ToldOf). t.moves) made) c.in_ok-shown.ensures.ordered
