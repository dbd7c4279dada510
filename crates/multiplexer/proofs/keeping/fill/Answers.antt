use Rattle.std.proofs.Common.{ℕ, List, Some, sym, subst}
use Rattle.multiplexer.specs.Known.{IsKnown, AreKnown}
use Rattle.multiplexer.proofs.Soles.{put_known}
use Rattle.multiplexer.proofs.keeping.fill.Goals as goal

pub returns-in-Ok : goal.returns-in-Ok
returns-in-Ok c = λ before news known is.
    subst (AreKnown before news) (sym c.put.ensures)
    (put_known before news c.args.texts.now c.args.place is.one c.in-Ok.copy known is.at (subst (λ (t : List ℕ). IsKnown before is.one (Some t)) (sym c.in-Ok.ensures) is.known))
