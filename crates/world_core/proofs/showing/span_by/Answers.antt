use Rattle.std.proofs.Common.{refl}
use Rattle.world_core.proofs.showing.span_by.Goals as goal

pub returns : goal.returns
returns g c =
    let m = c.args.machine.now in
    record {
      told = λ cursors_at told source. c.span.ensures.told cursors_at m refl told source;
      lent = λ cursors_at told source. c.span.ensures.lent cursors_at m refl told source;
      keeps = λ cursors_at told source. c.span.ensures.keeps cursors_at m refl told source;
    }
