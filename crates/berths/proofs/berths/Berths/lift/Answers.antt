use Rattle.std.proofs.Common.{rules}
use Rattle.berths.proofs.Locking.{first_held}
use Rattle.berths.proofs.berths.Berths.lift.Goals as goal

pub exchange-requires : goal.exchange-requires
exchange-requires g c = (search rules, first_held g.T.Fits.fits c.args.place _ c.requires.took)
