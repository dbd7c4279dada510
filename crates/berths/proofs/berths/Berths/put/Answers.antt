use Rattle.std.proofs.Common.{rules, ◌≡◌, ◌∷◌, ◌∙◌, ap, Some}
use Rattle.atomic_table.specs.Table.{rest}
use Rattle.berths.proofs.Locking.{unlocks}
use Rattle.berths.proofs.berths.Berths.put.Goals as goal

pub store-requires : goal.store-requires
store-requires g c = (
  search rules,
  search rules,
  unlocks g.T.Fits.fits _ _ _ _ c.args.value
      (ap (λ m. m.1) c.exchange.ensures.3 ∙ ap (λ t. (c.args.taken.place, Some c.args.value) ∷ t) (ap rest c.args.taken.out))
      c.requires
      (rw c.args.self.now.named c.args.taken.within),
)
