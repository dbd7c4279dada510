use Rattle.std.proofs.Common.{◌∷◌, [], not, is_some, ap, ◌∙◌}
use Rattle.view_model.specs.Pending.{without_numbers, unless_none}
use Rattle.view_model.specs.PendingLaws.{without_one}
use Rattle.minimongo.specs.Originals.{Original, with_holders}
use Rattle.minimongo.proofs.Holding.{empty_is}
use Rattle.minimongo.proofs.original.Kept.let_go.Goals as goal

pub returns-clause-gone : goal.returns-clause-gone
returns-clause-gone c =
    ap (λ hs. record { doc = c.self.inside.doc; holders = hs }) (c.remove-was.ensures.keys ∙ without_one c.args.holder c.self.inside.holders.keys c.self.invariant)
    ∙ ap (λ (o : Original). with_holders (without_numbers (c.args.holder ∷ []) o.holders) o) c.self.view_is

pub returns-clause-last : goal.returns-clause-last
returns-clause-last c =
    empty_is c.is_empty.result c.remove-was.new.self.keys c.is_empty.ensures
    ∙ (ap (λ hs. not (is_some (unless_none hs))) (c.remove-was.ensures.keys ∙ without_one c.args.holder c.self.inside.holders.keys c.self.invariant)
    ∙ ap (λ (o : Original). not (is_some (unless_none (without_numbers (c.args.holder ∷ []) o.holders)))) c.self.view_is)
