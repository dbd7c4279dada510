use Rattle.std.proofs.Common.{◌≡◌, ℕ, None, Result, IfErr, option_copied, sym, subst}
use Rattle.map_model.specs.Maps.{at}
use Rattle.ejson_value.specs.declared.change.Publish.{Publish}
use Rattle.ejson_value.specs.Key.{key_cmp}
use Rattle.multiplexer.specs.Known.{IsKnown}
use Rattle.multiplexer.specs.Joining.{IsGapFor}
use Rattle.multiplexer.specs.Parts.{news_of_parts}
use Rattle.multiplexer.proofs.Soles.{not_there}
use Rattle.multiplexer.proofs.joining.Parts.put.Goals as goal

pub returns-in-Err-clause-known : goal.returns-in-Err-clause-known
returns-in-Err-clause-known c = λ before known new.
    let named = news_of_parts c.args.self.now in
    let one = c.in_ok-one.one in
    let text = option_copied c.args.text in
    let gap = subst (λ (r : Result ℕ ℕ). IfErr r (IsGapFor named one.key)) c.in-Err.is c.place.ensures.gap in
    let unnamed = not_there named c.in-Err.place one.key gap.above gap.below in
    c.add_at.ensures.known before known
    (subst (λ (p : Publish). IsKnown before (p.key, p.new) text) (sym c.in_ok-one.ensures) (new (subst (λ (p : Publish). at key_cmp named p.key ≡ None) c.in_ok-one.ensures unnamed)))

pub returns-in-Ok-clause-known : goal.returns-in-Ok-clause-known
returns-in-Ok-clause-known c = λ before known new. c.write_at.ensures.known before known
