use Rattle.std.proofs.Common.{◌≡◌, ◌+◌, sym, ◌∙◌, arith}
use Rattle.world_core.specs.Kept.{seen}
use Rattle.world_core.proofs.Begun.{nobody_there, open_happens}
use Rattle.world_core.proofs.opening.open.Goals as goal

pub begin-requires-clause-none : goal.begin-requires-clause-none
begin-requires-clause-none c = nobody_there (seen c.args.inside.now) c.requires c.args.name.now (sym c.can_open.ensures ∙ c.if-not-can_open.false)

pub returns : goal.returns
returns c =
    let next : c.in-Some.number ≡ c.args.inside.now.opened + 1 = omega (arith, c.in-Some.ensures) in
    open_happens (seen c.args.inside.now) c.requires c.args.name.now c.in-Some.number (seen c.begin.new.inside) tt (sym c.can_open.ensures ∙ c.if-not-can_open.false) next c.in_ok-begin.ensures c.asked-2.result c.asked-2.ensures
