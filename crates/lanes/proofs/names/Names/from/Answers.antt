use Rattle.std.proofs.Common.{subst}
use Rattle.lanes.specs.Names.{TheNames, IsLeastFrom}
use Rattle.lanes.proofs.First.{least_from}
use Rattle.lanes.proofs.names.Names.from.Goals as goal

pub returns-in-Some : goal.returns-in-Some
returns-in-Some c =
    let range = c.range.ensures.in_range tt in
    subst (λ (names : TheNames). IsLeastFrom c.args.from names c.in-Some.name.now) c.self.view_is
    (least_from c.args.from c.self.inside.names.entries c.range.result c.in-Some.name.now c.in-Some.field-0-1.now c.next.new.self c.in-Some.ensures.steps range.1 range.2)
