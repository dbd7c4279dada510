use Rattle.std.proofs.Common.{not, ◌&&◌, nat_lt, length, refl, ap, sym, ◌∙◌}
use Rattle.world_core.specs.Kept.{seen}
use Rattle.world_core.proofs.Begun.{may_open}
use Rattle.world_core.proofs.opening.can_open.Goals as goal

pub returns-then-not-is_there : goal.returns-then-not-is_there
returns-then-not-is_there c =
    sym (ap (λ b. not b && nat_lt c.len.result 128) c.if-not-is_there.true)
    ∙ may_open (seen c.args.inside.now) c.requires c.args.name.now c.is_there.result (nat_lt c.len.result 128) c.is_there.ensures (ap (λ n. nat_lt n 128) c.len.ensures)

pub returns-else-not-is_there : goal.returns-else-not-is_there
returns-else-not-is_there c =
    let few = nat_lt (length c.args.inside.now.present) 128 in
    ap not c.if-not-is_there.false
    ∙ (sym (ap (λ b. not b && few) c.if-not-is_there.false)
    ∙ may_open (seen c.args.inside.now) c.requires c.args.name.now c.is_there.result few c.is_there.ensures refl)
