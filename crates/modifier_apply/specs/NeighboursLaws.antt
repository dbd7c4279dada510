-- Laws: Paths that stand in order, part by part.
use Rattle.std.specs.Cmp.{IsTotalOrder}
use Rattle.std.proofs.lemmas.Cmp.{nat_list_cmp_total, lists_total}
use Rattle.modifier_apply.specs.Neighbours.{parts_cmp}

pub parts_total : IsTotalOrder parts_cmp
parts_total = lists_total nat_list_cmp_total
