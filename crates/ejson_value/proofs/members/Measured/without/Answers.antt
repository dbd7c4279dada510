use Rattle.std.proofs.Common.{sym, subst}
use Rattle.value_model.specs.Val.{fields_of}
use Rattle.value_model.specs.Size.{fields_size}
use Rattle.ejson_value.specs.View.{view, held_fields}
use Rattle.ejson_value.specs.Measure.{Counts}
use Rattle.ejson_value.proofs.Sizes.{removed, capped_counts, field_within, field_gone}
use Rattle.ejson_value.proofs.members.Measured.without.Goals as goal

pub bytes_without-requires : goal.bytes_without-requires
bytes_without-requires c = field_within _ _ _ _ (removed c.args.name.now c.args.self.now (view c.args.value.now) c.requires) (capped_counts _ _ c.bytes.ensures)

pub invariant_of-result : goal.invariant_of-result
invariant_of-result c =
    let there = rw (← c.self.view_is) at c.requires in
    let all = rw (← c.self.view_is) at c.bytes.ensures in
    subst (λ es. Counts c.bytes_without.result (fields_size (fields_of es))) (sym c.in_ok-without.ensures)
    (field_gone _ _ _ _ _ (removed c.args.name.now (held_fields c.self.inside.members) (view c.args.value.now) there) (capped_counts _ _ all)
    c.bytes_without.ensures.unknown c.bytes_without.ensures.left)
