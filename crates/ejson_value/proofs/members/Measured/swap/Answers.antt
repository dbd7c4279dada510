use Rattle.std.proofs.Common.{◌+◌, ◌-◌, ◌^◌, ◌<◌, sym, subst, arith}
use Rattle.value_model.specs.Val.{fields_of}
use Rattle.value_model.specs.Size.{text_size, fields_size}
use Rattle.ejson_value.specs.View.{view, held_fields}
use Rattle.ejson_value.specs.Measure.{Counts}
use Rattle.ejson_value.proofs.Sizes.{put_there, removed, value_within, value_swapped}
use Rattle.ejson_value.proofs.members.Measured.swap.Goals as goal

pub bytes_after-self-inside-requires : goal.bytes_after-self-inside-requires
bytes_after-self-inside-requires c =
    let known : c.self.inside.bytes < 2 ^ 64 - 1 = omega (arith, c.if-self.false, c.self.ranges) in
    value_within _ _ (2 + text_size c.args.name.now) _ _ _ (removed c.args.name.now (held_fields c.self.inside.members) (view c.in-Some.there) (sym c.in-Some.ensures.value)) c.self.invariant c.gone.ensures known

pub invariant_of-self-in-Some : goal.invariant_of-self-in-Some
invariant_of-self-in-Some c =
    let es = held_fields c.self.inside.members in
    let some = sym c.in-Some.ensures.value in
    let known : c.self.inside.bytes < 2 ^ 64 - 1 = omega (arith, c.if-self.false, c.self.ranges) in
    subst (λ es. Counts c.bytes_after-self-inside.result (fields_size (fields_of es))) (sym c.in-Some.ensures.put)
    (value_swapped _ _ (2 + text_size c.args.name.now) _ _ _ _ _ _ _
    (removed c.args.name.now es (view c.in-Some.there) some)
    (put_there c.args.name.now es (view c.in-Some.there) (view c.args.value) c.known.ensures.names some)
    c.self.invariant c.gone.ensures c.size-come.ensures known c.bytes_after-self-inside.ensures)
