use Rattle.std.proofs.Common.{◌+◌, ◌-◌, ◌^◌, ◌<◌, sym, subst, arith}
use Rattle.value_model.specs.Val.{fields_of}
use Rattle.value_model.specs.Size.{text_size, fields_size}
use Rattle.ejson_value.specs.View.{view, held_fields}
use Rattle.ejson_value.specs.Measure.{Counts}
use Rattle.ejson_value.proofs.Sizes.{put_there, removed, value_within, value_swapped}
use Rattle.ejson_value.proofs.members.Measured.replace.Goals as goal

pub bytes_after-self-inside-requires : goal.bytes_after-self-inside-requires
bytes_after-self-inside-requires c =
    let known : c.self.inside.bytes < 2 ^ 64 - 1 = omega (arith, c.if-self.false, c.self.ranges) in
    value_within _ _ (2 + text_size c.args.member.name) _ _ _ (removed c.args.member.name (held_fields c.self.inside.members) (view c.replace-there.result) (sym c.replace-there.ensures.value)) c.self.invariant c.gone.ensures known

pub invariant_of-self-2 : goal.invariant_of-self-2
invariant_of-self-2 c =
    let es = held_fields c.self.inside.members in
    let some = sym c.replace-there.ensures.value in
    let known : c.self.inside.bytes < 2 ^ 64 - 1 = omega (arith, c.if-self.false, c.self.ranges) in
    subst (λ es. Counts c.bytes_after-self-inside.result (fields_size (fields_of es))) (sym c.replace-there.ensures.put)
    (value_swapped _ _ (2 + text_size c.args.member.name) _ _ _ _ _ _ _
    (removed c.args.member.name es (view c.replace-there.result) some)
    (put_there c.args.member.name es (view c.replace-there.result) (view c.args.member.value) c.known.ensures.names some)
    c.self.invariant c.gone.ensures c.size-come.ensures known c.bytes_after-self-inside.ensures)
