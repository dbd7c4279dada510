use Rattle.std.proofs.Common.{◌+◌, ◌-◌, ◌^◌, ◌<◌, option_map, ap, sym, subst, ◌∙◌, arith}
use Rattle.value_model.specs.Val.{fields_of}
use Rattle.value_model.specs.Size.{text_size, fields_size}
use Rattle.ejson_value.specs.View.{view, held_fields}
use Rattle.ejson_value.specs.Measure.{Counts}
use Rattle.ejson_value.proofs.Sizes.{put_new, put_there, removed, value_within, value_swapped}
use Rattle.ejson_value.proofs.members.Measured.put.Goals as goal

pub invariant_of-self-in-None : goal.invariant_of-self-in-None
invariant_of-self-in-None c = λ less.
    let none = sym c.in_ok-there.ensures.value ∙ ap (λ o. option_map view o) c.in-None.is in
    let grown = ap (λ es. fields_size (fields_of es)) c.in_ok-there.ensures.ok ∙ put_new c.args.name (held_fields c.self.inside.members) (view c.args.value) none in
    let known : c.self.inside.bytes < 2 ^ 64 - 1 = omega (arith, less, c.saturating_add-self-inside.ensures) in
    omega (arith, less, c.self.invariant known, c.size-come.ensures, c.with_name-added.ensures, c.saturating_add-self-inside.ensures, grown)

pub bytes_after-self-inside-requires : goal.bytes_after-self-inside-requires
bytes_after-self-inside-requires c =
    let some = sym c.in_ok-there.ensures.value ∙ ap (λ o. option_map view o) c.in-Some.is in
    let known : c.self.inside.bytes < 2 ^ 64 - 1 = omega (arith, c.if-self.false, c.self.ranges) in
    value_within _ _ (2 + text_size c.args.name) _ _ _ (removed c.args.name (held_fields c.self.inside.members) (view c.in-Some.there) some) c.self.invariant c.gone.ensures known

pub invariant_of-self-in-Some : goal.invariant_of-self-in-Some
invariant_of-self-in-Some c =
    let es = held_fields c.self.inside.members in
    let some = sym c.in_ok-there.ensures.value ∙ ap (λ o. option_map view o) c.in-Some.is in
    let known : c.self.inside.bytes < 2 ^ 64 - 1 = omega (arith, c.if-self.false, c.self.ranges) in
    subst (λ es. Counts c.bytes_after-self-inside.result (fields_size (fields_of es))) (sym c.in_ok-there.ensures.ok)
    (value_swapped _ _ (2 + text_size c.args.name) _ _ _ _ _ _ _
    (removed c.args.name es (view c.in-Some.there) some)
    (put_there c.args.name es (view c.in-Some.there) (view c.args.value) c.known.ensures.names some)
    c.self.invariant c.gone.ensures c.size-come.ensures known c.bytes_after-self-inside.ensures)
