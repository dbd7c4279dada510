use Rattle.std.specs.Prelude.{◌^◌, ◌-◌, ◌<◌, ◌+◌}
use Rattle.std.proofs.Common.{ap, arith, sym, ◌∙◌}
use Rattle.value_model.specs.Size.{size, escape_wrapper}
use Rattle.collection_store.specs.Limits.{bytes_of, document}
use Rattle.counted_contents.proofs.Changed.{same_rows, bytes-changed}
use Rattle.counted_contents.proofs.counted.CountedContents.change.Goals as goal

pub invariant_of-self-in-None : goal.invariant_of-self-in-None
invariant_of-self-in-None c =
    let none = sym c.in-None.is ∙ c.in_ok-change.ensures.bytes in
    c.self.invariant
    ∙ ap bytes_of (sym (c.in_ok-change.ensures.ok ∙ same_rows c.self.inside.contents c.args.key.now c.args.fields.now c.args.cleared.now c.known.ensures none))

pub overflow_sub-self : goal.overflow_sub-self
overflow_sub-self c =
    let some = sym c.in-Some.is ∙ c.in_ok-change.ensures.bytes in
    let rows = c.self.inside.contents in
    let bound : bytes_of rows + (size (document c.args.fields.now) + escape_wrapper) < 2 ^ 64 - 1 = omega (arith, c.self.invariant, c.most_more.ensures, c.has_room.ensures c.if-not-has_room.false) in
    let bytes = bytes-changed rows c.args.key.now c.args.fields.now c.args.cleared.now c.known.ensures c.in-Some.before c.in-Some.after some bound in
    omega (arith, bytes.0, c.self.invariant)

pub overflow_add-self : goal.overflow_add-self
overflow_add-self c =
    let some = sym c.in-Some.is ∙ c.in_ok-change.ensures.bytes in
    let rows = c.self.inside.contents in
    let bound : bytes_of rows + (size (document c.args.fields.now) + escape_wrapper) < 2 ^ 64 - 1 = omega (arith, c.self.invariant, c.most_more.ensures, c.has_room.ensures c.if-not-has_room.false) in
    let bytes = bytes-changed rows c.args.key.now c.args.fields.now c.args.cleared.now c.known.ensures c.in-Some.before c.in-Some.after some bound in
    omega (arith, bytes.0, bytes.1, bytes.2, c.self.invariant)

pub invariant_of-self-in-Some : goal.invariant_of-self-in-Some
invariant_of-self-in-Some c =
    let some = sym c.in-Some.is ∙ c.in_ok-change.ensures.bytes in
    let rows = c.self.inside.contents in
    let bound : bytes_of rows + (size (document c.args.fields.now) + escape_wrapper) < 2 ^ 64 - 1 = omega (arith, c.self.invariant, c.most_more.ensures, c.has_room.ensures c.if-not-has_room.false) in
    let bytes = bytes-changed rows c.args.key.now c.args.fields.now c.args.cleared.now c.known.ensures c.in-Some.before c.in-Some.after some bound in
    omega (arith, bytes.0, bytes.1, c.self.invariant, ap bytes_of c.in_ok-change.ensures.ok)

pub returns-in-None-clause-absent : goal.returns-in-None-clause-absent
returns-in-None-clause-absent c = λ absent.
    let none = sym c.in-None.is ∙ c.in_ok-change.ensures.bytes in
    c.in_ok-change.ensures.ok ∙ same_rows c.self.inside.contents c.args.key.now c.args.fields.now c.args.cleared.now c.known.ensures none ∙ c.self.view_is
