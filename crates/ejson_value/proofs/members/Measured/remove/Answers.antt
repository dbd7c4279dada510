use Rattle.std.proofs.Common.{sym, subst, ◌∙◌}
use Rattle.value_model.specs.Val.{fields_of}
use Rattle.value_model.specs.Size.{fields_size}
use Rattle.ejson_value.specs.View.{view, held_fields}
use Rattle.ejson_value.specs.Measure.{Counts}
use Rattle.ejson_value.proofs.Sizes.{removed, none_removed, field_within, field_gone}
use Rattle.ejson_value.proofs.members.Measured.remove.Goals as goal

pub bytes_without-self-inside-requires : goal.bytes_without-self-inside-requires
bytes_without-self-inside-requires c = field_within _ _ _ _ (removed c.args.name.now (held_fields c.self.inside.members) (view c.in-Some.value) (sym c.in-Some.ensures.value)) c.self.invariant

pub invariant_of-self-in-Some : goal.invariant_of-self-in-Some
invariant_of-self-in-Some c =
    subst (λ es. Counts c.bytes_without-self-inside.result (fields_size (fields_of es))) (sym c.in-Some.ensures.removed)
    (field_gone _ _ _ _ _ (removed c.args.name.now (held_fields c.self.inside.members) (view c.in-Some.value) (sym c.in-Some.ensures.value)) c.self.invariant
    c.bytes_without-self-inside.ensures.unknown c.bytes_without-self-inside.ensures.left)

pub invariant_of-self : goal.invariant_of-self
invariant_of-self c =
    subst (λ es. Counts c.self.inside.bytes (fields_size (fields_of es)))
    (sym (c.in-None.ensures.removed ∙ none_removed c.args.name.now (held_fields c.self.inside.members) (sym c.in-None.ensures.value))) c.self.invariant
