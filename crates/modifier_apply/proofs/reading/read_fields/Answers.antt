use Rattle.std.proofs.Common.{Ok, ap, sym, subst, ◌∙◌}
use Rattle.ejson_value.specs.View.{view}
use Rattle.modifier_apply.specs.Change.{replaced_by}
use Rattle.modifier_apply.specs.Reading.{Gives}
use Rattle.modifier_apply.proofs.Front.{operator_alone, plain_fields}
use Rattle.modifier_apply.proofs.reading.read_fields.Goals as goal

pub returns-then-not-has_operator : goal.returns-then-not-has_operator
returns-then-not-has_operator c =
    plain_fields c.args.fields.now (sym c.has_operator.ensures ∙ c.if-not-has_operator.true) ∙ ap (λ fields. Ok (replaced_by fields)) (sym c.in_ok-copied.ensures)

pub returns-in-Some : goal.returns-in-Some
returns-in-Some c =
    subst (λ r. Gives (λ m. m) c.read_alone.result r)
    (sym (operator_alone c.args.fields.now c.in-Some.name.now (view c.in-Some.operand.now) c.in-Some.ensures.only c.in-Some.ensures.named))
    c.read_alone.ensures
