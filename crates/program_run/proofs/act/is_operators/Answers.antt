use Rattle.std.proofs.Common.{◌≡◌, Bool, IfOk, sym, subst, ◌∙◌}
use Rattle.ejson_value.specs.View.{view}
use Rattle.program_run.proofs.Operators.{read_with, read_without}
use Rattle.program_run.proofs.act.is_operators.Goals as goal

pub returns-then-has_operators : goal.returns-then-has_operators
returns-then-has_operators c =
    subst (λ (x : Bool). IfOk c.is_modifier.result (λ b. b ≡ x)) (read_with (view c.args.value.now) (sym c.has_operators.ensures ∙ c.if-has_operators.true)) c.is_modifier.ensures

pub returns-else-has_operators : goal.returns-else-has_operators
returns-else-has_operators c = read_without (view c.args.value.now) (sym c.has_operators.ensures ∙ c.if-has_operators.false)
