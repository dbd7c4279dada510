use Rattle.std.proofs.Common.{Bool, ap, sym, ◌∙◌, Ok, Err}
use Rattle.std.specs.Prelude.{if◌then◌else◌}
use Rattle.std.specs.List.{list_all}
use Rattle.ejson_value.specs.View.{view}
use Rattle.selector_match.specs.declared.fault.SelectorFault.TheVariants.{BadOperand}
use Rattle.selector_match.specs.Reading.{is_literal, literals_operand}
use Rattle.selector_match.proofs.Front.{literals_operand-list}
use Rattle.selector_match.proofs.reading.literals_operand.Goals as goal

pub returns-in_ok-read-in-List : goal.returns-in_ok-read-in-List
returns-in_ok-read-in-List c =
    let all = ap (λ vs. list_all is_literal vs) (sym c.as_slice.ensures) ∙ (sym c.are_literals.ensures ∙ c.if-are_literals.true) in
    ap (λ v. literals_operand (view v)) c.in-List.is
    ∙ (literals_operand-list c.in-List.items
    ∙ (ap (λ (b : Bool). if b then Ok c.in-List.items else Err BadOperand) all ∙ ap (λ vs. Ok vs) (sym c.in_ok-read-in-List.ensures)))

pub returns-else-are_literals : goal.returns-else-are_literals
returns-else-are_literals c =
    let some = ap (λ vs. list_all is_literal vs) (sym c.as_slice.ensures) ∙ (sym c.are_literals.ensures ∙ c.if-are_literals.false) in
    ap (λ v. literals_operand (view v)) c.in-List.is
    ∙ (literals_operand-list c.in-List.items
    ∙ ap (λ (b : Bool). if b then Ok c.in-List.items else Err BadOperand) some)
