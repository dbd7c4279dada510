use Rattle.std.proofs.Common.{◌≡◌, ◌∷◌, ◌+◌, ◌-◌, suc, take, drop, length, ap, sym, ◌∙◌, arith}
use Rattle.std.proofs.lemmas.List.{length-drop}
use Rattle.checking.specs.Input.{lines_in}
use Rattle.checking.specs.InputLaws.{lines-cut, lines-whole, take_length}
use Rattle.checking.proofs.input.first_line.Goals as goal

pub returns-then-end-input-clause-lines : goal.returns-then-end-input-clause-lines
returns-then-end-input-clause-lines c =
    let xs = c.args.input.now in
    let i = c.line_end-end.result in
    let next : suc i ≡ i + 1 = omega arith in
    lines-cut xs i c.if-end-input.true c.line_end-end.ensures.before (c.line_end-end.ensures.found c.if-end-input.true)
    ∙ (ap (λ k. take i xs ∷ lines_in (drop k xs)) next
    ∙ ap (λ ys. take i xs ∷ lines_in ys) (sym (take_length (drop (i + 1) xs) (length xs - (i + 1)) (length-drop (i + 1) xs))))

pub returns-else-end-input-clause-lines : goal.returns-else-end-input-clause-lines
returns-else-end-input-clause-lines c =
    lines-whole c.args.input.now c.requires (λ k h. c.line_end-end.ensures.before k (omega (arith, h, c.if-end-input.false)))
