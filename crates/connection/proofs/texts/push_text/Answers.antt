use Rattle.std.proofs.Common.{◌∷◌, [], ◌++◌, ap, sym, ◌∙◌, arith}
use Rattle.std.proofs.lemmas.Option.{slice_get_within}
use Rattle.connection.specs.Printed.{texts_in}
use Rattle.connection.proofs.PrintingLemmas.{next_line, drop_next, no_line, none_left}
use Rattle.connection.proofs.texts.push_text.Goals as goal

pub returns-in_default-clause-line : goal.returns-in_default-clause-line
returns-in_default-clause-line c = no_line c.args.place.now (texts_in c.args.sent.now c.args.session.now) c.args.lines.now (sym c.in_default.ensures)

pub returns-in_default-clause-left : goal.returns-in_default-clause-left
returns-in_default-clause-left c = none_left c.args.place.now (texts_in c.args.sent.now c.args.session.now) (sym c.in_default.ensures)

pub overflow_add-place : goal.overflow_add-place
overflow_add-place c =
    let within = slice_get_within (texts_in c.args.sent.now c.args.session.now) c.args.place.now c.in-Some.text.now (sym c.in-Some.ensures) in
    omega (arith, within, c.requires)

pub returns-clause-line : goal.returns-clause-line
returns-clause-line c =
    next_line c.args.place.now (texts_in c.args.sent.now c.args.session.now) c.in-Some.text.now c.args.lines.now c.push.new.self (sym c.in-Some.ensures)
    (c.in_ok-push.ensures.ok ∙ ap (λ t. c.args.lines.now ++ t ∷ []) c.in_ok-out_line.ensures)

pub returns-clause-left : goal.returns-clause-left
returns-clause-left c = drop_next c.args.place.now (texts_in c.args.sent.now c.args.session.now)
