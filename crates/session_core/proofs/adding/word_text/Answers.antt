use Rattle.std.proofs.Common.{None, Some, option_map, ap, subst, sym, ◌∙◌}
use Rattle.merge_box.specs.Words.{IsWord, seen_in, said_by}
use Rattle.session_core.specs.Known.{text_about}
use Rattle.session_core.proofs.Known.{known_says, put_kept}
use Rattle.session_core.proofs.Said.{text_is}
use Rattle.session_core.proofs.adding.word_text.Goals as goal

pub returns-in_ok-copy-in-Some-clause-text : goal.returns-in_ok-copy-in-Some-clause-text
returns-in_ok-copy-in-Some-clause-text c = λ sub box news before right learnt is.
    known_says sub box news before c.args.known.now c.in-Known.place (Some c.in_ok-copy-in-Some.field-0) right learnt (subst (IsWord sub box news before) c.in-Known.is is) (ap Some c.in_ok-copy-in-Some.ensures ∙ c.in-Some.ensures)
    ∙ ap (λ w. option_map text_about (said_by (seen_in box) news w)) (sym c.in-Known.is)

pub returns-in-None-clause-text : goal.returns-in-None-clause-text
returns-in-None-clause-text c = λ sub box news before right learnt is.
    known_says sub box news before c.args.known.now c.in-Known.place None right learnt (subst (IsWord sub box news before) c.in-Known.is is) c.in-None.ensures
    ∙ ap (λ w. option_map text_about (said_by (seen_in box) news w)) (sym c.in-Known.is)

pub returns-in_ok-new_text-in-New-clause-text : goal.returns-in_ok-new_text-in-New-clause-text
returns-in_ok-new_text-in-New-clause-text c = λ sub box news before right learnt is.
    ap Some (c.in_ok-new_text-in-New.ensures.text ∙ text_is c.in-New.message) ∙ ap (λ w. option_map text_about (said_by (seen_in box) news w)) (sym c.in-New.is)

pub returns-in_ok-new_text-in-New-clause-learnt : goal.returns-in_ok-new_text-in-New-clause-learnt
returns-in_ok-new_text-in-New-clause-learnt c = λ sub box news before learnt is.
    put_kept sub box news before c.args.known.now c.new_text.new.known c.in-New.message c.in-New.at learnt (subst (IsWord sub box news before) c.in-New.is is) c.in_ok-new_text-in-New.ensures.kept
