use Rattle.std.proofs.Common.{ap, sym, ◌∙◌, Err}
use Rattle.std.proofs.lemmas.Result.{err_from_is_err_and}
use Rattle.revived_client.specs.Last.{caught_up}
use Rattle.revived_client.proofs.Keeping.{both_memory, both_texts, both_given, both_took, still_whole}
use Rattle.revived_client.proofs.client.hear.Goals as goal

pub returns-in_err-catch_up-clause-hears : goal.returns-in_err-catch_up-clause-hears
returns-in_err-catch_up-clause-hears c =
    let p = err_from_is_err_and c.from_residual.result c.from_residual.ensures.1 in
    both_memory (Unit {0}) c.args.text.now c.args.client.now c.args.client.now (caught_up c.args.reviver.now c.args.last.now) (caught_up c.catch_up.new.reviver c.catch_up.new.last)
    c.from_residual.result (p.1 ∙ ap Err p.2)

pub texts_for-requires : goal.texts_for-requires
texts_for-requires c = still_whole c.args.reviver.now c.catch_up.new.reviver c.args.last.now c.requires.unbroken c.in_ok-catch_up.ensures.ok.0

pub returns-in_err-texts-clause-hears : goal.returns-in_err-texts-clause-hears
returns-in_err-texts-clause-hears c =
    let p = err_from_is_err_and c.from_residual-in_err-texts.result c.from_residual-in_err-texts.ensures.1 in
    both_texts (Unit {0}) c.args.text.now c.args.client.now (caught_up c.args.reviver.now c.args.last.now) c.catch_up.new.reviver c.texts_for.new.reviver c.catch_up.new.last
    c.in_err-texts.field-0.0 c.from_residual-in_err-texts.result c.in_ok-catch_up.ensures.ok.0 c.in_ok-catch_up.ensures.ok.1 c.in_err-texts.ensures (p.1 ∙ ap Err p.2)

pub returns-in_err-give-clause-hears : goal.returns-in_err-give-clause-hears
returns-in_err-give-clause-hears c =
    let p = err_from_is_err_and c.from_residual-in_err-give.result c.from_residual-in_err-give.ensures.1 in
    both_given (Unit {0}) c.args.text.now c.in_ok-texts.texts c.args.client.now c.give.new.client (caught_up c.args.reviver.now c.args.last.now) c.catch_up.new.reviver
    c.texts_for.new.reviver c.catch_up.new.last c.in_err-give.field-0.0 c.from_residual-in_err-give.result c.in_ok-catch_up.ensures.ok.0 c.in_ok-catch_up.ensures.ok.1
    c.in_ok-texts.ensures c.in_err-give.ensures (p.1 ∙ ap Err p.2)

pub returns-in_err-queue_all-clause-hears : goal.returns-in_err-queue_all-clause-hears
returns-in_err-queue_all-clause-hears c =
    let p = err_from_is_err_and c.from_residual-in_err-queue_all.result c.from_residual-in_err-queue_all.ensures.1 in
    both_memory (Unit {0}) c.args.text.now c.args.client.now c.queue_all.new.client (caught_up c.args.reviver.now c.args.last.now) (caught_up c.queue_all.new.reviver c.catch_up.new.last)
    c.from_residual-in_err-queue_all.result (p.1 ∙ ap Err p.2)

pub returns-clause-hears : goal.returns-clause-hears
returns-clause-hears c =
    both_took c.args.text.now c.in_ok-texts.texts c.args.client.now c.give.new.client c.queue_all.new.client (caught_up c.args.reviver.now c.args.last.now) c.catch_up.new.reviver
    c.texts_for.new.reviver c.queue_all.new.reviver c.catch_up.new.last c.in_ok-give.field-0 c.in_ok-queue_all.field-0 c.in_ok-catch_up.ensures.ok.0 c.in_ok-catch_up.ensures.ok.1
    c.in_ok-texts.ensures c.in_ok-give.ensures c.in_ok-queue_all.ensures.client c.in_ok-queue_all.ensures.reviver
