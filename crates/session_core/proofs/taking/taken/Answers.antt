use Rattle.std.specs.Prelude.{OnOk}
use Rattle.std.proofs.Common.{ℕ, length, ap, sym, subst, ◌∙◌, arith}
use Rattle.ddp_messages.specs.ClientMessage.{client_view}
use Rattle.session_core.specs.session_model.Taking.{Taken, taken_text}
use Rattle.session_core.specs.session_texts.Taking.{as_taken}
use Rattle.session_core.specs.session_laws.Events.{IsTakenAs}
use Rattle.session_core.specs.Kept.{seen}
use Rattle.session_core.proofs.Outcomes.{put_causes}
use Rattle.session_core.proofs.Answering.{is_little}
use Rattle.session_core.proofs.taking.taken.Goals as goal

pub returns-in_ok-answer-in-AtOnce-clause-taken : goal.returns-in_ok-answer-in-AtOnce-clause-taken
returns-in_ok-answer-in-AtOnce-clause-taken c =
    let is = sym (ap as_taken c.in-AtOnce.is) ∙ c.in_ok-taken.ensures in
    subst (λ (x : Taken). IsTakenAs x (length c.args.text.now) (seen c.args.inner.now) (seen c.answer.new.inner)) is c.in_ok-answer-in-AtOnce.ensures.answered

pub returns-in-ToQueue-clause-taken : goal.returns-in-ToQueue-clause-taken
returns-in-ToQueue-clause-taken c =
    let is = sym (ap as_taken c.in-ToQueue.is) ∙ c.in_ok-taken.ensures in
    subst (λ (n : ℕ). OnOk c.put.result (IsTakenAs (taken_text (seen c.args.inner.now).carried.own.connected c.args.text.now) n (seen c.args.inner.now) (seen c.put.new.inner))) c.len.ensures
    (subst (λ (x : Taken). OnOk c.put.result (IsTakenAs x c.len.result (seen c.args.inner.now) (seen c.put.new.inner))) is c.put.ensures.queued)

pub returns-in-ToQueue-clause-cause : goal.returns-in-ToQueue-clause-cause
returns-in-ToQueue-clause-cause c =
    let is = sym (ap as_taken c.in-ToQueue.is) ∙ c.in_ok-taken.ensures in
    put_causes c.args.text.now (seen c.args.inner.now) (client_view c.in-ToQueue.message) c.len.result c.put.result c.requires.room (sym is) c.len.ensures c.put.ensures.cause

pub overflow_cast-len : goal.overflow_cast-len
overflow_cast-len c =
    let is = sym (ap as_taken c.in-ToQueue.is) ∙ c.in_ok-taken.ensures in
    omega (arith, c.len.ensures, is_little (seen c.args.inner.now).carried.own.connected c.args.text.now (client_view c.in-ToQueue.message) (sym is))
