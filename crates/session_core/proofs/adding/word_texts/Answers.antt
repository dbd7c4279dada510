use Rattle.std.proofs.Common.{◌∙◌}
use Rattle.merge_box.specs.Words.{seen_in}
use Rattle.session_core.proofs.Known.{nothing_learnt, word_at, texts_more}
use Rattle.session_core.proofs.adding.word_texts.Goals as goal

pub returns-in_err-reserve-clause-learnt : goal.returns-in_err-reserve-clause-learnt
returns-in_err-reserve-clause-learnt c = λ sub box news right are. nothing_learnt sub box news c.args.known.now right

pub loop-word-init : goal.loop-word-init
loop-word-init c = λ sub box news right are. (c.reserve.ensures.items ∙ c.new-texts.ensures.items, nothing_learnt sub box news c.args.known.now right)

pub returns-in_err-text-clause-learnt : goal.returns-in_err-text-clause-learnt
returns-in_err-text-clause-learnt c = λ sub box news right are.
    c.word_text.ensures.learnt sub box news c.args.known.now (c.loop-word.invariant sub box news right are).1
    (word_at sub box news c.args.known.now c.args.plan.now c.loop-word.word-index c.word-item.result c.word-item.is c.loop-word-test.true are)

pub returns-in_err-push_text-clause-learnt : goal.returns-in_err-push_text-clause-learnt
returns-in_err-push_text-clause-learnt c = λ sub box news right are.
    c.word_text.ensures.learnt sub box news c.args.known.now (c.loop-word.invariant sub box news right are).1
    (word_at sub box news c.args.known.now c.args.plan.now c.loop-word.word-index c.word-item.result c.word-item.is c.loop-word-test.true are)

pub loop-word-preserved : goal.loop-word-preserved
loop-word-preserved c = λ sub box news right are.
    let so_far = c.loop-word.invariant sub box news right are in
    let word = word_at sub box news c.args.known.now c.args.plan.now c.loop-word.word-index c.word-item.result c.word-item.is c.loop-word-test.true are in (
      c.in_ok-push_text.ensures
          ∙ texts_more (seen_in box) news c.args.plan.now c.loop-word.word-index c.word-item.result c.loop-word.texts.items c.in_ok-text.text c.word-item.is c.loop-word-test.true so_far.0
          (c.in_ok-text.ensures.text sub box news c.args.known.now right so_far.1 word),
      c.word_text.ensures.learnt sub box news c.args.known.now so_far.1 word,
    )
