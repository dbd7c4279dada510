use Rattle.std.proofs.Common.{◌∙◌, arith}
use Rattle.ejson_value.proofs.Words.{tells, same_behind, last_tells}
use Rattle.ejson_value.proofs.text.order_behind.Goals as goal

pub returns-then-one-two : goal.returns-then-one-two
returns-then-one-two c =
    c.cmp.ensures ∙ tells _ _ c.told-left c.told-right c.fits-left c.fits-right 8 _ _ (omega arith) c.word-one.ensures c.word-two.ensures c.if-one-two.true

pub returns : goal.returns
returns c =
    c.cmp-2.ensures
    ∙ last_tells _ _ c.told-left c.told-right c.fits-left c.fits-right _ _ c.word.ensures c.word-2.ensures
    ∙ same_behind _ _ c.told-left c.told-right c.fits-left c.fits-right 8 6 _ _ (omega arith) (omega arith) c.word-one.ensures c.word-two.ensures c.if-one-two.false
