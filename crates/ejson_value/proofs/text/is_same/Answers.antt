use Rattle.std.proofs.Common.{◌∙◌, sym}
use Rattle.ejson_value.proofs.Words.{others_decide}
use Rattle.ejson_value.proofs.text.is_same.Goals as goal

pub returns : goal.returns
returns c =
    let first = sym c.word.ensures ∙ c.if-word.false ∙ c.word-2.ensures in
    others_decide _ _ c.told-left c.told-right c.fits-left c.fits-right _ _ _ _ c.word-3.ensures c.word-4.ensures c.word-5.ensures c.word-6.ensures first
