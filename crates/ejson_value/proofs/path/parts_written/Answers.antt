use Rattle.std.proofs.Common.{lit<, ap, ◌∙◌}
use Rattle.std.specs.Str.Iter.{split_text, split_has_more, split_pattern}
use Rattle.std.proofs.lemmas.Iterator.Splits.{YieldsList-from_str_split}
use Rattle.std.proofs.lemmas.Iterator.Consumers.{YieldsList-end}
use Rattle.ejson_value.proofs.path.parts_written.Goals as goal

pub returns : goal.returns
returns c =
    let starts = c.into_iter-name-iterator.ensures.into_iter_gives in
    let splits = YieldsList-from_str_split {s = c.into_iter-name-iterator.result} 46 c.args.text.now (lit< tt) (ap split_text starts ∙ c.split-name-items.ensures.text) (ap split_has_more starts ∙ c.split-name-items.ensures.has_more) (ap split_pattern starts ∙ c.split-name-items.ensures.pattern) in
    let ends = YieldsList-end splits c.loop-name.yielded _ c.loop-name.yielded_by _ _ c.in-None.is c.next.ensures.steps in
    c.loop-name.invariant ∙ ends.0
