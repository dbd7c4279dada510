use Rattle.std.proofs.Common.{ℕ, length, List, Option, IfSome, ap, sym, subst, ◌∙◌}
use Rattle.std.specs.Arc.{arc_value}
use Rattle.multiplexer.specs.Inside.{seen_entry}
use Rattle.multiplexer.specs.Origins.{IsKnownAt}
use Rattle.multiplexer.specs.Telling.{news_in}
use Rattle.multiplexer.proofs.Texts.{nothing_known}
use Rattle.multiplexer.proofs.Putting.{if_known_at}
use Rattle.multiplexer.proofs.joining.copied_texts.Goals as goal

pub loop-place-init : goal.loop-place-init
loop-place-init c = λ before known. nothing_known before (arc_value c.args.one.now.news) c.len.result c.in_ok-texts.texts (c.len.ensures ∙ ap length c.deref.ensures) c.in_ok-texts.ensures

pub loop-place-preserved : goal.loop-place-preserved
loop-place-preserved c = λ before known.
    let news = news_in (seen_entry c.args.one.now) in
    let place = c.loop-place.place in
    c.keep_text.ensures before news (c.loop-place.invariant before known)
    (subst (λ (o : Option (List ℕ)). IfSome o (IsKnownAt before news place)) (sym c.get.ensures) (if_known_at before news c.args.one.now.texts place known))
