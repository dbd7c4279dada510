use Rattle.std.specs.Prelude.{Option, IfSome}
use Rattle.std.specs.Arc.{arc_value}
use Rattle.std.proofs.Common.{◌≡◌, ℕ, List, length, slice_get, Some, refl, sym, subst, ◌∙◌}
use Rattle.std.proofs.lemmas.Option.{slice_get_read}
use Rattle.value_model.specs.Val.{Val}
use Rattle.multiplexer.specs.declared.source.Span.{Span}
use Rattle.multiplexer.specs.Looks.{HasSource}
use Rattle.multiplexer.specs.Spans.{IsAsked}
use Rattle.multiplexer.proofs.Finds.{found_some}
use Rattle.multiplexer.proofs.Sources.{of_place}
use Rattle.multiplexer.proofs.news.lend_known.Goals as goal

pub returns-in-Some-clause-lent : goal.returns-in-Some-clause-lent
returns-in-Some-clause-lent c = λ cursors_at m told source.
    let sources = c.args.sources.now.items in
    let sub = c.args.sub.now in
    let x = c.index.result.now in
    let at : slice_get sources c.args.place ≡ Some x = slice_get_read sources (length sources) c.args.place x refl c.requires.there c.index.ensures in
    let of = of_place sources sub.name sub.params x c.args.place at c.requires.place in
    let asked = subst (λ (o : Option Span). IfSome o (IsAsked sub.cursors m c.args.from c.args.until)) c.in-Some.is (c.in_ok-known.ensures.told cursors_at m told source) in
    record { name = c.in_ok-name.ensures; params = c.in_ok-params.ensures ∙ of.params_are; asked = asked }

pub returns-in-Some-clause-source : goal.returns-in-Some-clause-source
returns-in-Some-clause-source c =
    let sources = c.args.sources.now.items in
    let after = c.known_at.new.sources.items in
    let sub = c.args.sub.now in
    let x = c.index.result.now in
    let at : slice_get sources c.args.place ≡ Some x = slice_get_read sources (length sources) c.args.place x refl c.requires.there c.index.ensures in
    let of = of_place sources sub.name sub.params x c.args.place at c.requires.place in
    let has = found_some sub.name sub.params after c.args.place c.known_at.ensures.there c.known_at.ensures.place in
    subst (λ (n : List ℕ). HasSource after n (arc_value c.in_ok-params.params)) (sym c.in_ok-name.ensures)
    (subst (λ (ps : List Val). HasSource after sub.name ps) (sym (c.in_ok-params.ensures ∙ of.params_are)) has)
