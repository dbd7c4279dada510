use Rattle.std.proofs.Common.{length, ◌+◌, ◌<◌, ◌≤◌, Option, refl, sym, subst, ◌∙◌}
use Rattle.std.proofs.lemmas.Option.{slice_get_read}
use Rattle.multiplexer.specs.Looks.{looks, known_by}
use Rattle.multiplexer.specs.Sources.{IsOf}
use Rattle.multiplexer.specs.Telling.{ASource}
use Rattle.multiplexer.proofs.Sources.{all_told, of_place, place_there, set_length, set_there}
use Rattle.multiplexer.proofs.Weights.{bounded_with}
use Rattle.multiplexer.proofs.Others.{others_set}
use Rattle.multiplexer.proofs.news.span_at.Goals as goal

pub returns-clause-bounded : goal.returns-clause-bounded
returns-clause-bounded g c = λ bounded. bounded_with c.args.sources.now.items c.args.place c.span.new.self c.span.ensures.small bounded

pub returns-clause-keeps : goal.returns-clause-keeps
returns-clause-keeps g c = λ cursors_at m are all source.
    let sources = c.args.sources.now.items in
    let at = slice_get_read sources (length sources) c.args.place c.index_mut.result.now refl c.requires.there c.index_mut.ensures.value in
    all_told cursors_at c.args.sub.now c.args.observer.now source c.requires.observer m sources c.args.place c.index_mut.result.now c.span.new.self at c.requires.place c.span.ensures.same (c.span.ensures.keeps m are) all

pub returns-clause-ticks : goal.returns-clause-ticks
returns-clause-ticks g c = λ m are.
    let sources = c.args.sources.now.items in
    let at = slice_get_read sources (length sources) c.args.place c.index_mut.result.now refl c.requires.there c.index_mut.ensures.value in
    subst (λ (o : Option ASource). c.span.new.steps ≤ c.args.steps.now + looks (length c.args.observer.now) m (known_by o c.args.from c.args.until) c.args.until) (sym at) (c.span.ensures.ticks m are)

pub returns-clause-there : goal.returns-clause-there
returns-clause-there g c = subst (λ n. c.args.place < n) (sym (set_length c.args.sources.now.items c.args.place c.span.new.self)) c.requires.there

pub returns-clause-place : goal.returns-clause-place
returns-clause-place g c =
    let sources = c.args.sources.now.items in
    let sub = c.args.sub.now in
    let at = slice_get_read sources (length sources) c.args.place c.index_mut.result.now refl c.requires.there c.index_mut.ensures.value in
    let was = of_place sources sub.name sub.params c.index_mut.result.now c.args.place at c.requires.place in
    let now : IsOf sub.name sub.params c.span.new.self = record { name_is = c.span.ensures.same.name ∙ was.name_is; params_are = c.span.ensures.same.params ∙ was.params_are } in
    place_there _ sub.name sub.params c.span.new.self c.args.place (set_there sources c.args.place c.index_mut.result.now c.span.new.self at) now

pub returns-clause-others : goal.returns-clause-others
returns-clause-others g c =
    let sources = c.args.sources.now.items in
    let sub = c.args.sub.now in
    let at = slice_get_read sources (length sources) c.args.place c.index_mut.result.now refl c.requires.there c.index_mut.ensures.value in
    let was = of_place sources sub.name sub.params c.index_mut.result.now c.args.place at c.requires.place in
    let now : IsOf sub.name sub.params c.span.new.self = record { name_is = c.span.ensures.same.name ∙ was.name_is; params_are = c.span.ensures.same.params ∙ was.params_are } in
    others_set sub.name sub.params sources c.args.place c.index_mut.result.now c.span.new.self at was now
