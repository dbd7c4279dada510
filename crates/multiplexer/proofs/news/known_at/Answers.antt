use Rattle.std.proofs.Common.{◌<◌, ◌≤◌, Option, length, refl, sym, subst, ◌∙◌}
use Rattle.std.proofs.lemmas.Option.{slice_get_read}
use Rattle.multiplexer.specs.Bounds.{IsSmall}
use Rattle.multiplexer.specs.Looks.{known_by}
use Rattle.multiplexer.specs.Sources.{IsOf}
use Rattle.multiplexer.specs.Telling.{ASource}
use Rattle.multiplexer.proofs.Others.{others_set}
use Rattle.multiplexer.proofs.Sources.{all_at, all_known, told_of, of_place, place_there, set_length, set_there}
use Rattle.multiplexer.proofs.Weights.{bounded_with}
use Rattle.multiplexer.proofs.news.known_at.Goals as goal

pub returns-clause-bounded : goal.returns-clause-bounded
returns-clause-bounded c = λ bounded.
    let sources = c.args.sources.now.items in
    let at = slice_get_read sources (length sources) c.args.place c.index_mut.result.now refl c.requires.there c.index_mut.ensures.value in
    bounded_with sources c.args.place c.known_span.new.self (c.known_span.ensures.small (all_at IsSmall sources c.args.place c.index_mut.result.now bounded.each at)) bounded

pub returns-clause-told : goal.returns-clause-told
returns-clause-told c = λ cursors_at m all source.
    let sources = c.args.sources.now.items in
    let at = slice_get_read sources (length sources) c.args.place c.index_mut.result.now refl c.requires.there c.index_mut.ensures.value in
    c.known_span.ensures.told c.args.sub.now.cursors m (told_of cursors_at m c.args.sub.now sources c.args.place c.index_mut.result.now at c.requires.place source all)

pub returns-clause-keeps : goal.returns-clause-keeps
returns-clause-keeps c = λ cursors_at m all source.
    let sources = c.args.sources.now.items in
    let at = slice_get_read sources (length sources) c.args.place c.index_mut.result.now refl c.requires.there c.index_mut.ensures.value in
    all_known cursors_at m c.args.sub.now sources c.args.place c.index_mut.result.now c.known_span.new.self at c.requires.place source c.known_span.ensures.same (c.known_span.ensures.keeps c.args.sub.now.cursors m) all

pub returns-clause-known : goal.returns-clause-known
returns-clause-known c = λ some all.
    let sources = c.args.sources.now.items in
    let at = slice_get_read sources (length sources) c.args.place c.index_mut.result.now refl c.requires.there c.index_mut.ensures.value in
    c.known_span.ensures.known some (subst (λ (o : Option ASource). c.args.until ≤ known_by o c.args.from c.args.until) at all)

pub returns-clause-there : goal.returns-clause-there
returns-clause-there c = subst (λ n. c.args.place < n) (sym (set_length c.args.sources.now.items c.args.place c.known_span.new.self)) c.requires.there

pub returns-clause-place : goal.returns-clause-place
returns-clause-place c =
    let sources = c.args.sources.now.items in
    let sub = c.args.sub.now in
    let at = slice_get_read sources (length sources) c.args.place c.index_mut.result.now refl c.requires.there c.index_mut.ensures.value in
    let was = of_place sources sub.name sub.params c.index_mut.result.now c.args.place at c.requires.place in
    let now : IsOf sub.name sub.params c.known_span.new.self = record { name_is = c.known_span.ensures.same.name ∙ was.name_is; params_are = c.known_span.ensures.same.params ∙ was.params_are } in
    place_there _ sub.name sub.params c.known_span.new.self c.args.place (set_there sources c.args.place c.index_mut.result.now c.known_span.new.self at) now

pub returns-clause-others : goal.returns-clause-others
returns-clause-others c =
    let sources = c.args.sources.now.items in
    let sub = c.args.sub.now in
    let at = slice_get_read sources (length sources) c.args.place c.index_mut.result.now refl c.requires.there c.index_mut.ensures.value in
    let was = of_place sources sub.name sub.params c.index_mut.result.now c.args.place at c.requires.place in
    let now : IsOf sub.name sub.params c.known_span.new.self = record { name_is = c.known_span.ensures.same.name ∙ was.name_is; params_are = c.known_span.ensures.same.params ∙ was.params_are } in
    others_set sub.name sub.params sources c.args.place c.index_mut.result.now c.known_span.new.self at was now
