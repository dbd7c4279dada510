use Rattle.std.specs.Prelude.{vec_len}
use Rattle.std.proofs.Common.{refl, arith, ◌∙◌}
use Rattle.std.proofs.lemmas.Option.{slice_get_read}
use Rattle.multiplexer.specs.Bounds.{IsSmall}
use Rattle.multiplexer.specs.Inside.{seen_span}
use Rattle.multiplexer.specs.Sources.{IsOf}
use Rattle.multiplexer.proofs.Finds.{learnt_known}
use Rattle.multiplexer.proofs.Sources.{all_at, all_learnt, of_place}
use Rattle.multiplexer.proofs.Weights.{bounded_with}
use Rattle.multiplexer.proofs.Others.{others_set}
use Rattle.multiplexer.proofs.news.learn_at.Goals as goal

pub returns-in-Some-clause-bounded : goal.returns-in-Some-clause-bounded
returns-in-Some-clause-bounded c = λ bounded.
    let sources = c.args.sources.now.items in
    let at = slice_get_read sources (vec_len c.args.sources.now) c.args.place c.in-Some.source.now (omega (arith, c.args.sources.now.ok.0)) (c.in-Some.ensures.variant.0 refl) c.in-Some.ensures.value in
    bounded_with sources c.args.place c.learn.new.self (c.learn.ensures.small (all_at IsSmall sources c.args.place c.in-Some.source.now bounded.each at)) bounded

pub returns-in-Some-clause-told : goal.returns-in-Some-clause-told
returns-in-Some-clause-told c = λ cursors_at m sub from until all source placed asked.
    let sources = c.args.sources.now.items in
    let at = slice_get_read sources (vec_len c.args.sources.now) c.args.place c.in-Some.source.now (omega (arith, c.args.sources.now.ok.0)) (c.in-Some.ensures.variant.0 refl) c.in-Some.ensures.value in
    all_learnt cursors_at m sub sources c.args.place c.in-Some.source.now c.learn.new.self (seen_span c.args.span) at placed source asked.is c.learn.ensures.same (c.learn.ensures.told sub.cursors m) all

pub returns-in-Some-clause-known : goal.returns-in-Some-clause-known
returns-in-Some-clause-known c = λ name params within none first.
    let sources = c.args.sources.now.items in
    let at = slice_get_read sources (vec_len c.args.sources.now) c.args.place c.in-Some.source.now (omega (arith, c.args.sources.now.ok.0)) (c.in-Some.ensures.variant.0 refl) c.in-Some.ensures.value in
    learnt_known name params sources c.args.place c.in-Some.source.now c.learn.new.self (seen_span c.args.span) none at first c.learn.ensures.same c.learn.ensures.kept

pub returns-in-Some-clause-others : goal.returns-in-Some-clause-others
returns-in-Some-clause-others c = λ name params placed.
    let sources = c.args.sources.now.items in
    let at = slice_get_read sources (vec_len c.args.sources.now) c.args.place c.in-Some.source.now (omega (arith, c.args.sources.now.ok.0)) (c.in-Some.ensures.variant.0 refl) c.in-Some.ensures.value in
    let was = of_place sources name params c.in-Some.source.now c.args.place at placed in
    let now : IsOf name params c.learn.new.self = record { name_is = c.learn.ensures.same.name ∙ was.name_is; params_are = c.learn.ensures.same.params ∙ was.params_are } in
    others_set name params sources c.args.place c.in-Some.source.now c.learn.new.self at was now
