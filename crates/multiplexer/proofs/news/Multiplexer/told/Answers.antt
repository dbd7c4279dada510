use Rattle.value_model.specs.Val.{Val}
use Rattle.std.proofs.Common.{◌≡◌, ◌<◌, ℕ, List, length, slice_get, Some, refl, sym, subst, ◌∙◌, arith}
use Rattle.std.specs.Arc.{arc_value}
use Rattle.std.proofs.lemmas.Option.{slice_get_read}
use Rattle.multiplexer.specs.Sources.{IsPlaceOf}
use Rattle.multiplexer.proofs.Finds.{found_some}
use Rattle.multiplexer.proofs.Sources.{of_place}
use Rattle.multiplexer.specs.Looks.{HasSource}
use Rattle.multiplexer.specs.Telling.{ASource, ANews, AreTold}
use Rattle.multiplexer.specs.Others.{OthersStay}
use Rattle.multiplexer.proofs.Others.{others_then}
use Rattle.multiplexer.proofs.news.Multiplexer.told.Goals as goal

pub returns-in_err-place-clause-keeps : goal.returns-in_err-place-clause-keeps
returns-in_err-place-clause-keeps g c = λ cursors_at m are told source. c.place.ensures.keeps cursors_at m (omega (arith, c.requires.order, c.requires.next, c.begins.ensures.within m are)) told

pub returns-in_err-params-clause-keeps : goal.returns-in_err-params-clause-keeps
returns-in_err-params-clause-keeps g c = λ cursors_at m are told source. c.place.ensures.keeps cursors_at m (omega (arith, c.requires.order, c.requires.next, c.begins.ensures.within m are)) told

pub returns-in_err-span-clause-keeps : goal.returns-in_err-span-clause-keeps
returns-in_err-span-clause-keeps g c = λ cursors_at m are told source.
    let mid = subst (AreTold cursors_at m) (sym c.self.view_is) (c.place.ensures.keeps cursors_at m (omega (arith, c.requires.order, c.requires.next, c.begins.ensures.within m are)) told) in
    record { sources = c.span_at.ensures.keeps cursors_at m are mid.sources source; batch = mid.batch }

pub returns-clause-told : goal.returns-clause-told
returns-clause-told g c = λ cursors_at m are told source.
    let mid = subst (AreTold cursors_at m) (sym c.self.view_is) (c.place.ensures.keeps cursors_at m (omega (arith, c.requires.order, c.requires.next, c.begins.ensures.within m are)) told) in
    let sources = c.self.inside.sources.items in
    let sub = c.args.sub.now in
    let place = c.in_ok-place.place in
    let x = c.index.result.now in
    let within = subst (λ (news : ANews). place < length news.sources) (sym c.self.view_is) c.in_ok-place.ensures.within in
    let placed = subst (λ (news : ANews). IsPlaceOf news.sources sub.name sub.params place) (sym c.self.view_is) c.in_ok-place.ensures.place in
    let at : slice_get sources place ≡ Some x = slice_get_read sources (length sources) place x refl within c.index.ensures in
    let of = of_place sources sub.name sub.params x place at placed in
    record { name = c.in_ok-name.ensures; params = c.in_ok-params.ensures ∙ of.params_are; asked = c.in_ok-span.ensures.told cursors_at m are mid.sources source }

pub returns-clause-keeps : goal.returns-clause-keeps
returns-clause-keeps g c = λ cursors_at m are told source.
    let mid = subst (AreTold cursors_at m) (sym c.self.view_is) (c.place.ensures.keeps cursors_at m (omega (arith, c.requires.order, c.requires.next, c.begins.ensures.within m are)) told) in
    record { sources = c.span_at.ensures.keeps cursors_at m are mid.sources source; batch = mid.batch }

pub returns-clause-source : goal.returns-clause-source
returns-clause-source g c =
    let sources = c.self.inside.sources.items in
    let after = c.span_at.new.sources.items in
    let sub = c.args.sub.now in
    let place = c.in_ok-place.place in
    let x = c.index.result.now in
    let within = subst (λ (news : ANews). place < length news.sources) (sym c.self.view_is) c.in_ok-place.ensures.within in
    let placed = subst (λ (news : ANews). IsPlaceOf news.sources sub.name sub.params place) (sym c.self.view_is) c.in_ok-place.ensures.place in
    let at : slice_get sources place ≡ Some x = slice_get_read sources (length sources) place x refl within c.index.ensures in
    let of = of_place sources sub.name sub.params x place at placed in
    let has = found_some sub.name sub.params after place c.span_at.ensures.there c.span_at.ensures.place in
    subst (λ (n : List ℕ). HasSource after n (arc_value c.in_ok-params.params)) (sym c.in_ok-name.ensures) (subst (λ (ps : List Val). HasSource after sub.name ps) (sym (c.in_ok-params.ensures ∙ of.params_are)) has)

pub returns-in_err-span-clause-others : goal.returns-in_err-span-clause-others
returns-in_err-span-clause-others g c = λ room.
    let sub = c.args.sub.now in
    let old = c.args.self.now.sources in
    let placed = subst (λ (news : ANews). OthersStay sub.name sub.params old news.sources) (sym c.self.view_is) (c.place.ensures.others room) in
    others_then sub.name sub.params old c.self.inside.sources.items c.span_at.new.sources.items placed c.span_at.ensures.others

pub returns-clause-others : goal.returns-clause-others
returns-clause-others g c = λ room.
    let sub = c.args.sub.now in
    let old = c.args.self.now.sources in
    let placed = subst (λ (news : ANews). OthersStay sub.name sub.params old news.sources) (sym c.self.view_is) (c.place.ensures.others room) in
    others_then sub.name sub.params old c.self.inside.sources.items c.span_at.new.sources.items placed c.span_at.ensures.others
