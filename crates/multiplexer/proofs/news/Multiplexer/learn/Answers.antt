use Rattle.std.proofs.Common.{◌≡◌, ◌<◌, ℕ, List, length, take, slice_get, None, sym, subst}
use Rattle.std.specs.Arc.{arc_value}
use Rattle.value_model.specs.Val.{Val}
use Rattle.multiplexer.specs.Looks.{source_for}
use Rattle.multiplexer.specs.Others.{OthersStay}
use Rattle.multiplexer.specs.Telling.{ASource, ANews, AreTold}
use Rattle.multiplexer.specs.Sources.{IsPlaceOf}
use Rattle.multiplexer.proofs.news.Multiplexer.learn.Goals as goal

pub returns-in-Some-clause-told : goal.returns-in-Some-clause-told
returns-in-Some-clause-told c = λ cursors_at m sub from until told source is.
    let was = subst (AreTold cursors_at m) (sym c.self.view_is) told in
    let sources = c.self.inside.sources.items in
    let place = c.in-Some.place in
    let name = c.args.lent.name in
    let there = subst (λ (ps : List Val). IsPlaceOf sources name ps place) c.deref.ensures (subst (λ (ss : List ASource). IsPlaceOf ss name c.deref.result.now place) c.as_slice.ensures.value c.in-Some.ensures.place) in
    let placed = subst (λ (n : List ℕ). IsPlaceOf sources n sub.params place) is.name (subst (λ (ps : List Val). IsPlaceOf sources name ps place) is.params there) in
    record { sources = c.learn_at.ensures.told cursors_at m sub from until was.sources source placed is.asked; batch = was.batch }

pub returns-in-Some-clause-known : goal.returns-in-Some-clause-known
returns-in-Some-clause-known c = λ has.
    let sources = c.self.inside.sources.items in
    let place = c.in-Some.place in
    let name = c.args.lent.name in
    let within = subst (λ (ss : List ASource). place < length ss) c.as_slice.ensures.value c.in-Some.ensures.within in
    let first = subst (λ (ps : List Val). slice_get sources place ≡ source_for name ps sources) c.deref.ensures (subst (λ (ss : List ASource). slice_get ss place ≡ source_for name c.deref.result.now ss) c.as_slice.ensures.value c.in-Some.ensures.first) in
    let none = subst (λ (ps : List Val). source_for name ps (take place sources) ≡ None) c.deref.ensures (subst (λ (ss : List ASource). source_for name c.deref.result.now (take place ss) ≡ None) c.as_slice.ensures.value c.in-Some.ensures.none) in
    c.learn_at.ensures.known name _ within none first

pub returns-in-Some-clause-others : goal.returns-in-Some-clause-others
returns-in-Some-clause-others c =
    let sources = c.self.inside.sources.items in
    let place = c.in-Some.place in
    let name = c.args.lent.name in
    let params = arc_value c.args.lent.params in
    let there = subst (λ (ps : List Val). IsPlaceOf sources name ps place) c.deref.ensures (subst (λ (ss : List ASource). IsPlaceOf ss name c.deref.result.now place) c.as_slice.ensures.value c.in-Some.ensures.place) in
    subst (λ (news : ANews). OthersStay name params news.sources c.learn_at.new.sources.items) c.self.view_is (c.learn_at.ensures.others name params there)
