use Rattle.std.proofs.Common.{◌≡◌, ◌≤◌, List, Option, None, slice_get, sym, subst, arith}
use Rattle.multiplexer.specs.Looks.{source_for, known_by, known_in}
use Rattle.multiplexer.specs.Others.{OthersStay}
use Rattle.multiplexer.specs.Telling.{ASource, ANews, AreTold}
use Rattle.multiplexer.proofs.news.Multiplexer.known.Goals as goal

pub returns-in-Some-clause-lent : goal.returns-in-Some-clause-lent
returns-in-Some-clause-lent c = λ cursors_at m told source.
    let was = subst (AreTold cursors_at m) (sym c.self.view_is) told in
    c.lend_known.ensures.lent cursors_at m was.sources source

pub returns-in-Some-clause-keeps : goal.returns-in-Some-clause-keeps
returns-in-Some-clause-keeps c = λ cursors_at m told source.
    let was = subst (AreTold cursors_at m) (sym c.self.view_is) told in
    record { sources = c.lend_known.ensures.keeps cursors_at m was.sources source; batch = was.batch }

pub returns-in-Some-clause-others : goal.returns-in-Some-clause-others
returns-in-Some-clause-others c =
    let sub = c.args.sub.now in
    subst (λ (news : ANews). OthersStay sub.name sub.params news.sources c.lend_known.new.sources.items) c.self.view_is c.lend_known.ensures.others

pub returns-in-Some-clause-known : goal.returns-in-Some-clause-known
returns-in-Some-clause-known c = λ some all.
    let sources = c.self.inside.sources.items in
    let sub = c.args.sub.now in
    let place = c.in-Some.place in
    let first : slice_get sources place ≡ source_for sub.name sub.params sources =
    subst (λ (ss : List ASource). slice_get ss place ≡ source_for sub.name sub.params ss) c.as_slice.ensures.value c.in-Some.ensures.first in
    let was = subst (λ (news : ANews). c.args.until ≤ known_in news.sources sub.name sub.params c.args.from c.args.until) (sym c.self.view_is) all in
    c.lend_known.ensures.known some (subst (λ (o : Option ASource). c.args.until ≤ known_by o c.args.from c.args.until) (sym first) was)

pub returns-in-None-clause-known : goal.returns-in-None-clause-known
returns-in-None-clause-known c = λ some all.
    let sources = c.self.inside.sources.items in
    let sub = c.args.sub.now in
    let none : source_for sub.name sub.params sources ≡ None =
    subst (λ (ss : List ASource). source_for sub.name sub.params ss ≡ None) c.as_slice.ensures.value (sym c.in-None.ensures.first) in
    let was = subst (λ (news : ANews). c.args.until ≤ known_in news.sources sub.name sub.params c.args.from c.args.until) (sym c.self.view_is) all in
    let low : c.args.until ≤ c.args.from = subst (λ (o : Option ASource). c.args.until ≤ known_by o c.args.from c.args.until) none was in
    absurd (omega (arith, some, low))
