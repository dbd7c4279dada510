use Rattle.std.proofs.Common.{◌≡◌, List, None, sym, subst}
use Rattle.multiplexer.specs.Looks.{source_for}
use Rattle.multiplexer.specs.Telling.{ASource, ANews}
use Rattle.multiplexer.proofs.Others.{room_left}
use Rattle.multiplexer.proofs.news.Multiplexer.place.Goals as goal

pub returns-in-None-clause-others : goal.returns-in-None-clause-others
returns-in-None-clause-others c = λ room.
    let name = c.args.name.now in
    let params = c.args.params.now in
    let none : source_for name params c.self.inside.sources.items ≡ None =
    subst (λ (sources : List ASource). source_for name params sources ≡ None) c.as_slice.ensures.value (sym c.in-None.ensures.first) in
    c.begin.ensures.others (room_left name params c.args.self.now.sources (subst (λ (news : ANews). source_for name params news.sources ≡ None) c.self.view_is none) room)
