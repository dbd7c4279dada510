use Rattle.std.proofs.Common.{sym, subst}
use Rattle.ejson_value.specs.Changes.{news_of}
use Rattle.known_texts.specs.Places.{Texts}
use Rattle.session_core.specs.Known.{AreRight}
use Rattle.session_core.specs.Kept.{seen}
use Rattle.session_core.proofs.showing.go_on.Goals as goal

pub go_on_known-requires-clause-right : goal.go_on_known-requires-clause-right
go_on_known-requires-clause-right c = subst (λ (ts : Texts). AreRight c.args.sub (seen c.args.inner.now).carried.box (news_of c.args.news.now) ts) (sym c.new-known.ensures) tt
