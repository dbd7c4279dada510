use Rattle.std.proofs.Common.{sym, subst}
use Rattle.known_texts.specs.Places.{Texts}
use Rattle.session_core.specs.Known.{AreRightBy}
use Rattle.session_core.specs.Kept.{seen}
use Rattle.session_core.proofs.inner.add.Goals as goal

pub add_known-requires-clause-right : goal.add_known-requires-clause-right
add_known-requires-clause-right c = subst (λ (ts : Texts). AreRightBy c.args.news.now (seen c.args.inner.now).carried.box ts) (sym c.new-known.ensures) tt
