use Rattle.std.proofs.Common.{sym, subst}
use Rattle.publication.specs.Ordered.{documents_in, IsChoice}
use Rattle.publication.proofs.Choosing.{no_limit}
use Rattle.publication.proofs.ordered.choice.Goals as goal

pub returns-in-None : goal.returns-in-None
returns-in-None c =
    subst (λ docs. IsChoice c.args.cursor.now c.args.contents.now (documents_in docs)) (sym c.new.ensures.items) (no_limit c.args.cursor.now c.args.contents.now c.in-None.is)
