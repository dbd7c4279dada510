use Rattle.std.specs.Prelude.{IfOk}
use Rattle.std.proofs.Common.{◌≡◌, sym, subst}
use Rattle.publication.specs.Ordered.{documents_in}
use Rattle.publication.proofs.Choosing.{named_matching}
use Rattle.publication.proofs.ordered.matching.Goals as goal

pub returns-in-Some : goal.returns-in-Some
returns-in-Some c =
    subst (λ docs. IfOk c.matching_named.result (λ found. documents_in found.items ≡ docs))
    (sym (named_matching c.args.cursor.now c.in-Some.id.now c.in-Some.ensures.only c.args.contents.now c.known.ensures.by_key)) c.matching_named.ensures
