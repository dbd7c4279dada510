use Rattle.std.proofs.Common.{◌∷◌, ◌++◌, [], List, sym, subst}
use Rattle.ejson_value.specs.declared.change.Change.{Change}
use Rattle.shared_multiplexer.specs.Copied.{ACopy, AreCopiedOf, IsNext}
use Rattle.shared_multiplexer.proofs.Lists.{with_next}
use Rattle.shared_multiplexer.proofs.copied.CopiedEntries.push.Goals as goal

pub returns-clause-are : goal.returns-clause-are
returns-clause-are c = λ m are next.
    let of : List (List Change) → ACopy = λ all. record { first = c.self.inside.first; changes = all } in
    subst (λ all. AreCopiedOf (of all) m) (sym c.in_ok-push.ensures.items)
    (with_next (of c.self.inside.changes.items) m c.args.batch.changes (subst (λ (x : ACopy). AreCopiedOf x m) (sym c.self.view_is) are) (subst (λ (x : ACopy). IsNext x m c.args.batch.changes) (sym c.self.view_is) next))
