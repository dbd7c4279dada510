use Rattle.std.proofs.Common.{sym, ◌∙◌}
use Rattle.sort_window.specs.SortingLaws.{pair_cmp, pair_total}
use Rattle.publication.specs.Ordered.{document_in}
use Rattle.publication.proofs.Choosing.{order_is, greater_is}
use Rattle.publication.proofs.ordered.compare.Goals as goal

pub returns-then-before-2 : goal.returns-then-before-2
returns-then-before-2 c =
    let sort = c.args.sort.now in
    let a = document_in c.args.a.now in
    let b = document_in c.args.b.now in
    sym (greater_is (pair_cmp sort a b) (pair_cmp sort b a) ((pair_total sort).antisymm a b) (sym c.before-else-before.ensures ∙ c.if-before-2.true))

pub returns-else-before-2 : goal.returns-else-before-2
returns-else-before-2 c =
    let sort = c.args.sort.now in
    let a = document_in c.args.a.now in
    let b = document_in c.args.b.now in
    sym (order_is (pair_cmp sort a b) (pair_cmp sort b a) ((pair_total sort).antisymm a b) (sym c.before-2.ensures ∙ c.if-before.false) (sym c.before-else-before.ensures ∙ c.if-before-2.false))
