use Rattle.std.proofs.Common.{rules, ap, ◌∙◌}
use Rattle.std.proofs.lemmas.Fn.{always_returns_same}
use Rattle.std.proofs.lemmas.List.Sorted.{ranks_by, sorted_far}
use Rattle.sort_window.specs.SortingLaws.{pair_total}
use Rattle.publication.specs.declared.ordered.Match.{Match}
use Rattle.publication.specs.Published.{rank, stands_before, is_within}
use Rattle.publication.specs.Ordered.{document_in, goes_before}
use Rattle.publication.proofs.Choosing.{order_from, count_moved}
use Rattle.publication.proofs.ordered.in_order.Goals as goal

pub returns : goal.returns
returns c =
    let cursor = c.args.cursor.now in
    let xs = c.in_ok-docs.docs.items in
    let ys = c.sort_by.new.self.items in
    let lt = λ (x y : Match). goes_before cursor.sort (document_in x) (document_in y) in
    let weak = ranks_by (pair_total cursor.sort) document_in in
    let up = c.in_ok-sort_by.ensures.sorted lt weak (always_returns_same _ _ _ (λ a r f called. (search rules, search rules))) in
    record {
      order = order_from cursor.sort document_in ys (λ i j d within below. sorted_far lt weak ys up i j d within below);
      same = λ id doc. ap (λ n. is_within cursor.limit n) (count_moved (stands_before cursor id doc) document_in xs ys c.in_ok-sort_by.ensures.permutation
          ∙ ap (λ docs. rank cursor docs id doc) c.in_ok-docs.ensures);
    }
