use Rattle.std.specs.Borrow.{Bor}
use Rattle.std.specs.List.{list_any}
use Rattle.std.specs.Ordering.{is_lt}
use Rattle.std.proofs.Common.{ℕ, List, rules, ap, ◌∙◌}
use Rattle.std.proofs.lemmas.List.Sorted.{ranks_by, answers_always, sorted_far}
use Rattle.std.proofs.lemmas.Cmp.{nat_list_cmp_total, lists_total}
use Rattle.app_model.specs.Fields.{path_cmp}
use Rattle.publication.proofs.SortedPaths.{rising_from, same_moved}
use Rattle.publication.proofs.paths.sorted.Goals as goal

pub returns : goal.returns
returns c =
    let now = λ (r : Bor (List (List ℕ))). r.now in
    let xs = c.in_ok-parts.parts.items in
    let ys = c.sort_by.new.self.items in
    let lt = λ (x y : Bor (List (List ℕ))). is_lt (path_cmp x.now y.now) in
    let weak = ranks_by (lists_total nat_list_cmp_total) now in
    let up = c.in_ok-sort_by.ensures.sorted lt weak (answers_always _ _ _ (λ f a r f' called. search rules)) in
    record {
      same = λ test. same_moved now xs ys c.in_ok-sort_by.ensures.permutation test ∙ ap (λ ps. list_any test ps) c.in_ok-parts.ensures;
      rising = rising_from now ys (λ i j d within below. sorted_far lt weak ys up i j d within below);
    }
