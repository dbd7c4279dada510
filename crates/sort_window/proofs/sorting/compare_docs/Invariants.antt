use Rattle.std.proofs.Common.{◌≡◌, drop}
use Rattle.sort_window.specs.Sorting.{docs_cmp}
use Rattle.sort_window.proofs.sorting.compare_docs.Given as goal

abbrev pub invariant-loop-key : goal.invariant-loop-key
invariant-loop-key l = docs_cmp (drop l.key-index l.sort) l.a l.b ≡ docs_cmp l.sort l.a l.b
