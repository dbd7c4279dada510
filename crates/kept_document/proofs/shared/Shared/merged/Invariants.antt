use Rattle.std.proofs.Common.{◌≡◌, ℕ, List, ◌++◌}
use Rattle.value_model.specs.Val.{Val}
use Rattle.merge_model.specs.Kept.{merged_fields}
use Rattle.kept_document.proofs.shared.Shared.merged.Given as goal

abbrev pub invariant-loop-name : goal.invariant-loop-name
invariant-loop-name l = record {
  can_next : goal.iterator-loop-name.can_next l.name-iterator;
  is_finite : goal.iterator-loop-name.is_finite l.name-iterator;
  done : List (List ℕ × List (ℕ × Val));
  whole : l.initial.name-iterator ≡ done ++ l.name-iterator;
  made : l.doc ≡ merged_fields done;
}
