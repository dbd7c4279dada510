use Rattle.std.proofs.Common.{◌≡◌, ℕ, List, [], ◌++◌, IsSome, unwrap_or}
use Rattle.value_model.specs.Val.{Val}
use Rattle.value_model.specs.Order.{text_cmp}
use Rattle.map_model.specs.Maps.{at}
use Rattle.kept_document.proofs.fields.make_places.Given as goal

abbrev pub invariant-loop-name : goal.invariant-loop-name
invariant-loop-name l = record {
  can_next : goal.iterator-loop-name.can_next l.name-iterator;
  is_finite : goal.iterator-loop-name.is_finite l.name-iterator;
  done : List (List ℕ × List (ℕ × Val));
  whole : l.initial.name-iterator ≡ done ++ l.name-iterator;
  same : (f : List ℕ) → unwrap_or (at text_cmp l.fields.entries f) [] ≡ unwrap_or (at text_cmp l.initial.fields.entries f) [];
  grows : (f : List ℕ) → IsSome (at text_cmp l.initial.fields.entries f) → IsSome (at text_cmp l.fields.entries f);
  room : (f : List ℕ) → IsSome (at text_cmp done f) → IsSome (at text_cmp l.fields.entries f);
}
