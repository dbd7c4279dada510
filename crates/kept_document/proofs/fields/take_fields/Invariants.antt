use Rattle.std.proofs.Common.{◌≡◌, ℕ, List, [], IsSome, unwrap_or}
use Rattle.std.specs.BTreeMap.{btree_map_len}
use Rattle.value_model.specs.Order.{text_cmp}
use Rattle.map_model.specs.Maps.{at}
use Rattle.kept_document.proofs.fields.take_fields.Given as goal

abbrev pub invariant-loop-name : goal.invariant-loop-name
invariant-loop-name l = record {
  claims : (f : List ℕ) → unwrap_or (at text_cmp l.changes.entries f) (unwrap_or (at text_cmp l.fields.entries f) []) ≡ unwrap_or (at text_cmp l.initial.changes.entries f) (unwrap_or (at text_cmp l.initial.fields.entries f) []);
  room : (f : List ℕ) → IsSome (at text_cmp l.changes.entries f) → IsSome (at text_cmp l.fields.entries f);
}

abbrev pub decreases-loop-name : goal.decreases-loop-name
decreases-loop-name l = btree_map_len l.changes
