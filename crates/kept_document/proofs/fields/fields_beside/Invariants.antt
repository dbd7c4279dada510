use Rattle.std.proofs.Common.{◌≡◌, ℕ, List, ◌++◌, length}
use Rattle.value_model.specs.Val.{Val}
use Rattle.value_model.specs.Order.{text_cmp}
use Rattle.map_model.specs.Maps.{filter_map_entries}
use Rattle.kept_document.specs.Sides.{Both, side_by_side, fields_left}
use Rattle.kept_document.proofs.Beside.{field_after}
use Rattle.kept_document.proofs.fields.fields_beside.Given as goal

abbrev pub invariant-loop-side : goal.invariant-loop-side
invariant-loop-side l = record {
  done : List (List ℕ × Both (List (ℕ × Val)) Val);
  whole : side_by_side text_cmp l.fields.entries l.doc ≡ done ++ fields_left l.sides.kept l.sides.kept_rest l.sides.given l.sides.given_rest;
  made : l.made.entries ≡ filter_map_entries (field_after l.sub) done;
}

abbrev pub decreases-loop-side : goal.decreases-loop-side
decreases-loop-side l = length (fields_left l.sides.kept l.sides.kept_rest l.sides.given l.sides.given_rest)
