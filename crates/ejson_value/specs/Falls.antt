-- The parts of a value lie less deep than the value.
use Rattle.std.specs.Prelude.{ℕ, ◌+◌, ◌*◌, ◌≤◌, List, [], ◌∷◌, Option, None, Some, Vec}
use Rattle.std.specs.declared.sync.Arc.{Arc}
use Rattle.std.specs.Arc.{arc_value}
use Rattle.std.proofs.Common.{Global, arith}
use Rattle.std.specs.BTreeMap.{BTreeMap, values}
use Rattle.std.specs.Map.{values_of}
use denote.Param.Weighed.{most}
use Rattle.value_model.specs.Val.{Entries, vals_of, fields_of}
use Rattle.value_model.specs.Depth.{depth, vals_depth, fields_depth}
use Rattle.ejson_value.specs.declared.value.Value.{Value}
use Rattle.ejson_value.specs.declared.value.Value.TheVariants as shape
use Rattle.ejson_value.specs.declared.row.Member.{Member}
use Rattle.ejson_value.specs.declared.members.Members.{Members}
use Rattle.ejson_value.specs.declared.members.Members.TheVariants as members
use Rattle.ejson_value.specs.declared.members.Measured.TheDeep.{deep-Value, deep-Member, deep-Members, deep-Doc, deep-Items}
use Rattle.ejson_value.specs.declared.value.Doc.TheInside.{Inside as DocInside}
use Rattle.ejson_value.specs.declared.value.Items.TheInside.{Inside as ItemsInside}
use Rattle.ejson_value.specs.View.{view, views, pairs, entries, held_fields, doc_fields, held_items}

pub deep_le : (v : Value) → deep-Value v ≤ 3 * depth (view v) + 1
deep_le shape.Null = omega arith
deep_le (shape.Bool b) = omega arith
deep_le (shape.Int z) = omega arith
deep_le (shape.Text s) = omega arith
deep_le (shape.Date z) = omega arith
deep_le (shape.Bytes s) = omega arith
deep_le (shape.List vs) = omega arith
deep_le (shape.Object es) = omega arith
deep_le (shape.User name v) = omega arith

pub most_le-depth : (vs : List Value) → most (λ v. deep-Value v) vs ≤ 3 * vals_depth (vals_of (views vs)) + 1
most_le-depth [] = omega arith
most_le-depth (v ∷ vs) = omega (arith, deep_le v, most_le-depth vs)

-- the fields of a row
pub most_le-row : (ms : List Member) → most (λ m. deep-Member m) ms ≤ 3 * fields_depth (fields_of (entries (pairs ms))) + 1
most_le-row [] = omega arith
most_le-row (m ∷ ms) = omega (arith, deep_le m.value, most_le-row ms)

most_le_entries : (es : List (List ℕ × Value)) → most deep-Value (values_of es) ≤ 3 * fields_depth (fields_of (entries es)) + 1
most_le_entries [] = omega arith
most_le_entries (e ∷ es) = omega (arith, deep_le e.1, most_le_entries es)

-- the fields of a table
pub most_le-table : (m : BTreeMap (List ℕ) Value) → most deep-Value (values m) ≤ 3 * fields_depth (fields_of (entries m.entries)) + 1
most_le-table m = most_le_entries m.entries

-- the row or the table of a document
pub members_le : (ms : Members) → deep-Members ms ≤ 3 * fields_depth (fields_of (held_fields ms)) + 2
members_le (members.Few es) = omega arith
members_le (members.Many es) = omega arith

-- a document's memory, if it has some
doc_by : (m : Global) (fields : Option (Arc Entries Global)) →
    deep-Doc (record { alloc = m; fields = fields }) ≤ 3 * fields_depth (fields_of (doc_fields fields)) + 3
doc_by m None = omega arith
doc_by m (Some fields) = omega arith

pub doc_le : (a : DocInside) → deep-Doc a ≤ 3 * fields_depth (fields_of (doc_fields a.fields)) + 3
doc_le a = doc_by a.alloc a.fields

-- a list's memory, if it has some
items_by : (m : Global) (items : Option (Arc (Vec Value Global) Global)) →
    deep-Items (record { alloc = m; items = items }) ≤ 3 * vals_depth (vals_of (views (held_items items))) + 1
items_by m None = omega arith
items_by m (Some items) = omega (arith, most_le-depth (arc_value items).items)

pub items_le : (a : ItemsInside) → deep-Items a ≤ 3 * vals_depth (vals_of (views (held_items a.items))) + 1
items_le a = items_by a.alloc a.items
