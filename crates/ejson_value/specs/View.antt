-- What contracts see of a value.
use Rattle.std.specs.Prelude.{ℕ, List, [], map, Option, None, Some, Vec}
use Rattle.std.specs.declared.sync.Arc.{Arc}
use Rattle.std.specs.Arc.{arc_value}
use Rattle.value_model.specs.Val.{Val, Entries, null, boolean, int, text, date, bytes, list, object, user, vals_of, fields_of}
use Rattle.ejson_value.specs.declared.value.Value.{Value}
use Rattle.ejson_value.specs.declared.value.Value.TheVariants as shape
use Rattle.std.specs.Slice.Iter.{iter_rest}
use Rattle.ejson_value.specs.declared.row.Member.{Member}
use Rattle.ejson_value.specs.declared.members.Members.{Members}
use Rattle.ejson_value.specs.declared.members.Members.TheVariants as members
use Rattle.ejson_value.specs.declared.members.Walk.{Walk}
use Rattle.ejson_value.specs.declared.members.Walk.TheVariants as walk

abbrev pub view : Value → Val
view shape.Null = null
view (shape.Bool b) = boolean b
view (shape.Int z) = int z
view (shape.Text s) = text s
view (shape.Date z) = date z
view (shape.Bytes s) = bytes s
view (shape.List vs) = list (vals_of vs)
view (shape.Object es) = object (fields_of es)
view (shape.User name v) = user name v

abbrev pub views : List Value → List Val
views vs = map view vs

-- the fields of a document, whichever way they are held
abbrev pub held_fields : Members → Entries
held_fields (members.Few es) = es
held_fields (members.Many es) = es

-- the fields of a document, which may have no memory
abbrev pub doc_fields : {Z : Type 0} → Option (Arc Entries Z) → Entries
doc_fields None = []
doc_fields (Some fields) = arc_value fields

-- the values of a list, which may have no memory
abbrev pub held_items : {Y Z : Type 0} → Option (Arc (Vec Value Y) Z) → List Value
held_items None = []
held_items (Some items) = (arc_value items).items

-- the fields of a row as the program holds them
abbrev pub pairs : List Member → List (List ℕ × Value)
pairs ms = map (λ m. (m.name, m.value)) ms

abbrev pub entries : List (List ℕ × Value) → Entries
entries es = map (λ e. (e.0, view e.1)) es

-- the fields that a walk has yet to pass
abbrev pub left : Walk → List (List ℕ × Value)
left walk.None = []
left (walk.Few it) = pairs (iter_rest it)
left (walk.Many es) = es
