-- What a projection leaves of a document (MongoDB's documentation, "Project Fields to Return from Query"; field specifiers, in Meteor's).
use Rattle.std.specs.Prelude.{ℕ, Bool, true, false, not, List, [], ◌∷◌, length, ◌==◌, Option, None, Some, if◌then◌else◌}
use Rattle.std.specs.List.{list_any, filter_map}
use Rattle.value_model.specs.Val.{Val, list, object, Vals, no_vals, val, Fields, no_fields, field}
use Rattle.value_model.specs.Size.{is_name}
use Rattle.app_model.specs.declared.publication.Projection.{Projection}
use Rattle.app_model.specs.declared.publication.Projection.TheVariants as projection

abbrev pub APath : Type 0
APath = List (List ℕ)

-- what a path says below a field: its rest, where the field is its first part
abbrev pub rest_below : List ℕ → APath → Option APath
rest_below name [] = None
rest_below name (part ∷ rest) = if is_name part name then Some rest else None

abbrev pub rests_below : List ℕ → List APath → List APath
rests_below name paths = filter_map (λ path. rest_below name path) paths

abbrev pub is_end : APath → Bool
is_end rest = length rest == 0

-- whether one of the paths ends here
abbrev pub ends_here : List APath → Bool
ends_here rests = list_any (λ rest. is_end rest) rests

abbrev pub reaches_nothing : List APath → Bool
reaches_nothing rests = length rests == 0

abbrev pub whole_if : Bool → Val → Option Val
whole_if true v = Some v
whole_if false v = None

-- A field at which an included path ends is published whole, and one that no included path reaches isn't; with excluded paths it is the other way round.
abbrev pub field_projected : Bool → List APath → Val → Option Val → Option Val
field_projected including rests v inside =
    if ends_here rests then whole_if including v else (if reaches_nothing rests then whole_if (not including) v else inside)

abbrev pub element_before : Option Val → Vals → Vals
element_before None vs = vs
element_before (Some v) vs = val v vs

abbrev pub field_before : List ℕ → Option Val → Fields → Fields
field_before name None fs = fs
field_before name (Some v) fs = field name v fs

-- Paths that go on in a value go into the fields of an object and into each element of a list.
-- Of any other value included paths leave nothing, and excluded ones all.
abbrev mutual
  pub value_projected : Bool → List APath → Val → Option Val
  value_projected including paths (object fs) = Some (object (fields_projected including paths fs))
  value_projected including paths (list vs) = Some (list (elements_projected including paths vs))
  value_projected including paths v = whole_if (not including) v

  pub elements_projected : Bool → List APath → Vals → Vals
  elements_projected including paths no_vals = no_vals
  elements_projected including paths (val v vs) = element_before (value_projected including paths v) (elements_projected including paths vs)

  pub fields_projected : Bool → List APath → Fields → Fields
  fields_projected including paths no_fields = no_fields
  fields_projected including paths (field name v fs) =
      field_before name (field_projected including (rests_below name paths) v (value_projected including (rests_below name paths) v))
      (fields_projected including paths fs)

-- what is left of one field
abbrev pub at_field : Bool → List APath → List ℕ → Val → Option Val
at_field including paths name v = field_projected including (rests_below name paths) v (value_projected including (rests_below name paths) v)

abbrev pub projected : Projection → Fields → Fields
projected projection.All fs = fs
projected (projection.Only paths) fs = fields_projected true paths fs
projected (projection.Without paths) fs = fields_projected false paths fs
