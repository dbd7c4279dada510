-- How the fields of a cursor are read as a projection: `1` at each path to publish these alone, `0` at each to publish all but these (MongoDB's
-- documentation, "Project Fields to Return from Query").
use Rattle.std.specs.Prelude.{◌≡◌, ◌||◌, ℕ, ℤ, pos, Bool, true, false, not, List, [], ◌∷◌, ◌++◌, Option, None, Some, Ok, codes, if◌then◌else◌, ◌&&◌}
use Rattle.std.proofs.Common.{int_eq}
use Rattle.std.specs.List.{list_any}
use Rattle.std.specs.declared.cmp.Ordering.{Ordering}
use Rattle.std.specs.Cmp.Lexicographic.{slice_cmp}
use Rattle.value_model.specs.Order.{text_cmp}
use Rattle.value_model.specs.Val.{Val, int, object, Fields, no_fields, field}
use Rattle.value_model.specs.Size.{is_name}
use Rattle.value_model.specs.Branches.{path_of}
use Rattle.ejson_value.specs.Results.{made, and_then}
use Rattle.program_reading.specs.declared.fault.Flaw.TheVariants as flaw
use Rattle.app_model.specs.declared.publication.Projection.{Projection}
use Rattle.app_model.specs.declared.publication.Projection.TheVariants as projection
use Rattle.program_reading.specs.Faults.{Place, below, Reading, bad}

abbrev pub APath : Type 0
APath = List (List ℕ)

-- what stands at a path that is included, or left out
abbrev pub flag : Bool → ℤ
flag true = pos 1
flag false = pos 0

abbrev pub says : Bool → Val → Bool
says including (int z) = int_eq z (flag including)
says including v = false

abbrev pub begins_with_id : APath → Bool
begins_with_id [] = false
begins_with_id (part ∷ rest) = is_name part (codes "_id")

-- the second path is the first, or goes on from it
abbrev pub leads_to : APath → APath → Bool
leads_to [] q = true
leads_to (a ∷ p) [] = false
leads_to (a ∷ p) (b ∷ q) = is_name a b && leads_to p q

-- A path may follow others where it isn't about the id, and no other is a prefix of it. A prefix comes first in the order of bytes.
abbrev pub can_follow : List APath → APath → Bool
can_follow paths path = not (begins_with_id path) && not (list_any (λ p. leads_to p path) paths)

-- paths part by part, a beginning of a path before the path
abbrev pub path_cmp : APath → APath → Ordering
path_cmp p q = slice_cmp text_cmp p q

-- two lists of paths that pass the same tests
abbrev pub SameTests : List APath → List APath → Type 0
SameTests ps qs = (test : APath → Bool) → list_any test ps ≡ list_any test qs

-- other paths are those before and this one, in whatever order: they pass the same tests
abbrev pub Joins : List APath → List APath → APath → Type 0
Joins old new path = (test : APath → Bool) → list_any test new ≡ (test path || list_any test old)

abbrev pub path_behind : List APath → Option APath → Option APath
path_behind paths None = None
path_behind paths (Some path) = if can_follow paths path then Some path else None

-- the path that a field writes, behind others
abbrev pub next_path : Bool → List APath → List ℕ → Val → Option APath
next_path including paths name v = if says including v then path_behind paths (path_of name) else None

abbrev pub or_bad_shape : {X : Type 0} → Place → Option X → Reading X
or_bad_shape place (Some x) = Ok x
or_bad_shape place None = bad flaw.BadShape place

-- the paths of fields, behind those before
abbrev pub paths_behind : Place → Bool → List APath → Fields → Reading (List APath)
paths_behind place including paths no_fields = Ok paths
paths_behind place including paths (field name v fs) =
    and_then (or_bad_shape (below place name) (next_path including paths name v)) (λ path. paths_behind place including (paths ++ path ∷ []) fs)

abbrev pub projecting : Bool → List APath → Projection
projecting true paths = projection.Only paths
projecting false paths = projection.Without paths

-- The first field says whether paths are included or left out, and the others have to say the same.
abbrev pub fields_reading : Place → Fields → Reading Projection
fields_reading place no_fields = Ok projection.All
fields_reading place (field name v fs) = made (projecting (says true v)) (paths_behind place (says true v) [] (field name v fs))

-- a projection, which may be missing
abbrev pub projection_reading : Place → Option Val → Reading Projection
projection_reading place None = Ok projection.All
projection_reading place (Some (object fs)) = fields_reading place fs
projection_reading place (Some v) = bad flaw.BadShape place
