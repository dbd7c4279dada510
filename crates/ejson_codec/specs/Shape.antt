-- What a JSON object stands for in EJSON, by the exact set of its keys.
use Rattle.std.specs.Prelude.{ℕ, List, [], ◌∷◌, codes, ◌&&◌, if◌then◌else◌}
use Rattle.serde_json.specs.Data.{Data, null, Members, no_members, member}
use Rattle.value_model.specs.Size.{is_name}
use Rattle.ejson_codec.specs.declared.shape.Shape.{Shape}
use Rattle.ejson_codec.specs.declared.shape.Shape.TheVariants.{Plain, Date, Binary, Escape, User, Unsupported}

-- the keys of an object, by rising bytes
abbrev pub keys_of_members : Members → List (List ℕ)
keys_of_members no_members = []
keys_of_members (member key d ms) = key ∷ keys_of_members ms

abbrev pub shape_of_one : List ℕ → Shape
shape_of_one key =
    if is_name key (codes "$date") then Date
    else (if is_name key (codes "$binary") then Binary
    else (if is_name key (codes "$escape") then Escape
    else (if is_name key (codes "$InfNaN") then Unsupported else Plain)))

abbrev pub shape_of_two : List ℕ → List ℕ → Shape
shape_of_two first second =
    if is_name first (codes "$flags") && is_name second (codes "$regexp") then Unsupported
    else (if is_name first (codes "$type") && is_name second (codes "$value") then User else Plain)

-- The forms of the EJSON appendix, and those that Meteor's `ejson` package writes beside them: `$InfNaN` and regular expressions.
-- `$date`, `$binary`, `$escape` and `$InfNaN` alone, `$flags` with `$regexp` and `$type` with `$value`; every other object is plain
abbrev pub shape_of : List (List ℕ) → Shape
shape_of [] = Plain
shape_of (key ∷ []) = shape_of_one key
shape_of (first ∷ second ∷ []) = shape_of_two first second
shape_of (first ∷ second ∷ third ∷ more) = Plain

-- what stands at the first key
abbrev pub first_of : Members → Data
first_of no_members = null
first_of (member key d ms) = d
