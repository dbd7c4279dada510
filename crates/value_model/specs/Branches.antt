-- Paths into documents, and the branches that a path has in a value (dot notation, in MongoDB's documentation of query operators).
use Rattle.std.specs.Prelude.{ℕ, ◌^◌, Bool, true, false, not, List, [], ◌∷◌, ◌++◌, length, Option, None, Some, option_and_then, slice_get}
use Rattle.std.specs.Prelude.{slice_index, nat_lt, nat_le, if◌then◌else◌, ◌&&◌, ◌||◌, ◌==◌}
use Rattle.std.specs.List.{slice_split, list_all, flat_map}
use Rattle.std.specs.Option.{option_map_or}
use Rattle.std.specs.Str.{all_ascii_digits}
use Rattle.std.specs.Str.Parse.{digits_value}
use Rattle.value_model.specs.Val.{Val, list, object, Vals, Fields, list_of, entries_of}
use Rattle.value_model.specs.Doc.{get}

-- the most parts that a path has
abbrev pub max_parts : ℕ
max_parts = 32

-- A path is written as its parts with dots between them.
abbrev pub parts_of : List ℕ → List (List ℕ)
parts_of written = slice_split (λ b. b == 46) written

-- one part to 32, and none of them empty
abbrev pub is_path : List (List ℕ) → Bool
is_path parts = nat_lt 0 (length parts) && nat_le (length parts) max_parts && list_all (λ part. nat_lt 0 (length part)) parts

-- the path that a text writes, if it writes one
abbrev pub path_of : List ℕ → Option (List (List ℕ))
path_of written = if is_path (parts_of written) then Some (parts_of written) else None

-- digits alone, at least one, with no zero before them
abbrev pub has_plain_digits : List ℕ → Bool
has_plain_digits part = nat_lt 0 (length part) && all_ascii_digits part && (length part == 1 || not (slice_index part 0 == 48))

-- A part of a path is also a position in a list where it is `0` or has digits alone and no leading zero. No list has 2^64 elements.
abbrev pub is_position : List ℕ → Bool
is_position part = has_plain_digits part && nat_lt (digits_value 10 part) (2 ^ 64)

abbrev pub position_of : List ℕ → Option ℕ
position_of part = if is_position part then Some (digits_value 10 part) else None

-- A branch is what a path reaches, if it reaches anything, and whether that counts as a whole: as a list that is an element of a list does.
abbrev pub Branch : Type 0
Branch = Option Val × Bool

abbrev pub is_list : Option Val → Bool
is_list (Some (list vs)) = true
is_list _ = false

-- the field of an object
abbrev pub field_of : Fields → List ℕ → Option Val
field_of fs name = get (entries_of fs) name

-- the element of a list at the position that a part of a path writes
abbrev pub element_at : Vals → List ℕ → Option Val
element_at vs part = option_and_then (λ place. slice_get (list_of vs) place) (position_of part)

-- what is said of the fields of an object, and nothing of other values
abbrev pub if_object : {X : Type 0} → (Fields → List X) → Val → List X
if_object f (object fs) = f fs
if_object f _ = []

-- The branches of a path from what was reached so far, which is an element of a list or isn't.
-- At the path's end it is what was reached. From an object the path goes on at the field.
-- From a list it goes on at the element at that position, if there is one, and then in each element that is an object.
-- From any other value, and from nothing, it reaches nothing, which is a branch unless it started from an element of a list.
abbrev pub branches : List (List ℕ) → Option Val → Bool → List Branch
branches [] reached from_list = (reached, from_list && is_list reached) ∷ []
branches (part ∷ rest) (Some (object fs)) from_list = branches rest (field_of fs part) false
branches (part ∷ rest) (Some (list vs)) from_list =
    option_map_or (λ v. branches rest (Some v) true) (element_at vs part) []
    ++ flat_map (λ v. if_object (λ fs. branches rest (field_of fs part) false) v) (list_of vs)
branches (part ∷ rest) _ from_list = if from_list then [] else (None, false) ∷ []
