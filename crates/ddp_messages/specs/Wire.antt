-- The form that a document's id has in a message (Meteor's `mongo-id` package, `idStringify` for a text).
use Rattle.std.specs.Prelude.{◌≡◌, ℕ, ◌<◌, ◌==◌, ◌&&◌, ◌||◌, nat_le, List, [], ◌∷◌, length, Bool, false, Option, Some, None, if◌then◌else◌}
use Rattle.std.specs.List.{list_all}

-- a digit of a written object id: `0` to `9` and `a` to `f`
abbrev pub is_hex_digit : ℕ → Bool
is_hex_digit b = (nat_le 48 b && nat_le b 57) || (nat_le 97 b && nat_le b 102)

-- whether a text would be taken for the object id of MongoDB that it spells: 24 such digits
abbrev pub is_object_id : List ℕ → Bool
is_object_id s = (length s == 24) && list_all is_hex_digit s

-- whether a text begins with one of the marks of the wire form: `-`, `~`, `{`
abbrev pub has_mark : List ℕ → Bool
has_mark [] = false
has_mark (b ∷ s) = (b == 45) || (b == 126) || (b == 123)

-- whether an id would be taken for something else if it stood as it is
abbrev pub needs_dash : List ℕ → Bool
needs_dash s = has_mark s || is_object_id s

-- an id's wire form: the id, behind a `-` where it would be taken for something else
abbrev pub wire_of : List ℕ → List ℕ
wire_of id = if needs_dash id then 45 ∷ id else id

-- the text is the wire form of this id, which isn't empty
abbrev pub IsWireOf : List ℕ → List ℕ → Type 0
IsWireOf id wire = (0 < length id) × (wire ≡ wire_of id)

-- the id that has this wire form, if there is one
abbrev pub own_of : List ℕ → Option (List ℕ)
own_of [] = None
own_of (b ∷ s) =
    if b == 45 then (if needs_dash s then Some s else None)
    else (if needs_dash (b ∷ s) then None else Some (b ∷ s))
