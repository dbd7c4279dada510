-- Names, and the keys of the objects that describe an application.
use Rattle.std.specs.Prelude.{ℕ, Bool, List, Option, None, Some, Ok, codes, length, nat_lt, nat_le, if◌then◌else◌, ◌&&◌, ◌||◌}
use Rattle.std.specs.List.{list_any, list_all}
use Rattle.value_model.specs.Val.{Val, text, Fields}
use Rattle.value_model.specs.Size.{is_name, names_of}
use Rattle.ejson_value.specs.Results.{and_then}
use Rattle.program_reading.specs.declared.fault.Flaw.TheVariants as flaw
use Rattle.program_reading.specs.declared.names.Shape.{Shape}
use Rattle.program_reading.specs.declared.names.Shape.TheVariants as shape
use Rattle.program_reading.specs.Faults.{Place, Reading, bad}

-- a name has 1 to 128 bytes
abbrev pub is_valid_name : List ℕ → Bool
is_valid_name name = nat_lt 0 (length name) && nat_le (length name) 128

abbrev pub valid_name : Place → List ℕ → Reading (List ℕ)
valid_name place name = if is_valid_name name then Ok name else bad flaw.BadName place

-- the name that a part is
abbrev pub name_reading : Place → Val → Reading (List ℕ)
name_reading place (text name) = valid_name place name
name_reading place v = bad flaw.BadShape place

abbrev pub has_name : List (List ℕ) → List ℕ → Bool
has_name names name = list_any (λ n. is_name n name) names

abbrev pub if_known : Bool → Place → List ℕ → Reading (List ℕ)
if_known known place name = if known then Ok name else bad flaw.UnknownCollection place

-- one of the collections
abbrev pub known_reading : List (List ℕ) → Place → Option Val → Reading (List ℕ)
known_reading collections place None = bad flaw.BadShape place
known_reading collections place (Some v) = and_then (name_reading place v) (λ name. if_known (has_name collections name) place name)

-- the keys that an object may have
abbrev pub is_key : Shape → List ℕ → Bool
is_key shape.Application key =
    is_name key (codes "collections") || is_name key (codes "methods") || is_name key (codes "publications") || is_name key (codes "rules")
is_key shape.Cursor key =
    is_name key (codes "collection") || is_name key (codes "as") || is_name key (codes "selector") || is_name key (codes "fields") || is_name key
    (codes "sort") || is_name key (codes "limit")
is_key shape.Program key = is_name key (codes "steps") || is_name key (codes "stub")
is_key shape.Rules key = is_name key (codes "allow") || is_name key (codes "deny")
is_key shape.Rule key = is_name key (codes "on") || is_name key (codes "selector") || is_name key (codes "fields")

abbrev pub has_only_keys : Shape → Fields → Bool
has_only_keys s fs = list_all (λ key. is_key s key) (names_of fs)
