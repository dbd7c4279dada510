-- How the `sort` and the `limit` of a cursor are read: one pair to eight of a path with `1`, least first, or `-1`, greatest first; and a number from
-- 1 to 10,000 (the sort specifiers and the limit of Meteor's `find`). A cursor without `sort` has no sort keys.
use Rattle.std.specs.Prelude.{ℕ, ℤ, pos, negsuc, Bool, true, false, not, List, [], ◌∷◌, ◌++◌, length, codes, Option, None, Some, Ok, slice_get}
use Rattle.std.specs.Prelude.{nat_lt, nat_le, ◌==◌, if◌then◌else◌, ◌&&◌}
use Rattle.std.proofs.Common.{int_eq}
use Rattle.value_model.specs.Val.{Val, int, text, list, Vals, no_vals, val, Fields, list_of}
use Rattle.value_model.specs.Branches.{field_of, path_of}
use Rattle.ejson_value.specs.Results.{made, and_then}
use Rattle.ejson_value.specs.declared.sort.SortKey.{SortKey}
use Rattle.program_reading.specs.declared.fault.Flaw.TheVariants as flaw
use Rattle.program_reading.specs.Faults.{Place, below, element, Reading, bad}
use Rattle.app_model.specs.Fields.{APath, or_bad_shape}

-- the most sort keys, and the greatest limit
abbrev pub max_keys : ℕ
max_keys = 8

abbrev pub max_limit : ℕ
max_limit = 10000

abbrev pub limit_by : ℕ → Option ℕ
limit_by n = if nat_le 1 n && nat_le n max_limit then Some n else None

abbrev pub limit_in : ℤ → Option ℕ
limit_in (pos n) = limit_by n
limit_in (negsuc n) = None

abbrev pub limit_of : Val → Option ℕ
limit_of (int z) = limit_in z
limit_of v = None

abbrev pub limit_reading : Place → Option Val → Reading (Option ℕ)
limit_reading place None = Ok None
limit_reading place (Some v) = made (λ n. Some n) (or_bad_shape place (limit_of v))

-- whether a sort key is descending
abbrev pub direction_in : ℤ → Option Bool
direction_in z = if int_eq z (pos 1) then Some false else (if int_eq z (negsuc 0) then Some true else None)

abbrev pub direction_of : Option Val → Option Bool
direction_of (Some (int z)) = direction_in z
direction_of _ = None

abbrev pub sort_path_of : Option Val → Option APath
sort_path_of (Some (text written)) = path_of written
sort_path_of _ = None

abbrev pub key_with : Option APath → Option Bool → Option SortKey
key_with (Some path) (Some descending) = Some (record { path = path; descending = descending })
key_with _ _ = None

abbrev pub key_of : List Val → Option SortKey
key_of vs = if length vs == 2 then key_with (sort_path_of (slice_get vs 0)) (direction_of (slice_get vs 1)) else None

-- the sort key at this place
abbrev pub key_reading : Place → Val → Reading SortKey
key_reading place (list vs) = or_bad_shape place (key_of (list_of vs))
key_reading place v = bad flaw.BadShape place

-- more sort keys, behind those so far
abbrev pub keys_behind : Place → List SortKey → Vals → Reading (List SortKey)
keys_behind place keys no_vals = Ok keys
keys_behind place keys (val v vs) = and_then (key_reading (element place (length keys)) v) (λ key. keys_behind place (keys ++ key ∷ []) vs)

abbrev pub keys_reading : Place → Vals → Reading (List SortKey)
keys_reading place vs =
    if not (nat_lt 0 (length (list_of vs))) then bad flaw.BadShape place else (
    if nat_lt max_keys (length (list_of vs)) then bad flaw.TooMany place else keys_behind place [] vs)

abbrev pub sort_reading : Place → Option Val → Reading (List SortKey)
sort_reading place None = Ok []
sort_reading place (Some (list vs)) = keys_reading place vs
sort_reading place (Some v) = bad flaw.BadShape place

-- the limit and the sort keys of a cursor
abbrev pub window_reading : Place → Fields → Reading (Option ℕ × List SortKey)
window_reading place fs =
    and_then (limit_reading (below place (codes "limit")) (field_of fs (codes "limit"))) (λ limit.
    and_then (sort_reading (below place (codes "sort")) (field_of fs (codes "sort"))) (λ sort. Ok (limit, sort)))
