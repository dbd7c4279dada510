-- A source and a sink in memory: their bytes, their calls so far, and the calls that are to fail.
use Rattle.std.specs.Prelude.{ℕ, ◌+◌, ◌-◌, ◌^◌, ◌==◌, ◌&&◌, ◌||◌, nat_lt, min, List, ◌++◌, Bool, Option, Some, None, if◌then◌else◌, length, drop}
use Rattle.std.specs.List.{list_any}

-- calls are counted up to this number, and none after it is made to fail
abbrev pub last_call : ℕ
last_call = 2 ^ 64 - 1

-- the number of calls, with one more
abbrev pub with_call : ℕ → ℕ
with_call calls = min (calls + 1) last_call

-- whether the call after this many is one of those that are to fail
abbrev pub is_to_fail : ℕ → List ℕ → Bool
is_to_fail calls failing = nat_lt calls last_call && list_any (λ n. n == calls + 1) failing

pub record Supply : Type 0 where
  pub left : List ℕ
  pub failing : List ℕ
  pub calls : ℕ
  pub faults : ℕ

abbrev pub read_fails : Supply → Bool
read_fails s = is_to_fail s.calls s.failing

-- how many bytes a call reads into this much room
abbrev pub read_length : Supply → ℕ → ℕ
read_length s room = min room (length s.left)

-- after a call that had this much room
abbrev pub after_read : Supply → ℕ → Supply
after_read s room = if read_fails s
    then record s { calls = with_call s.calls; faults = s.faults + 1 }
    else record s { calls = with_call s.calls; left = drop (read_length s room) s.left }

-- how often it was read, up to the last call that is counted
abbrev pub reads_of : Supply → Option ℕ
reads_of s = if nat_lt s.calls last_call then Some s.calls else None

pub record Held : Type 0 where
  pub bytes : List ℕ
  pub room : ℕ
  pub failing : List ℕ
  pub calls : ℕ
  pub faults : ℕ

-- whether a call with so many bytes fails: it is to fail, or they have no room
abbrev pub write_fails : Held → ℕ → Bool
write_fails s count = is_to_fail s.calls s.failing || nat_lt s.room (length s.bytes + count)

-- after a call with these bytes; a call past the last that is counted changes nothing
abbrev pub after_write : Held → List ℕ → Held
after_write s bytes = if nat_lt s.calls last_call
    then (if write_fails s (length bytes)
    then record s { calls = s.calls + 1; faults = s.faults + 1 }
    else record s { calls = s.calls + 1; bytes = s.bytes ++ bytes })
    else s

-- what is told of it, up to the last call that is counted
abbrev pub told_of : Held → Option (List ℕ)
told_of s = if nat_lt s.calls last_call then Some s.bytes else None
