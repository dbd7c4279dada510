-- Ways by place.
use Rattle.std.specs.Prelude.{ℕ, zero, suc, List, [], ◌∷◌}
use Rattle.std.specs.declared.alloc.Global.{Global}
use denote.RawPtr.{Ptr, null_ptr}
use Rattle.duct.specs.Rings.{Way}

-- a way that is none
abbrev pub no_way : Way
no_way = record { words = null_ptr; slots = null_ptr; names = (0, (0, 0)); heap = record { memory = record { seal = tt } } }

-- the way at each place
abbrev pub way_at : List Way → ℕ → Way
way_at [] n = no_way
way_at (w ∷ ws) zero = w
way_at (w ∷ ws) (suc n) = way_at ws n
