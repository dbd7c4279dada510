-- What a call leaves of other publications than its own.
use Rattle.std.specs.Prelude.{◌≡◌, ◌⊎◌, ◌<◌, ℕ, List, length}
use Rattle.value_model.specs.Val.{Val}
use Rattle.multiplexer.specs.Bounds.{max_sources}
use Rattle.multiplexer.specs.Looks.{source_for, HasSource}
use Rattle.multiplexer.specs.Telling.{ASource}

-- the publication has a source, or fewer are kept than may be
abbrev pub HasRoom : List ASource → List ℕ → List Val → Type 0
HasRoom sources name params = HasSource sources name params ⊎ (length sources < max_sources)

-- another name, or other parameters
abbrev pub IsOther : List ℕ → List Val → List ℕ → List Val → Type 0
IsOther name params name' params' = (name' ≡ name) × (params' ≡ params) → ⊥

-- each other publication has the source that it had, with all that is told by it, or has none as before
abbrev pub OthersStay : List ℕ → List Val → List ASource → List ASource → Type 0
OthersStay name params old new = (name' : List ℕ) (params' : List Val) → IsOther name params name' params' →
    source_for name' params' new ≡ source_for name' params' old

-- where the publication has room, the others stay
abbrev pub LeavesOthers : List ℕ → List Val → List ASource → List ASource → Type 0
LeavesOthers name params old new = HasRoom old name params → OthersStay name params old new
