-- Each run of a session that goes on is of a call that runs.
use Rattle.std.specs.Prelude.{ℕ, ◌==◌, List, Bool}
use Rattle.std.specs.List.{list_any}
use Rattle.world_invariant_laws.specs.session_model.Methods.{refused, Blocking}

-- ---- a call that was refused

abbrev pub is_among : ℕ → List Blocking → Bool
is_among k bs = list_any (λ (b : Blocking). k == b.k) bs
