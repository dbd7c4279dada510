-- In a session at rest each method that was asked for was handled, and told `updated`.
use Rattle.std.specs.Prelude.{ℕ, ◌<◌, List, [], ◌∷◌}
use Rattle.headline.specs.session_model.Methods.{Phase, finished, Method}

-- ---- places at which methods finished

abbrev pub IsEarly : ℕ → Phase → Type 0
IsEarly n (finished place) = place < n
IsEarly n p = Unit {0}

abbrev pub AreEarly : ℕ → List Method → Type 0
AreEarly n [] = Unit {0}
AreEarly n (m ∷ ms) = IsEarly n m.phase × AreEarly n ms
