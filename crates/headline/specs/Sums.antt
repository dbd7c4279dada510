-- Sums over the clients that are there: what becomes of them where one client changes.
use Rattle.std.specs.Prelude.{ℕ, List, if◌then◌else◌}
use Rattle.world_model.specs.Conn.{Conn}

-- ---- sums over clients

abbrev pub weigh : (Conn → ℕ) → Conn → ℕ
weigh f c = if c.is_dropped then 0 else f c

abbrev pub weight_of : (Conn → ℕ) → List ℕ × Conn → ℕ
weight_of f e = weigh f e.1
