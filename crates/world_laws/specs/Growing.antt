-- A client's part of a round adds entries of its session alone, and leaves its number and that it is there.
use Rattle.std.specs.Prelude.{◌≡◌, ℕ, ◌==◌, List, ◌++◌, false}
use Rattle.headline.specs.history_model.declared.entry.Entry.{Entry}
use Rattle.world_laws.specs.Gone.{AreNotBy}
use Rattle.world_rounds_laws.specs.Visits.{Side}

pub record Grows (s t : Side) : Type 0 where
  pub more : List Entry
  pub behind : t.history ≡ s.history ++ more
  pub apart : (n : ℕ) → (n == s.conn.number) ≡ false → AreNotBy n more
  pub number : t.conn.number ≡ s.conn.number
  pub there : t.conn.is_dropped ≡ s.conn.is_dropped
