use Rattle.std.specs.Prelude.{◌≡◌, ◌<◌, ℕ, true, slice_index}
use mathlib.Core.List.{IsPrefix}
use Rattle.server_connection.specs.Ends.{HasEnded, IsOver}
use Rattle.server_connection.proofs.ending.end_each.Given as goal

abbrev pub invariant-loop-k : goal.invariant-loop-k
invariant-loop-k g l = record {
  over : (place : ℕ) → place < l.k-index → IsOver g.N.StoreName.app l.pass l.number (slice_index l.calls place);
  ended : l.begun ≡ true → (place : ℕ) → place < l.k-index → HasEnded g.N.StoreName.app l.pass l.number (slice_index l.calls place);
  grows : IsPrefix l.fn.pass l.pass;
}
