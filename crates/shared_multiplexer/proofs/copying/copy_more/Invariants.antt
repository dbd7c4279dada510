use Rattle.std.specs.Prelude.{◌≡◌, ◌+◌, length}
use mathlib.Core.List.{IsPrefix}
use Rattle.shared_store.specs.Store.{over}
use Rattle.shared_multiplexer.specs.Copied.{AreCopiedOf}
use Rattle.shared_multiplexer.proofs.copying.copy_more.Given as goal

abbrev pub invariant-loop : goal.invariant-loop
invariant-loop g l = record {
  grows : IsPrefix l.fn.pass l.pass;
  are : AreCopiedOf l.entries (over g.N.StoreName.app l.pass);
  begins : l.entries.first ≡ l.fn.entries.first;
  counts : length l.entries.changes ≡ length l.fn.entries.changes + l.counter;
}
