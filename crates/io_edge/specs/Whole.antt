-- The answers of the calls that read and write all.
use Rattle.std.specs.Prelude.{ℕ}
use Rattle.io_edge.specs.declared.whole.WriteAll.{WriteAll}
use Rattle.io_edge.specs.declared.whole.WriteAll.TheVariants.{Failed}

-- how many bytes went out before the failure
abbrev pub written_before : WriteAll → ℕ
written_before (Failed written) = written
