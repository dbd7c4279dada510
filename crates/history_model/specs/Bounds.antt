-- What the laws say of what is held.
use Rattle.std.specs.Prelude.{false, ◌∷◌, [], ◌≡◌, ℕ, ◌+◌, ◌≤◌, true, Option, None, Some, IfSome}
use Rattle.map_model.specs.Maps.{at, IsSorted}
use Rattle.ejson_value.specs.Key.{key_cmp}
use Rattle.value_model.specs.Val.{Entries}
use Rattle.ejson_value.specs.declared.key.Key.{Key}
use Rattle.ejson_value.specs.Rows.{Rows}
use Rattle.collection_store.specs.Limits.{is_too_large}
use Rattle.program_model.specs.Run.{is_id}
use Rattle.program_model.specs.Kept.{is_over, IsRun}
use Rattle.history_model.specs.History.{RunKey, run_cmp, Begun, Runs, Held, reserved, max_entries, max_kept}

-- each run has come to something exactly where it has no step left, and its last entry is one of the history's
abbrev pub IsBegun : ℕ → Begun → Type 0
IsBegun entries b = IsRun b.run × (b.at ≤ entries)

abbrev pub AreBegun : ℕ → Runs → Type 0
AreBegun entries runs = (key : RunKey) → IfSome (at run_cmp runs key) (IsBegun entries)

-- what every history leads to
pub record IsHeld (h : Held) : Type 0 where
  pub rows : IsSorted key_cmp h.rows
  pub sorted : IsSorted run_cmp h.runs
  pub begun : AreBegun h.entries h.runs

-- A later look at a run: what it let be handled stays so, and once it has ended nothing of it changes.
abbrev pub IsLater : Begun → Begun → Type 0
IsLater b c = (b.run.unblocked ≡ true → c.run.unblocked ≡ true) × (is_over b.run.left ≡ true → c ≡ b)

abbrev pub StaysAs : Option Begun → Option Begun → Type 0
StaysAs None c = Unit {0}
StaysAs (Some b) None = ⊥
StaysAs (Some b) (Some c) = IsLater b c

-- what a legal history keeps to
pub record IsWithin (h : Held) : Type 0 where
  pub kept : h.kept ≤ max_kept
  pub entries : h.entries + reserved h.runs ≤ max_entries

-- what each document of a store keeps to: an id of 1 to 256 bytes, 1,048,576 bytes and 32 levels
pub record IsStored (key : Key) (doc : Entries) : Type 0 where
  pub id : is_id key.id ≡ true
  pub small : is_too_large doc ≡ false

abbrev pub AreStored : Rows → Type 0
AreStored [] = Unit {0}
AreStored (row ∷ rows) = IsStored row.0 row.1 × AreStored rows
