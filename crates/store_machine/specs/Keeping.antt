-- All that a history leads to, kept as its entries are made, and what each entry makes of it.
use Rattle.std.specs.Prelude.{◌≡◌, ℕ, suc, ◌+◌, ◌-◌, List, [], ◌∷◌, ◌++◌, length, Option, None}
use Rattle.value_model.specs.Val.{Val}
use Rattle.ejson_value.specs.Rows.{Rows}
use Rattle.ejson_value.specs.View.{view}
use Rattle.ejson_value.specs.declared.value.Value.{Value}
use Rattle.collection_store.specs.Limits.{new_bytes}
use Rattle.collection_store.specs.Applied.{Applied}
use Rattle.program_model.specs.Run.{Run, begun}
use Rattle.program_model.specs.Steps.{Setting, Stepped}
use Rattle.history_model.specs.declared.entry.Entry.{Entry}
use Rattle.history_model.specs.declared.entry.Entry.TheVariants as entry
use Rattle.history_model.specs.History.{Programs, RunKey, Begun, Held, steps_of, call_bytes, max_kept, reserved, held}
use Rattle.history_model.specs.Bounds.{IsWithin}
use Rattle.history_log.specs.declared.log.Logged.{Logged}
use Rattle.store_machine.specs.LogOf.{log_of}
use Rattle.store_machine.specs.Places.{Life, Lives, AreLives, put, noted}

pub record Kept : Type 0 where
  -- the documents
  pub rows : Rows
  -- the lives of the runs
  pub lives : Lives
  -- the bytes that the history keeps
  pub bytes : ℕ
  -- the steps that runs have still to make
  pub steps : ℕ
  pub log : List Logged

-- it is what the history leads to, which is within the limits
pub record Keeps (app : Programs) (history : List Entry) (m : Kept) : Type 0 where
  pub rows : m.rows ≡ (held app history).rows
  pub lives : AreLives app history m.lives
  pub bytes : m.bytes ≡ (held app history).kept
  pub steps : m.steps ≡ reserved (held app history).runs
  pub log : m.log ≡ log_of app history
  pub within : IsWithin (held app history)

abbrev pub no_entries : Kept
no_entries = record { rows = []; lives = λ key. None; bytes = 0; steps = 0; log = [] }

-- how many bytes the documents of an entry may have
abbrev pub room_by : Kept → ℕ
room_by m = max_kept - m.bytes

abbrev pub setting_with : Programs → ℕ → Setting
setting_with app room = record { collections = app.collections; rules = app.rules; room = room }

-- the place of the next entry
abbrev pub next_place : Kept → ℕ
next_place m = suc (length m.log)

-- ---- a call begins

abbrev pub first_life : ℕ → Run → Life
first_life place run = record { begun = place; unblocked = None; now = record { run = run; at = place } }

abbrev pub with_begun : Programs → Kept → ℕ → ℕ → List ℕ → List Val → Value → Kept
with_begun app m session k name params seed = record {
  rows = m.rows;
  lives = put m.lives (session, k) (first_life (next_place m) (begun params (view seed) (steps_of (app.method name))));
  bytes = m.bytes + call_bytes params (view seed);
  steps = m.steps + length (steps_of (app.method name));
  log = m.log ++ record { entry = entry.Begin session k name params seed; changes = [] } ∷ [];
}

-- ---- a run makes a step

abbrev pub next_life : ℕ → Life → Run → Life
next_life place old run = record { begun = old.begun; unblocked = noted old.unblocked run.unblocked place; now = record { run = run; at = place } }

abbrev pub with_step_made : Kept → ℕ → ℕ → Life → Stepped → Kept
with_step_made m session k old s = record {
  rows = s.rows;
  lives = put m.lives (session, k) (next_life (next_place m) old s.run);
  bytes = m.bytes + new_bytes s.changes;
  steps = m.steps + length s.run.left - length old.now.run.left;
  log = m.log ++ record { entry = entry.Step session k; changes = s.changes } ∷ [];
}

-- ---- an operation is made

abbrev pub with_operation_made : Kept → List Val → Applied → Kept
with_operation_made m op a = record {
  rows = a.rows;
  lives = m.lives;
  bytes = m.bytes + new_bytes a.changes;
  steps = m.steps;
  log = m.log ++ record { entry = entry.Admin op; changes = a.changes } ∷ [];
}
