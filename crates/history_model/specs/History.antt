-- The history of a store: what was done to it, oldest first. Its documents, and how far each run is, are the fold of it.
use Rattle.std.specs.Prelude.{◌<◌, ℕ, suc, ◌+◌, ◌-◌, ◌==◌, List, [], ◌∷◌, ◌++◌, length, take, drop, sum_by, Bool, true, false, not, ◌&&◌, ◌||◌}
use Rattle.std.specs.Prelude.{nat_lt, Option, None, Some, is_some, option_map, Ok, Err, IsTrue, if◌then◌else◌}
use Rattle.std.specs.List.{list_all}
use Rattle.std.specs.declared.cmp.Ordering.{Ordering}
use Rattle.std.specs.Ordering.{eq_by_cmp, nat_cmp, ordering_then}
use Rattle.map_model.specs.Maps.{at, set}
use Rattle.value_model.specs.Val.{Val, list, vals_of}
use Rattle.value_model.specs.Size.{size}
use Rattle.ejson_value.specs.declared.change.Change.{Change}
use Rattle.ejson_value.specs.Rows.{Rows}
use Rattle.ejson_value.specs.View.{view}
use Rattle.collection_store.specs.Outcome.{Outcome}
use Rattle.collection_store.specs.Limits.{new_bytes}
use Rattle.collection_store.specs.Applied.{Applied, applied}
use Rattle.collection_store.specs.declared.operation.Op.{Op}
use Rattle.program_steps.specs.declared.step.ProgramStep.{ProgramStep}
use Rattle.program_steps.specs.declared.step.Program.{Program}
use Rattle.program_steps.specs.declared.rules.Rules.{Rules}
use Rattle.program_steps.specs.declared.outcome.Status.{Status}
use Rattle.program_steps.specs.Runs.{End}
use Rattle.program_model.specs.Run.{Run, begun}
use Rattle.program_model.specs.Steps.{Setting, Stepped, stepped}
use Rattle.history_model.specs.declared.entry.Entry.{Entry}
use Rattle.history_model.specs.declared.entry.Entry.TheVariants as entry
use Rattle.history_model.specs.Operations.{operation_in}

-- what a history needs of an application: the collections of its store, its methods, and the rules of the collections that clients write to by themselves
pub record Programs : Type 0 where
  pub collections : List (List ℕ)
  pub method : List ℕ → Option Program
  pub rules : List ℕ → Option Rules

-- ---- runs

-- a session's number, with that of its call
abbrev pub RunKey : Type 0
RunKey = ℕ × ℕ

abbrev pub run_cmp : RunKey → RunKey → Ordering
run_cmp a b = ordering_then (nat_cmp a.0 b.0) (nat_cmp a.1 b.1)

-- a run, and how many entries the history had after the run's last one
pub record Begun : Type 0 where
  pub run : Run
  pub at : ℕ

abbrev pub Runs : Type 0
Runs = List (RunKey × Begun)

abbrev pub end_of : Begun → Option End
end_of b = option_map (λ o. let e : End = record { outcome = o; at = b.at } in e) b.run.outcome

abbrev pub status_of : Begun → Status
status_of b = record { unblocked = b.run.unblocked; ended = end_of b }

-- ---- what a history leads to

pub record Held : Type 0 where
  -- the documents
  pub rows : Rows
  -- the bytes that the history keeps: of the parameters and the seed of each call, and of each document that a change left
  pub kept : ℕ
  -- how many entries it has
  pub entries : ℕ
  pub runs : Runs

abbrev pub nothing : Held
nothing = record { rows = []; kept = 0; entries = 0; runs = [] }

-- one entry more that changes nothing
abbrev pub later : Held → Held
later h = record h { entries = suc h.entries }

abbrev pub max_kept : ℕ
max_kept = 134217728

-- what an operation or a step may add to what is kept
abbrev pub room_in : Held → ℕ
room_in h = max_kept - h.kept

abbrev pub setting_in : Programs → Held → Setting
setting_in app h = record { collections = app.collections; rules = app.rules; room = room_in h }

abbrev pub steps_of : Option Program → List ProgramStep
steps_of None = []
steps_of (Some program) = program.steps

abbrev pub call_bytes : List Val → Val → ℕ
call_bytes params seed = size (list (vals_of params)) + size seed

abbrev pub with_call : Programs → Held → RunKey → List ℕ → List Val → Val → Held
with_call app h key method params seed = record {
  rows = h.rows;
  kept = h.kept + call_bytes params seed;
  entries = suc h.entries;
  runs = set run_cmp h.runs key (Some (record { run = begun params seed (steps_of (app.method method)); at = suc h.entries }));
}

-- a call is begun once
abbrev pub with_begin : Programs → Held → RunKey → List ℕ → List Val → Val → Option Begun → Held
with_begin app h key method params seed None = with_call app h key method params seed
with_begin app h key method params seed (Some b) = later h

abbrev pub with_stepped : Held → RunKey → Stepped → Held
with_stepped h key s = record {
  rows = s.rows;
  kept = h.kept + new_bytes s.changes;
  entries = suc h.entries;
  runs = set run_cmp h.runs key (Some (record { run = s.run; at = suc h.entries }));
}

abbrev pub no_steps : List ProgramStep → Bool
no_steps [] = true
no_steps (step ∷ steps) = false

-- the run goes on: it has begun, and has not ended
abbrev pub goes_on : Option Begun → Bool
goes_on None = false
goes_on (Some b) = not (no_steps b.run.left)

abbrev pub with_step : Programs → Held → RunKey → Option Begun → Held
with_step app h key None = later h
with_step app h key (Some b) = if no_steps b.run.left then later h else with_stepped h key (stepped (setting_in app h) h.rows b.run)

abbrev pub with_answer : Held → Outcome Applied → Held
with_answer h (Ok applied) = record { rows = applied.rows; kept = h.kept + new_bytes applied.changes; entries = suc h.entries; runs = h.runs }
with_answer h (Err refusal) = later h

abbrev pub with_operation : Programs → Held → Option Op → Held
with_operation app h None = later h
with_operation app h (Some op) = with_answer h (applied app.collections h.rows op (room_in h))

abbrev pub carried : Programs → Held → Entry → Held
carried app h (entry.Begin session k method params seed) = with_begin app h (session, k) method params (view seed) (at run_cmp h.runs (session, k))
carried app h (entry.Step session k) = with_step app h (session, k) (at run_cmp h.runs (session, k))
carried app h (entry.Admin op) = with_operation app h (operation_in op)

abbrev pub held_from : Programs → Held → List Entry → Held
held_from app h [] = h
held_from app h (e ∷ es) = held_from app (carried app h e) es

abbrev pub held : Programs → List Entry → Held
held app history = held_from app nothing history

-- after the first entries, this many
abbrev pub held_at : Programs → List Entry → ℕ → Held
held_at app history place = held app (take place history)

-- how far a run is, if it was begun
abbrev pub status_in : Held → ℕ → ℕ → Option Status
status_in h session k = option_map status_of (at run_cmp h.runs (session, k))

abbrev pub status_at : Programs → List Entry → ℕ → ℕ → ℕ → Option Status
status_at app history place session k = status_in (held_at app history place) session k

-- ---- changes of documents

abbrev pub answer_changes : Outcome Applied → List Change
answer_changes (Ok applied) = applied.changes
answer_changes (Err refusal) = []

abbrev pub operation_changes : Programs → Held → Option Op → List Change
operation_changes app h None = []
operation_changes app h (Some op) = answer_changes (applied app.collections h.rows op (room_in h))

abbrev pub step_changes : Programs → Held → Option Begun → List Change
step_changes app h None = []
step_changes app h (Some b) = if no_steps b.run.left then [] else (stepped (setting_in app h) h.rows b.run).changes

-- the changes that an entry makes
abbrev pub changes_by : Programs → Held → Entry → List Change
changes_by app h (entry.Begin session k method params seed) = []
changes_by app h (entry.Step session k) = step_changes app h (at run_cmp h.runs (session, k))
changes_by app h (entry.Admin op) = operation_changes app h (operation_in op)

-- those of several entries, one after another
abbrev pub changes_from : Programs → Held → List Entry → List Change
changes_from app h [] = []
changes_from app h (e ∷ es) = changes_by app h e ++ changes_from app (carried app h e) es

-- those of the entries behind a place, this many
abbrev pub changes_between : Programs → List Entry → ℕ → ℕ → List Change
changes_between app history place count = changes_from app (held_at app history place) (take count (drop place history))

-- ---- limits

abbrev pub max_entries : ℕ
max_entries = 1048576

-- the steps that the runs have still to make, each an entry to come
abbrev pub reserved : Runs → ℕ
reserved runs = sum_by (λ (r : RunKey × Begun). length r.1.run.left) runs

-- the entries with those to come, and with one more entry that has these steps to come
abbrev pub entries_with : Held → ℕ → ℕ
entries_with h steps = h.entries + reserved h.runs + steps + 1

abbrev pub kept_with : Held → List Val → Val → ℕ
kept_with h params seed = h.kept + call_bytes params seed

-- 503: the history has no room for the call's run
abbrev pub is_full : Programs → Held → List ℕ → List Val → Val → Bool
is_full app h method params seed = nat_lt max_entries (entries_with h (length (steps_of (app.method method)))) || nat_lt max_kept (kept_with h params seed)

-- 503: it has no room for an operation
abbrev pub is_full_for_operation : Held → Bool
is_full_for_operation h = nat_lt max_entries (entries_with h 0)

-- ---- legal histories

-- the session has begun no call with this number or a greater one
abbrev pub is_next : ℕ → ℕ → Runs → Bool
is_next session k runs = list_all (λ (r : RunKey × Begun). not (r.0.0 == session) || nat_lt r.0.1 k) runs

abbrev pub is_answered : Outcome Applied → Bool
is_answered (Ok applied) = true
is_answered (Err refusal) = false

abbrev pub is_made : Programs → Held → Option Op → Bool
is_made app h None = false
is_made app h (Some op) = is_answered (applied app.collections h.rows op (room_in h))

-- The entry can be made there: a call of a method, whose number is greater than those before it and for which there is room; a step of a run that
-- goes on; an operation that is not refused.
abbrev pub can_follow : Programs → Held → Entry → Bool
can_follow app h (entry.Begin session k method params seed) =
    is_some (app.method method) && is_next session k h.runs && not (is_full app h method params (view seed))
can_follow app h (entry.Step session k) = goes_on (at run_cmp h.runs (session, k))
can_follow app h (entry.Admin op) = not (is_full_for_operation h) && is_made app h (operation_in op)

abbrev pub IsLegalFrom : Programs → Held → List Entry → Type 0
IsLegalFrom app h [] = Unit {0}
IsLegalFrom app h (e ∷ es) = IsTrue (can_follow app h e) × IsLegalFrom app (carried app h e) es

-- each entry can be made where it stands
abbrev pub IsLegal : Programs → List Entry → Type 0
IsLegal app history = IsLegalFrom app nothing history

-- ---- calls

-- the entry begins this call
abbrev pub begins : RunKey → Entry → Bool
begins key (entry.Begin session k method params seed) = eq_by_cmp run_cmp key (session, k)
begins key e = false

-- the number of the session's call that the entry begins, if it does
abbrev pub call_in : ℕ → Entry → List ℕ
call_in session (entry.Begin n k method params seed) = if session == n then k ∷ [] else []
call_in session e = []

-- the numbers of the session's calls, in the order in which they are begun
abbrev pub calls_of : ℕ → List Entry → List ℕ
calls_of session [] = []
calls_of session (e ∷ es) = call_in session e ++ calls_of session es

abbrev pub AllAbove : ℕ → List ℕ → Type 0
AllAbove k [] = Unit {0}
AllAbove k (j ∷ ks) = (k < j) × AllAbove k ks

-- each is greater than those before it
abbrev pub Rise : List ℕ → Type 0
Rise [] = Unit {0}
Rise (k ∷ ks) = AllAbove k ks × Rise ks
