-- What a machine's parts say of its history.
use Rattle.std.specs.Prelude.{option_map, option_and_then}
use Rattle.std.proofs.Common.{◌≡◌, ℕ, ◌≤◌, List, [], length, Option, Some, None, refl, ap, sym, subst, ◌∙◌, arith}
use Rattle.std.proofs.lemmas.List.{length-map, take_all}
use Rattle.map_model.specs.Maps.{at}
use Rattle.app_model.specs.App.{App}
use Rattle.collection_store.specs.State.{StoreState}
use Rattle.history_model.specs.declared.entry.Entry.{Entry}
use Rattle.history_model.specs.History.{run_cmp, held, status_at, changes_between}
use Rattle.history_log.specs.declared.log.Logged.{Logged}
use Rattle.history_log.specs.Log.{entries_in, changes_behind, rows_after}
use Rattle.store_machine.specs.LogOfLaws.{changes_behind-log_of, rows_after-log_of}
use Rattle.store_machine.specs.Places.{status_by}
use Rattle.store_machine.specs.Keeping.{Kept, Keeps, no_entries}
use Rattle.store_machine.specs.KeepingLaws.{keeps_nothing}
use Rattle.store_machine.specs.declared.called.Called.{Called}
use Rattle.store_machine.specs.declared.parts.Parts.{Parts}
use Rattle.store_machine.specs.State.{MachineState, programs, held_by, held_after}
use Rattle.store_machine.specs.Standing.{called_by, life_of, lives_of, seen, kept_of, Stand}
use Rattle.store_machine.proofs.Standings.{kept_same}

-- parts of a machine over no history
pub stand_new : (app : App) (p : Parts) → p.store ≡ record { names = app.collections; rows = [] } → p.calls.entries ≡ [] → p.log ≡ [] → p.kept ≡ 0 → p.reserved ≡ 0 → Stand app p
stand_new app p store calls log bytes steps =
    let kept : kept_of app p ≡ no_entries = kept_same (kept_of app p) no_entries (ap (λ (s : StoreState). s.rows) store) (ap (lives_of app) calls) bytes steps log in
    record {
      names = ap (λ (s : StoreState). s.names) store;
      keeps = subst (λ (es : List Entry). Keeps (programs app) es (kept_of app p)) (sym (ap entries_in log)) (subst (λ (x : Kept). Keeps (programs app) [] x) (sym kept) (keeps_nothing (programs app)));
    }

pub length_seen : (app : App) (p : Parts) → length p.log ≡ length (seen app p).history
length_seen app p = sym (length-map p.log (λ (l : Logged). l.entry))

told_at : (app : App) (place : ℕ) (o : Option Called) → option_and_then (status_by place) (option_map (life_of app) o) ≡ option_and_then (called_by place) o
told_at app place None = refl
told_at app place (Some c) = refl

-- how far a run was at a place
pub status_told : (app : App) (p : Parts) (place session k : ℕ) → Stand app p → place ≤ length (seen app p).history → option_and_then (called_by place) (at run_cmp p.calls.entries (session, k)) ≡ status_at (programs app) (seen app p).history place session k
status_told app p place session k st there = sym (told_at app place (at run_cmp p.calls.entries (session, k))) ∙ st.keeps.lives.places place there (session, k)

pub changes_told : (app : App) (p : Parts) (first count : ℕ) → Stand app p → changes_behind p.log first count ≡ changes_between (programs app) (seen app p).history first count
changes_told app p first count st = ap (λ ls. changes_behind ls first count) st.keeps.log ∙ changes_behind-log_of (programs app) (entries_in p.log) first count

pub rows_told : (app : App) (p : Parts) (place : ℕ) → Stand app p → rows_after p.log place ≡ (held_after (seen app p) place).rows
rows_told app p place st = ap (λ ls. rows_after ls place) st.keeps.log ∙ rows_after-log_of (programs app) (entries_in p.log) place

-- the last place is the end
pub held_last : (m : MachineState) (place : ℕ) → place ≡ length m.history → held_by m ≡ held_after m place
held_last m place last = ap (held (programs m.app)) (sym (take_all place m.history (omega (arith, last))))
