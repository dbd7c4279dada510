-- A shared store and its callers go over to other threads, level by level.
use denote.RattleType.{RattleType}
use denote.Param.Send.{IsSend, IsSync, view_send}
use Rattle.std.specs.contracts.sync.ledger.Book as book_row
use Rattle.std.specs.declared.sync.ledger.Ledger as ledger
use Rattle.std.proofs.sync.Mutex.TheSendSync as mutex
use Rattle.std.proofs.sync.ledger.Book.TheSendSync as book
use Rattle.ejson_value.proofs.text.Text.TheSendSync as text
use Rattle.collection_store.specs.contracts.store.Store as store
use Rattle.history_log.specs.contracts.kept_entry.KeptEntry as kept_entry
use Rattle.history_log.specs.contracts.log.Log as history
use Rattle.history_log.specs.contracts.log.Logged as logged
use Rattle.history_model.specs.contracts.entry.Entry as entry
use Rattle.store_machine.specs.contracts.called.Called as called
use Rattle.store_machine.specs.contracts.machine.Machine as machine
use Rattle.store_machine.specs.contracts.parts.Parts as parts
use Rattle.pass_log.specs.contracts.log.Note as note_row
use Rattle.pass_log.specs.contracts.log.Pass as pass_row
use Rattle.pass_log.specs.contracts.log.Writer as writer_row
use Rattle.pass_log.specs.declared.log.LogName as log_name
use Rattle.pass_log.proofs.log.Log.TheSendSync as log
use Rattle.pass_log.proofs.log.Note.TheSendSync as note
use Rattle.pass_log.proofs.log.Pass.TheSendSync as pass
use Rattle.pass_log.proofs.log.Writer.TheSendSync as writer
use Rattle.store_name.specs.declared.name.StoreName as store_name
use Rattle.shared_store.proofs.caller.Caller.TheSendSync as caller
use Rattle.shared_store.specs.contracts.caller.Caller as caller_row
use Rattle.shared_store.specs.contracts.held.HeldStore as held
use Rattle.shared_store.specs.contracts.held.HeldStore.TheInside as inside
use Rattle.shared_store.specs.contracts.shared.SharedStore as shared
use Rattle.crossing.proofs.Captures.{fields_send, fields_sync}
use Rattle.crossing.proofs.Values.{crosses, value_send, items_send, outcome_send, contents_send, change_send, app_send}

-- ---- the machine

pub store_send : IsSend store.the_field.row
store_send = search (text.the_send, contents_send, crosses) depth 60 fits 20000

pub called_send : IsSend called.the_field.row
called_send = search (text.the_send, items_send, outcome_send, crosses) depth 60 fits 20000

pub entry_send : IsSend entry.the_field.row
entry_send = search (text.the_send, items_send, value_send, crosses) depth 60 fits 20000

pub kept_entry_send : IsSend kept_entry.the_field.row
kept_entry_send = search (text.the_send, entry_send, crosses) depth 60 fits 20000

pub logged_send : IsSend logged.the_field.row
logged_send = search (kept_entry_send, change_send, crosses) depth 60 fits 20000

pub history_send : IsSend history.the_field.row
history_send = search (logged_send, crosses) depth 60 fits 20000

pub parts_send : IsSend parts.the_field.row
parts_send = search (store_send, called_send, history_send, crosses) depth 60 fits 20000

pub machine_send : IsSend machine.the_field.row
machine_send = search (app_send, parts_send, crosses) depth 60 fits 20000

-- ---- the store of a name

module _ (N : RattleType) (l : log_name.Ghosts N.Denot) (s : store_name.Ghosts N.Denot) (b : ledger.Ghosts N.Denot) where
  pub held_send : IsSend (held.the_row N s l b)
  held_send =
      let w : IsSend (writer_row.the_row entry.the_row N l) = writer.the_send entry.the_row N l in
      let k : IsSend (book_row.the_field N b).row = book.the_send N b in
      view_send (inside.the_row N s l b) _ _ _ _ (fields_send (inside.the_type N s l b) (machine_send, (w, (k, tt))))

  pub shared_send : IsSend (shared.the_row N l s b)
  shared_send = fields_send (shared.the_type N l s b) (log.the_field_send entry.the_row N l, (mutex.the_send (held.the_row N s l b) held_send, tt))

  pub shared_sync : IsSync (shared.the_row N l s b)
  shared_sync = fields_sync (shared.the_type N l s b) (log.the_field_sync entry.the_row N l, (mutex.the_sync (held.the_row N s l b) held_send, tt))

  -- what threads hold of the store
  pub pass_send : IsSend (pass_row.the_row entry.the_row N l)
  pass_send = pass.the_send entry.the_row N l

  pub note_send : IsSend (note_row.the_row entry.the_row N l)
  note_send = note.the_send entry.the_row N l

  pub caller_send : IsSend (caller_row.the_row N s l b)
  caller_send = caller.the_send N s l b
