-- A session with a pass goes over to other threads, level by level.
use denote.RattleType.{RattleType}
use denote.Param.Send.{IsSend, IsSync, view_send}
use Rattle.ejson_value.proofs.text.Text.TheSendSync as text
use Rattle.selector_match.proofs.selector.Operators.TheLaws.TheKnot as selector_knot
use Rattle.selector_match.specs.contracts.operands.Operands as operands
use Rattle.selector_match.specs.contracts.selector.Plain as plain
use Rattle.selector_match.specs.contracts.selector.Selector as selector
use Rattle.publication.specs.contracts.cursor.Cursor as cursor
use Rattle.publication.specs.contracts.cursor.Cursors as cursors
use Rattle.sort_window.specs.contracts.rows.Row as row
use Rattle.sort_window.specs.contracts.held.Held as held
use Rattle.sort_window.specs.contracts.window.Window as window
use Rattle.live_observer.specs.contracts.watched.Watched as watched
use Rattle.live_observer.specs.contracts.observer.Observer as observer
use Rattle.kept_document.specs.contracts.claims.Claim as claim
use Rattle.kept_document.specs.contracts.claims.Claims as claims
use Rattle.kept_document.specs.contracts.shared.Shared as shared
use Rattle.kept_document.specs.contracts.held.Held as kept
use Rattle.kept_document.specs.contracts.held.Change as change
use Rattle.merge_box.specs.contracts.kept.Slot as slot
use Rattle.merge_box.specs.contracts.kept.KeptMap as map
use Rattle.merge_box.specs.contracts.plan.Planned as planned
use Rattle.merge_box.specs.contracts.boxes.MergeBox as box
use Rattle.ddp_messages.specs.contracts.from_client.FromClient as message
use Rattle.method_queue.specs.contracts.queue.Entry as waiting
use Rattle.method_queue.specs.contracts.queue.MethodQueue as queue
use Rattle.session_state.specs.contracts.subs.Sub as sub
use Rattle.session_state.specs.contracts.own.Call as call
use Rattle.session_state.specs.contracts.calls.Method as method
use Rattle.session_state.specs.contracts.kept.Own as own
use Rattle.session_state.specs.contracts.journal.Journal as journal
use Rattle.write_fence.specs.contracts.fences.Fences as fences
use Rattle.session_core.specs.contracts.parts.Parts as parts
use Rattle.session_core.specs.contracts.inner.Inner as inner
use Rattle.session_core.specs.contracts.session.Session as session
use Rattle.history_model.specs.contracts.entry.Entry as entry
use Rattle.pass_log.specs.contracts.log.Pass as pass_row
use Rattle.pass_log.specs.declared.log.LogName as log_name
use Rattle.pass_log.proofs.log.Pass.TheSendSync as pass
use Rattle.std.specs.declared.sync.ledger.Ledger as ledger
use Rattle.store_name.specs.declared.name.StoreName as store_name
use Rattle.shared_session.specs.contracts.held.HeldSession as held_session
use Rattle.shared_session.specs.contracts.held.HeldSession.TheInside as inside
use Rattle.crossing.proofs.Captures.{fields_send}
use Rattle.crossing.proofs.Values.{crosses, app_send, doc_send, doc_sync, items_send, key_send, path_send, projection_send, sortkey_send, value_send}

pub operands_send : IsSend operands.the_field.row
operands_send = search (value_send, crosses) depth 60 fits 20000

pub plain_send : IsSend plain.the_field.row
plain_send = search (value_send, operands_send, crosses) depth 60 fits 20000

pub selector_send : IsSend selector.the_field.row
selector_send = search (text.the_send, path_send, plain_send, selector_knot.crosses, crosses) depth 60 fits 20000

pub cursor_send : IsSend cursor.the_field.row
cursor_send = search (text.the_send, selector_send, projection_send, sortkey_send, crosses) depth 60 fits 20000

pub cursors_send : IsSend cursors.the_field.row
cursors_send = search (cursor_send, crosses) depth 60 fits 20000

pub row_send : IsSend row.the_field.row
row_send = search (doc_send, crosses) depth 60 fits 20000

pub row_sync : IsSync row.the_field.row
row_sync = search (doc_sync, crosses) depth 60 fits 20000

pub held_send : IsSend held.the_field.row
held_send = search (text.the_send, text.the_sync, row_send, row_sync, crosses) depth 60 fits 20000

pub window_send : IsSend window.the_field.row
window_send = search (sortkey_send, held_send, crosses) depth 60 fits 20000

pub watched_send : IsSend watched.the_field.row
watched_send = search (cursor_send, window_send, crosses) depth 60 fits 20000

pub observer_send : IsSend observer.the_field.row
observer_send = search (watched_send, crosses) depth 60 fits 20000

pub claim_send : IsSend claim.the_field.row
claim_send = search (value_send, crosses) depth 60 fits 20000

pub claims_send : IsSend claims.the_field.row
claims_send = search (claim_send, crosses) depth 60 fits 20000

pub shared_send : IsSend shared.the_field.row
shared_send = search (text.the_send, claims_send, crosses) depth 60 fits 20000

pub kept_send : IsSend kept.the_field.row
kept_send = search (doc_send, shared_send, crosses) depth 60 fits 20000

pub change_send : IsSend change.the_field.row
change_send = search (shared_send, kept_send, crosses) depth 60 fits 20000

pub slot_send : IsSend slot.the_field.row
slot_send = search (key_send, kept_send, crosses) depth 60 fits 20000

pub map_send : IsSend map.the_field.row
map_send = search (key_send, slot_send, crosses) depth 60 fits 20000

pub planned_send : IsSend planned.the_field.row
planned_send = search (change_send, crosses) depth 60 fits 20000

pub box_send : IsSend box.the_field.row
box_send = search (key_send, map_send, planned_send, crosses) depth 60 fits 20000

pub message_send : IsSend message.the_field.row
message_send = search (text.the_send, items_send, value_send, crosses) depth 60 fits 20000

pub waiting_send : IsSend waiting.the_field.row
waiting_send = search (message_send, crosses) depth 60 fits 20000

pub queue_send : IsSend queue.the_field.row
queue_send = search (waiting_send, crosses) depth 60 fits 20000

pub sub_send : IsSend sub.the_field.row
sub_send = search (text.the_send, items_send, cursors_send, observer_send, crosses) depth 60 fits 20000

pub call_send : IsSend call.the_field.row
call_send = search (text.the_send, items_send, value_send, crosses) depth 60 fits 20000

pub method_send : IsSend method.the_field.row
method_send = search (text.the_send, crosses) depth 60 fits 20000

pub own_send : IsSend own.the_field.row
own_send = search (sub_send, method_send, call_send, crosses) depth 60 fits 20000

pub journal_send : IsSend journal.the_field.row
journal_send = search (text.the_send, crosses) depth 60 fits 20000

pub fences_send : IsSend fences.the_field.row
fences_send = search (crosses) depth 60 fits 20000

pub parts_send : IsSend parts.the_field.row
parts_send = search (text.the_send, own_send, box_send, fences_send, journal_send, crosses) depth 60 fits 20000

pub inner_send : IsSend inner.the_field.row
inner_send = search (app_send, parts_send, queue_send, crosses) depth 60 fits 20000

pub session_send : IsSend session.the_field.row
session_send = search (inner_send, crosses) depth 60 fits 20000

-- ---- the session of a store's name

module _ (N : RattleType) (l : log_name.Ghosts N.Denot) (s : store_name.Ghosts N.Denot) (b : ledger.Ghosts N.Denot) where
  pub held_session_send : IsSend (held_session.the_row N s l b)
  held_session_send =
      let p : IsSend (pass_row.the_row entry.the_row N l) = pass.the_send entry.the_row N l in
      view_send (inside.the_row N s l b) _ _ _ _ (fields_send (inside.the_type N s l b) (session_send, (p, tt)))
