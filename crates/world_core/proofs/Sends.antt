-- A client may be told by another thread, over the one machine: which types may cross threads, level by level, since a
-- search opens all that has no lemma of its own at each place anew.
use mathlib.Core.List.{List, [], ◌∷◌}
use Prim.Native.Nat.{ℕ}
use mir.Syntax.{Sym, Ty}
use denote.Exit.{no}
use denote.RattleType.{RattleType}
use denote.Param.{param, arg}
use denote.Param.Send.{IsSend, IsSync, sendable, param_send, arg_send, recorded_send, struct_send}
use denote.Struct.Declared.{shape}
use denote.Struct.Tuple.{TupleAt, field_at, type_at}
use Rattle.std.proofs.Crossing as std
use Rattle.std.proofs.MapsCrossing as maps
use Rattle.app_model.specs.contracts.app.App as app
use Rattle.app_model.specs.contracts.publication.CursorRule as cursorrule
use Rattle.app_model.specs.contracts.publication.Projection as projection
use Rattle.app_model.specs.contracts.publication.Publication as publication
use Rattle.world_core.specs.client_core_for_proofs.contracts.client.Client as client
use Rattle.lanes.specs.contracts.lane.Lane as lane
use Rattle.ejson_value.specs.contracts.text.Text as text_row
use Rattle.std.specs.contracts.alloc.Global as global_row
use Rattle.world_core.specs.client_core_for_proofs.contracts.calls.Call as ccall
use Rattle.world_core.specs.client_core_for_proofs.contracts.subs.Sub as csub
use Rattle.world_core.specs.client_core_for_proofs.contracts.subs.Subs as csubs
use Rattle.collection_store.specs.contracts.store.Store as store
use Rattle.world_core.specs.connection_for_proofs.contracts.connection.Connection as connection
use Rattle.world_core.specs.connection_for_proofs.contracts.link.Link as link
use Rattle.world_core.specs.connection_for_proofs.contracts.side.Side as side
use Rattle.std.proofs.option.Option.TheSendSync as option
use Rattle.counted_contents.specs.contracts.counted.CountedContents as counted
use Rattle.ddp_messages.specs.contracts.from_client.FromClient as fromclient
use Rattle.ejson_value.proofs.bytes.Bytes.TheSendSync as bytes
use Rattle.ejson_value.proofs.members.Measured.TheLaws.TheKnot as value_knot
use Rattle.ejson_value.proofs.text.Text.TheSendSync as text
use Rattle.ejson_value.proofs.user.BoxedName.TheSendSync as boxed_name
use Rattle.ejson_value.proofs.whole.Whole.TheSendSync as whole
use Rattle.ejson_value.specs.contracts.change.Change as change
use Rattle.ejson_value.specs.contracts.contents.Contents as contents
use Rattle.ejson_value.specs.contracts.fault.Fault as fault
use Rattle.ejson_value.specs.contracts.key.Key as key
use Rattle.ejson_value.specs.contracts.path.Path as path
use Rattle.ejson_value.specs.contracts.sort.SortKey as sortkey
use Rattle.ejson_value.specs.contracts.value.Doc as doc
use Rattle.ejson_value.specs.contracts.value.Items as items
use Rattle.ejson_value.specs.contracts.value.Value as value
use Rattle.world_core.specs.history_log_for_proofs.contracts.kept_entry.KeptEntry as keptentry
use Rattle.world_core.specs.history_log_for_proofs.contracts.log.Log as log
use Rattle.world_core.specs.history_log_for_proofs.contracts.log.Logged as logged
use Rattle.world_core.specs.history_model_for_proofs.contracts.entry.Entry as entry
use Rattle.kept_document.specs.contracts.claims.Claim as claim
use Rattle.kept_document.specs.contracts.claims.Claims as claims
use Rattle.kept_document.specs.contracts.held.Change as heldchange
use Rattle.kept_document.specs.contracts.held.Held as heldform
use Rattle.kept_document.specs.contracts.shared.Shared as shared
use Rattle.world_core.specs.live_observer_for_proofs.contracts.observer.Observer as observer
use Rattle.world_core.specs.live_observer_for_proofs.contracts.watched.Watched as watched
use Rattle.merge_box.specs.contracts.boxes.MergeBox as mergebox
use Rattle.merge_box.specs.contracts.kept.KeptMap as keptmap
use Rattle.merge_box.specs.contracts.kept.Slot as slot
use Rattle.merge_box.specs.contracts.plan.Planned as planned
use Rattle.method_queue.specs.contracts.queue.Entry as qentry
use Rattle.method_queue.specs.contracts.queue.MethodQueue as queue
use Rattle.world_core.specs.minimongo_for_proofs.contracts.view.View as view
use Rattle.program_run.specs.contracts.run.Run as run
use Rattle.program_steps.specs.contracts.outcome.Outcome as outcome
use Rattle.program_steps.specs.contracts.rules.Rule as rule
use Rattle.program_steps.specs.contracts.rules.Rules as rules
use Rattle.program_steps.specs.contracts.step.Program as program
use Rattle.program_steps.specs.contracts.step.ProgramStep as step
use Rattle.program_steps.specs.contracts.template.Template as template
use Rattle.world_core.specs.publication_for_proofs.contracts.cursor.Cursor as cursor
use Rattle.world_core.specs.publication_for_proofs.contracts.cursor.Cursors as cursors
use Rattle.minimongo.specs.contracts.original.Kept as kept
use Rattle.minimongo.specs.contracts.originals.Originals as originals
use Rattle.selector_match.proofs.selector.Operators.TheLaws.TheKnot as selector_knot
use Rattle.selector_match.specs.contracts.operands.Operands as operands
use Rattle.selector_match.specs.contracts.selector.Plain as plain
use Rattle.selector_match.specs.contracts.selector.Selector as selector
use Rattle.world_core.specs.session_core_for_proofs.contracts.inner.Inner as inner
use Rattle.world_core.specs.session_core_for_proofs.contracts.session.Session as session
use Rattle.world_core.specs.session_state_for_proofs.contracts.journal.Journal as journal
use Rattle.world_core.specs.session_core_for_proofs.contracts.parts.Parts as parts
use Rattle.world_core.specs.session_state_for_proofs.contracts.calls.Method as method
use Rattle.world_core.specs.session_state_for_proofs.contracts.kept.Own as own
use Rattle.world_core.specs.session_state_for_proofs.contracts.own.Call as call
use Rattle.world_core.specs.session_state_for_proofs.contracts.subs.Sub as sub
use Rattle.sort_window.specs.contracts.held.Held as held
use Rattle.sort_window.specs.contracts.rows.Row as row
use Rattle.sort_window.specs.contracts.window.Window as window
use Rattle.std.proofs.alloc.Global.TheSendSync as global
use Rattle.std.proofs.sync.Arc.TheSendSync as arc
use Rattle.world_core.specs.store_machine_for_proofs.contracts.called.Called as called
use Rattle.world_core.specs.store_machine_for_proofs.contracts.machine.Machine as machine
use Rattle.world_core.specs.store_machine_for_proofs.contracts.parts.Parts as mparts
use Rattle.write_fence.specs.contracts.fences.Fences as fences

pub value_send : IsSend value.the_field.row
value_send = search (option.the_field_send, option.the_send, option.the_sync, bytes.the_send, bytes.the_sync, text.the_send, text.the_sync, boxed_name.the_send, boxed_name.the_sync, whole.the_send, whole.the_sync, arc.the_send, global.the_send, global.the_sync, maps.crosses, std.crosses, value_knot.crosses, sendable) depth 60 fits 20000

pub value_sync : IsSync value.the_field.row
value_sync = search (option.the_field_send, option.the_send, option.the_field_sync, option.the_sync, bytes.the_send, bytes.the_sync, text.the_send, text.the_sync, boxed_name.the_send, boxed_name.the_sync, whole.the_send, whole.the_sync, arc.the_send, arc.the_sync, global.the_send, global.the_sync, maps.crosses, std.crosses, value_knot.crosses, sendable) depth 60 fits 20000

pub items_send : IsSend items.the_field.row
items_send = search (bytes.the_send, bytes.the_sync, text.the_send, text.the_sync, boxed_name.the_send, boxed_name.the_sync, whole.the_send, whole.the_sync, global.the_send, global.the_sync, maps.crosses, std.crosses, value_knot.crosses, sendable) depth 60 fits 20000

pub items_sync : IsSync items.the_field.row
items_sync = search (bytes.the_send, bytes.the_sync, text.the_send, text.the_sync, boxed_name.the_send, boxed_name.the_sync, whole.the_send, whole.the_sync, global.the_send, global.the_sync, maps.crosses, std.crosses, value_knot.crosses, sendable) depth 60 fits 20000

pub doc_send : IsSend doc.the_field.row
doc_send = search (bytes.the_send, bytes.the_sync, text.the_send, text.the_sync, boxed_name.the_send, boxed_name.the_sync, whole.the_send, whole.the_sync, global.the_send, global.the_sync, maps.crosses, std.crosses, value_knot.crosses, sendable) depth 60 fits 20000

pub doc_sync : IsSync doc.the_field.row
doc_sync = search (bytes.the_send, bytes.the_sync, text.the_send, text.the_sync, boxed_name.the_send, boxed_name.the_sync, whole.the_send, whole.the_sync, global.the_send, global.the_sync, maps.crosses, std.crosses, value_knot.crosses, sendable) depth 60 fits 20000

pub key_send : IsSend key.the_field.row
key_send = search (text.the_send, maps.crosses, std.crosses, sendable) depth 60 fits 20000

pub key_sync : IsSync key.the_field.row
key_sync = search (text.the_sync, maps.crosses, std.crosses, sendable) depth 60 fits 20000

pub fault_send : IsSend fault.the_field.row
fault_send = search (text.the_send, maps.crosses, std.crosses, sendable) depth 60 fits 20000

pub fault_sync : IsSync fault.the_field.row
fault_sync = search (text.the_sync, maps.crosses, std.crosses, sendable) depth 60 fits 20000

pub path_send : IsSend path.the_field.row
path_send = search (text.the_send, maps.crosses, std.crosses, sendable) depth 60 fits 20000

pub path_sync : IsSync path.the_field.row
path_sync = search (text.the_sync, maps.crosses, std.crosses, sendable) depth 60 fits 20000

pub sortkey_send : IsSend sortkey.the_field.row
sortkey_send = search (path_send, maps.crosses, std.crosses, sendable) depth 60 fits 20000

pub sortkey_sync : IsSync sortkey.the_field.row
sortkey_sync = search (path_sync, maps.crosses, std.crosses, sendable) depth 60 fits 20000

pub contents_send : IsSend contents.the_field.row
contents_send = search (key_send, doc_send, maps.crosses, std.crosses, sendable) depth 60 fits 20000

pub contents_sync : IsSync contents.the_field.row
contents_sync = search (key_sync, doc_sync, maps.crosses, std.crosses, sendable) depth 60 fits 20000

pub change_sync : IsSync change.the_field.row
change_sync = search (key_sync, doc_sync, maps.crosses, std.crosses, sendable) depth 60 fits 20000

pub operands_send : IsSend operands.the_field.row
operands_send = search (value_send, maps.crosses, std.crosses, sendable) depth 60 fits 20000

pub plain_send : IsSend plain.the_field.row
plain_send = search (value_send, operands_send, maps.crosses, std.crosses, sendable) depth 60 fits 20000

pub selector_send : IsSend selector.the_field.row
selector_send = search (text.the_send, path_send, plain_send, maps.crosses, std.crosses, selector_knot.crosses, sendable) depth 60 fits 20000

pub template_send : IsSend template.the_field.row
template_send = search (value_send, maps.crosses, std.crosses, sendable) depth 60 fits 20000

pub template_sync : IsSync template.the_field.row
template_sync = search (value_sync, maps.crosses, std.crosses, sendable) depth 60 fits 20000

pub step_send : IsSend step.the_field.row
step_send = search (text.the_send, template_send, fault_send, maps.crosses, std.crosses, sendable) depth 60 fits 20000

pub step_sync : IsSync step.the_field.row
step_sync = search (text.the_sync, template_sync, fault_sync, maps.crosses, std.crosses, sendable) depth 60 fits 20000

pub program_send : IsSend program.the_field.row
program_send = search (step_send, maps.crosses, std.crosses, sendable) depth 60 fits 20000

pub program_sync : IsSync program.the_field.row
program_sync = search (step_sync, maps.crosses, std.crosses, sendable) depth 60 fits 20000

pub rule_send : IsSend rule.the_field.row
rule_send = search (text.the_send, value_send, maps.crosses, std.crosses, sendable) depth 60 fits 20000

pub rule_sync : IsSync rule.the_field.row
rule_sync = search (text.the_sync, value_sync, maps.crosses, std.crosses, sendable) depth 60 fits 20000

pub rules_send : IsSend rules.the_field.row
rules_send = search (rule_send, maps.crosses, std.crosses, sendable) depth 60 fits 20000

pub rules_sync : IsSync rules.the_field.row
rules_sync = search (rule_sync, maps.crosses, std.crosses, sendable) depth 60 fits 20000

pub outcome_send : IsSend outcome.the_field.row
outcome_send = search (value_send, fault_send, maps.crosses, std.crosses, sendable) depth 60 fits 20000

pub outcome_sync : IsSync outcome.the_field.row
outcome_sync = search (value_sync, fault_sync, maps.crosses, std.crosses, sendable) depth 60 fits 20000

pub projection_send : IsSend projection.the_field.row
projection_send = search (path_send, maps.crosses, std.crosses, sendable) depth 60 fits 20000

pub projection_sync : IsSync projection.the_field.row
projection_sync = search (path_sync, maps.crosses, std.crosses, sendable) depth 60 fits 20000

pub cursorrule_send : IsSend cursorrule.the_field.row
cursorrule_send = search (text.the_send, template_send, projection_send, sortkey_send, maps.crosses, std.crosses, sendable) depth 60 fits 20000

pub cursorrule_sync : IsSync cursorrule.the_field.row
cursorrule_sync = search (text.the_sync, template_sync, projection_sync, sortkey_sync, maps.crosses, std.crosses, sendable) depth 60 fits 20000

pub publication_send : IsSend publication.the_field.row
publication_send = search (cursorrule_send, maps.crosses, std.crosses, sendable) depth 60 fits 20000

pub publication_sync : IsSync publication.the_field.row
publication_sync = search (cursorrule_sync, maps.crosses, std.crosses, sendable) depth 60 fits 20000

pub app_send : IsSend app.the_field.row
app_send = search (text.the_send, program_send, publication_send, rules_send, maps.crosses, std.crosses, sendable) depth 60 fits 20000

pub app_sync : IsSync app.the_field.row
app_sync = search (text.the_sync, program_sync, publication_sync, rules_sync, maps.crosses, std.crosses, sendable) depth 60 fits 20000

pub cursor_send : IsSend cursor.the_field.row
cursor_send = search (text.the_send, selector_send, projection_send, sortkey_send, maps.crosses, std.crosses, sendable) depth 60 fits 20000

pub cursors_send : IsSend cursors.the_field.row
cursors_send = search (cursor_send, maps.crosses, std.crosses, sendable) depth 60 fits 20000

pub row_send : IsSend row.the_field.row
row_send = search (doc_send, maps.crosses, std.crosses, sendable) depth 60 fits 20000

pub row_sync : IsSync row.the_field.row
row_sync = search (doc_sync, maps.crosses, std.crosses, sendable) depth 60 fits 20000

pub held_send : IsSend held.the_field.row
held_send = search (text.the_send, text.the_sync, row_send, row_sync, maps.crosses, std.crosses, sendable) depth 60 fits 20000

pub window_send : IsSend window.the_field.row
window_send = search (sortkey_send, held_send, maps.crosses, std.crosses, sendable) depth 60 fits 20000

pub claim_send : IsSend claim.the_field.row
claim_send = search (value_send, maps.crosses, std.crosses, sendable) depth 60 fits 20000

pub claims_send : IsSend claims.the_field.row
claims_send = search (claim_send, maps.crosses, std.crosses, sendable) depth 60 fits 20000

pub shared_send : IsSend shared.the_field.row
shared_send = search (text.the_send, claims_send, maps.crosses, std.crosses, sendable) depth 60 fits 20000

pub heldform_send : IsSend heldform.the_field.row
heldform_send = search (doc_send, shared_send, maps.crosses, std.crosses, sendable) depth 60 fits 20000

pub heldchange_send : IsSend heldchange.the_field.row
heldchange_send = search (shared_send, heldform_send, maps.crosses, std.crosses, sendable) depth 60 fits 20000

pub slot_send : IsSend slot.the_field.row
slot_send = search (key_send, heldform_send, maps.crosses, std.crosses, sendable) depth 60 fits 20000

pub keptmap_send : IsSend keptmap.the_field.row
keptmap_send = search (key_send, slot_send, maps.crosses, std.crosses, sendable) depth 60 fits 20000

pub planned_send : IsSend planned.the_field.row
planned_send = search (heldchange_send, maps.crosses, std.crosses, sendable) depth 60 fits 20000

pub mergebox_send : IsSend mergebox.the_field.row
mergebox_send = search (key_send, keptmap_send, planned_send, maps.crosses, std.crosses, sendable) depth 60 fits 20000

pub fromclient_send : IsSend fromclient.the_field.row
fromclient_send = search (text.the_send, items_send, value_send, maps.crosses, std.crosses, sendable) depth 60 fits 20000

pub qentry_send : IsSend qentry.the_field.row
qentry_send = search (fromclient_send, maps.crosses, std.crosses, sendable) depth 60 fits 20000

pub queue_send : IsSend queue.the_field.row
queue_send = search (qentry_send, maps.crosses, std.crosses, sendable) depth 60 fits 20000

pub kept_send : IsSend kept.the_field.row
kept_send = search (doc_send, maps.crosses, std.crosses, sendable) depth 60 fits 20000

pub originals_send : IsSend originals.the_field.row
originals_send = search (key_send, kept_send, maps.crosses, std.crosses, sendable) depth 60 fits 20000

pub counted_send : IsSend counted.the_field.row
counted_send = search (contents_send, maps.crosses, std.crosses, sendable) depth 60 fits 20000

pub view_send : IsSend view.the_field.row
view_send = search (counted_send, originals_send, maps.crosses, std.crosses, sendable) depth 60 fits 20000

pub csub_send : IsSend csub.the_field.row
csub_send = search (text.the_send, maps.crosses, std.crosses, sendable) depth 60 fits 20000

pub csubs_send : IsSend csubs.the_field.row
csubs_send = search (text.the_send, csub_send, maps.crosses, std.crosses, sendable) depth 60 fits 20000

pub ccall_send : IsSend ccall.the_field.row
ccall_send = search (outcome_send, maps.crosses, std.crosses, sendable) depth 60 fits 20000

pub client_send : IsSend client.the_field.row
client_send = search (text.the_send, app_send, view_send, csubs_send, ccall_send, maps.crosses, std.crosses, sendable) depth 60 fits 20000

pub watched_send : IsSend watched.the_field.row
watched_send = search (cursor_send, window_send, maps.crosses, std.crosses, sendable) depth 60 fits 20000

pub observer_send : IsSend observer.the_field.row
observer_send = search (watched_send, maps.crosses, std.crosses, sendable) depth 60 fits 20000

pub sub_send : IsSend sub.the_field.row
sub_send = search (text.the_send, items_send, cursors_send, observer_send, maps.crosses, std.crosses, sendable) depth 60 fits 20000

pub call_send : IsSend call.the_field.row
call_send = search (text.the_send, items_send, value_send, maps.crosses, std.crosses, sendable) depth 60 fits 20000

pub method_send : IsSend method.the_field.row
method_send = search (text.the_send, maps.crosses, std.crosses, sendable) depth 60 fits 20000

pub own_send : IsSend own.the_field.row
own_send = search (sub_send, method_send, call_send, maps.crosses, std.crosses, sendable) depth 60 fits 20000

pub journal_send : IsSend journal.the_field.row
journal_send = search (text.the_send, maps.crosses, std.crosses, sendable) depth 60 fits 20000

pub fences_send : IsSend fences.the_field.row
fences_send = search (maps.crosses, std.crosses, sendable) depth 60 fits 20000

pub parts_send : IsSend parts.the_field.row
parts_send = search (text.the_send, own_send, mergebox_send, fences_send, journal_send, maps.crosses, std.crosses, sendable) depth 60 fits 20000

pub inner_send : IsSend inner.the_field.row
inner_send = search (app_send, parts_send, queue_send, maps.crosses, std.crosses, sendable) depth 60 fits 20000

pub session_send : IsSend session.the_field.row
session_send = search (inner_send, maps.crosses, std.crosses, sendable) depth 60 fits 20000

pub link_send : IsSend link.the_field.row
link_send = search (text.the_send, maps.crosses, std.crosses, sendable) depth 60 fits 20000

pub side_send : IsSend side.the_field.row
side_send = search (client_send, session_send, link_send, maps.crosses, std.crosses, sendable) depth 60 fits 20000

pub connection_send : IsSend connection.the_field.row
connection_send = search (side_send, maps.crosses, std.crosses, sendable) depth 60 fits 20000

pub connection_whole : IsSend connection.the_row
connection_whole = search (connection_send, sendable) depth 60 fits 20000

pub run_sync : IsSync run.the_field.row
run_sync = search (text.the_sync, items_sync, outcome_sync, maps.crosses, std.crosses, sendable) depth 60 fits 20000

pub called_sync : IsSync called.the_field.row
called_sync = search (text.the_sync, run_sync, maps.crosses, std.crosses, sendable) depth 60 fits 20000

pub store_sync : IsSync store.the_field.row
store_sync = search (text.the_sync, contents_sync, maps.crosses, std.crosses, sendable) depth 60 fits 20000

pub entry_sync : IsSync entry.the_field.row
entry_sync = search (text.the_sync, items_sync, value_sync, maps.crosses, std.crosses, sendable) depth 60 fits 20000

pub keptentry_sync : IsSync keptentry.the_field.row
keptentry_sync = search (text.the_sync, entry_sync, maps.crosses, std.crosses, sendable) depth 60 fits 20000

pub logged_sync : IsSync logged.the_field.row
logged_sync = search (keptentry_sync, change_sync, maps.crosses, std.crosses, sendable) depth 60 fits 20000

pub log_sync : IsSync log.the_field.row
log_sync = search (logged_sync, maps.crosses, std.crosses, sendable) depth 60 fits 20000

pub mparts_sync : IsSync mparts.the_field.row
mparts_sync = search (store_sync, called_sync, log_sync, maps.crosses, std.crosses, sendable) depth 60 fits 20000

pub machine_sync : IsSync machine.the_field.row
machine_sync = search (app_sync, mparts_sync, maps.crosses, std.crosses, sendable) depth 60 fits 20000

pub machine_whole : IsSync machine.the_row
machine_whole = search (machine_sync, sendable) depth 60 fits 20000

pub lane_send : IsSend (lane.the_field connection.the_row).row
lane_send = search (text.the_send, connection_whole, maps.crosses, std.crosses, sendable) depth 60 fits 20000

pub lane_whole : IsSend (lane.the_row connection.the_row)
lane_whole = search (lane_send, sendable) depth 60 fits 20000

pub text_whole : IsSync text_row.the_row
text_whole = search (text.the_sync) depth 5

pub global_whole : IsSync global_row.the_row
global_whole = search (global.the_sync) depth 5

-- A closure of so many captures crosses, where they do. A search at the goal of `join_mut` breaks off, since the closure's
-- type shows all that a connection holds.
pub captures_4 : (i : ℕ) (δ : Ty) (ν : Sym) (A B C D : RattleType) → IsSend A → IsSend B → IsSend C → IsSend D → IsSend (param i (arg δ no (TupleAt ν (A ∷ B ∷ C ∷ D ∷ []))))
captures_4 i δ ν A B C D a b c d =
    let Ts : List RattleType = A ∷ B ∷ C ∷ D ∷ [] in
    param_send i _ (arg_send δ no _ (recorded_send (field_at ν Ts).row _ _ (type_at ν Ts).to_one (struct_send (shape (type_at ν Ts)) (a, (b, (c, (d, tt)))))))
