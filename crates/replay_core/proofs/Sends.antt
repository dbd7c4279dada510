-- Which types may cross threads, level by level: a search for a type opens all below it anew at each place.
use denote.Ref.{NamedLft}
use denote.Param.Send.{IsSend, IsSync, sendable}
use Rattle.std.proofs.Crossing as std
use Rattle.std.proofs.MapsCrossing as maps
use Rattle.ejson_value.specs.contracts.value.Value as value
use Rattle.ejson_value.proofs.members.Measured.TheLaws.TheKnot as value_knot
use Rattle.ejson_value.specs.contracts.value.Items as items
use Rattle.ejson_value.specs.contracts.value.Doc as doc
use Rattle.ejson_value.specs.contracts.path.Path as path
use Rattle.std.proofs.option.Option.TheSendSync as option
use Rattle.ejson_value.proofs.bytes.Bytes.TheSendSync as bytes
use Rattle.ejson_value.proofs.text.Text.TheSendSync as text
use Rattle.ejson_value.proofs.user.BoxedName.TheSendSync as named
use Rattle.ejson_value.proofs.whole.Whole.TheSendSync as whole
use Rattle.std.proofs.sync.Arc.TheSendSync as arc
use Rattle.std.proofs.alloc.Global.TheSendSync as global
use Rattle.selector_match.specs.contracts.operands.Operands as operands
use Rattle.selector_match.specs.contracts.selector.Plain as plain
use Rattle.selector_match.specs.contracts.selector.Selector as selector
use Rattle.selector_match.proofs.selector.Operators.TheLaws.TheKnot as query_knot
use Rattle.selector_match.specs.contracts.selector.Test as test
use Rattle.modifier_apply.specs.contracts.modifier.Operator as operator
use Rattle.modifier_apply.specs.contracts.modifier.Update as update
use Rattle.modifier_apply.specs.contracts.modifier.Modifier as modifier
use Rattle.collection_store.specs.contracts.operation.Op as op
use Rattle.world_core.specs.world_model_for_proofs.contracts.events.Event as happening
use Rattle.world_events.specs.contracts.event.Event as event
use Rattle.std.proofs.vec.Vec.TheSendSync as vec
use Rattle.replay_core.specs.contracts.tasks.Task as task
use Rattle.replay_core.specs.contracts.tasks.ReadLine as line

-- the parts of a value that hold no value
ruleset parts = (bytes.the_send, bytes.the_sync, text.the_send, text.the_sync, named.the_send, named.the_sync, whole.the_send, whole.the_sync, global.the_send, global.the_sync)

pub value_send : IsSend value.the_field.row
value_send = search (option.the_field_send, option.the_send, option.the_field_sync, option.the_sync, arc.the_send, arc.the_sync, parts, maps.crosses, std.crosses, value_knot.crosses, sendable) depth 60 fits 20000

pub value_sync : IsSync value.the_field.row
value_sync = search (option.the_field_send, option.the_send, option.the_field_sync, option.the_sync, arc.the_send, arc.the_sync, parts, maps.crosses, std.crosses, value_knot.crosses, sendable) depth 60 fits 20000

pub items_send : IsSend items.the_field.row
items_send = search (parts, maps.crosses, std.crosses, value_knot.crosses, sendable) depth 60 fits 20000

pub doc_send : IsSend doc.the_field.row
doc_send = search (parts, maps.crosses, std.crosses, value_knot.crosses, sendable) depth 60 fits 20000

pub path_send : IsSend path.the_field.row
path_send = search (text.the_send, maps.crosses, std.crosses, sendable) depth 60 fits 20000

pub path_sync : IsSync path.the_field.row
path_sync = search (text.the_sync, maps.crosses, std.crosses, sendable) depth 60 fits 20000

pub operands_send : IsSend operands.the_field.row
operands_send = search (value_send, maps.crosses, std.crosses, sendable) depth 60 fits 20000

pub operands_sync : IsSync operands.the_field.row
operands_sync = search (value_sync, maps.crosses, std.crosses, sendable) depth 60 fits 20000

pub plain_send : IsSend plain.the_field.row
plain_send = search (value_send, operands_send, maps.crosses, std.crosses, sendable) depth 60 fits 20000

pub plain_sync : IsSync plain.the_field.row
plain_sync = search (value_sync, operands_sync, maps.crosses, std.crosses, sendable) depth 60 fits 20000

pub selector_send : IsSend selector.the_field.row
selector_send = search (text.the_send, text.the_sync, path_send, path_sync, plain_send, plain_sync, option.the_field_send, option.the_send, option.the_sync, vec.the_send, vec.the_sync, global.the_send, global.the_sync, maps.crosses, std.crosses, query_knot.crosses, sendable) depth 60 fits 20000

pub test_send : IsSend test.the_field.row
test_send = search (text.the_send, text.the_sync, path_send, path_sync, plain_send, plain_sync, option.the_field_send, option.the_send, option.the_sync, vec.the_send, vec.the_sync, global.the_send, global.the_sync, maps.crosses, std.crosses, query_knot.crosses, sendable) depth 60 fits 20000

pub operator_send : IsSend operator.the_field.row
operator_send = search (value_send, items_send, test_send, maps.crosses, std.crosses, sendable) depth 60 fits 20000

pub update_send : IsSend update.the_field.row
update_send = search (path_send, operator_send, maps.crosses, std.crosses, sendable) depth 60 fits 20000

pub modifier_send : IsSend modifier.the_field.row
modifier_send = search (doc_send, update_send, maps.crosses, std.crosses, sendable) depth 60 fits 20000

pub op_send : IsSend op.the_field.row
op_send = search (text.the_send, doc_send, selector_send, modifier_send, maps.crosses, std.crosses, sendable) depth 60 fits 20000

pub happening_send : IsSend happening.the_field.row
happening_send = search (text.the_send, items_send, maps.crosses, std.crosses, sendable) depth 60 fits 20000

pub event_send : IsSend event.the_field.row
event_send = search (happening_send, maps.crosses, std.crosses, sendable) depth 60 fits 20000

pub task_send : IsSend task.the_field.row
task_send = search (text.the_send, op_send, event_send, maps.crosses, std.crosses, sendable) depth 60 fits 20000

pub line_send : (a : NamedLft) → IsSend (line.the_field a).row
line_send a = search (task_send, maps.crosses, std.crosses, sendable) depth 60 fits 20000
