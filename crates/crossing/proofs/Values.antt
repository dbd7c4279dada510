-- Which values, programs and applications go over to other threads, level by level: a search opens all that has no lemma of
-- its own at each place anew.
use denote.Param.Send.{IsSend, IsSync, sendable}
use Rattle.std.proofs.Crossing as std
use Rattle.std.proofs.MapsCrossing as maps
use Rattle.std.proofs.alloc.Global.TheSendSync as global
use Rattle.std.proofs.option.Option.TheSendSync as option
use Rattle.std.proofs.sync.Arc.TheSendSync as arc
use Rattle.ejson_value.proofs.bytes.Bytes.TheSendSync as bytes
use Rattle.ejson_value.proofs.members.Measured.TheLaws.TheKnot as value_knot
use Rattle.ejson_value.proofs.text.Text.TheSendSync as text
use Rattle.ejson_value.proofs.user.BoxedName.TheSendSync as boxed_name
use Rattle.ejson_value.proofs.whole.Whole.TheSendSync as whole
use Rattle.ejson_value.specs.contracts.value.Value as value
use Rattle.ejson_value.specs.contracts.value.Items as items
use Rattle.ejson_value.specs.contracts.value.Doc as doc
use Rattle.ejson_value.specs.contracts.key.Key as key
use Rattle.ejson_value.specs.contracts.fault.Fault as fault
use Rattle.ejson_value.specs.contracts.path.Path as path
use Rattle.ejson_value.specs.contracts.sort.SortKey as sortkey
use Rattle.ejson_value.specs.contracts.contents.Contents as contents
use Rattle.ejson_value.specs.contracts.change.Change as change
use Rattle.program_steps.specs.contracts.template.Template as template
use Rattle.program_steps.specs.contracts.step.ProgramStep as step
use Rattle.program_steps.specs.contracts.step.Program as program
use Rattle.program_steps.specs.contracts.rules.Rule as rule
use Rattle.program_steps.specs.contracts.rules.Rules as rules
use Rattle.program_steps.specs.contracts.outcome.Outcome as outcome
use Rattle.app_model.specs.contracts.publication.Projection as projection
use Rattle.app_model.specs.contracts.publication.CursorRule as cursorrule
use Rattle.app_model.specs.contracts.publication.Publication as publication
use Rattle.app_model.specs.contracts.app.App as app

pub ruleset crosses = (maps.crosses, std.crosses, sendable)

ruleset owned = (bytes.the_send, bytes.the_sync, text.the_send, text.the_sync, boxed_name.the_send, boxed_name.the_sync, whole.the_send, whole.the_sync, global.the_send, global.the_sync, value_knot.crosses, crosses)

pub value_send : IsSend value.the_field.row
value_send = search (option.the_field_send, option.the_send, option.the_sync, arc.the_send, owned) depth 60 fits 20000

pub value_sync : IsSync value.the_field.row
value_sync = search (option.the_field_send, option.the_send, option.the_field_sync, option.the_sync, arc.the_send, arc.the_sync, owned) depth 60 fits 20000

pub items_send : IsSend items.the_field.row
items_send = search (owned) depth 60 fits 20000

pub items_sync : IsSync items.the_field.row
items_sync = search (owned) depth 60 fits 20000

pub doc_send : IsSend doc.the_field.row
doc_send = search (owned) depth 60 fits 20000

pub doc_sync : IsSync doc.the_field.row
doc_sync = search (owned) depth 60 fits 20000

pub key_send : IsSend key.the_field.row
key_send = search (text.the_send, crosses) depth 60 fits 20000

pub key_sync : IsSync key.the_field.row
key_sync = search (text.the_sync, crosses) depth 60 fits 20000

pub fault_send : IsSend fault.the_field.row
fault_send = search (text.the_send, crosses) depth 60 fits 20000

pub fault_sync : IsSync fault.the_field.row
fault_sync = search (text.the_sync, crosses) depth 60 fits 20000

pub path_send : IsSend path.the_field.row
path_send = search (text.the_send, crosses) depth 60 fits 20000

pub path_sync : IsSync path.the_field.row
path_sync = search (text.the_sync, crosses) depth 60 fits 20000

pub sortkey_send : IsSend sortkey.the_field.row
sortkey_send = search (path_send, crosses) depth 60 fits 20000

pub sortkey_sync : IsSync sortkey.the_field.row
sortkey_sync = search (path_sync, crosses) depth 60 fits 20000

pub contents_send : IsSend contents.the_field.row
contents_send = search (key_send, doc_send, crosses) depth 60 fits 20000

pub contents_sync : IsSync contents.the_field.row
contents_sync = search (key_sync, doc_sync, crosses) depth 60 fits 20000

pub change_send : IsSend change.the_field.row
change_send = search (key_send, doc_send, crosses) depth 60 fits 20000

pub change_sync : IsSync change.the_field.row
change_sync = search (key_sync, doc_sync, crosses) depth 60 fits 20000

pub template_send : IsSend template.the_field.row
template_send = search (value_send, crosses) depth 60 fits 20000

pub template_sync : IsSync template.the_field.row
template_sync = search (value_sync, crosses) depth 60 fits 20000

pub step_send : IsSend step.the_field.row
step_send = search (text.the_send, template_send, fault_send, crosses) depth 60 fits 20000

pub step_sync : IsSync step.the_field.row
step_sync = search (text.the_sync, template_sync, fault_sync, crosses) depth 60 fits 20000

pub program_send : IsSend program.the_field.row
program_send = search (step_send, crosses) depth 60 fits 20000

pub program_sync : IsSync program.the_field.row
program_sync = search (step_sync, crosses) depth 60 fits 20000

pub rule_send : IsSend rule.the_field.row
rule_send = search (text.the_send, value_send, crosses) depth 60 fits 20000

pub rule_sync : IsSync rule.the_field.row
rule_sync = search (text.the_sync, value_sync, crosses) depth 60 fits 20000

pub rules_send : IsSend rules.the_field.row
rules_send = search (rule_send, crosses) depth 60 fits 20000

pub rules_sync : IsSync rules.the_field.row
rules_sync = search (rule_sync, crosses) depth 60 fits 20000

pub outcome_send : IsSend outcome.the_field.row
outcome_send = search (value_send, fault_send, crosses) depth 60 fits 20000

pub outcome_sync : IsSync outcome.the_field.row
outcome_sync = search (value_sync, fault_sync, crosses) depth 60 fits 20000

pub projection_send : IsSend projection.the_field.row
projection_send = search (path_send, crosses) depth 60 fits 20000

pub projection_sync : IsSync projection.the_field.row
projection_sync = search (path_sync, crosses) depth 60 fits 20000

pub cursorrule_send : IsSend cursorrule.the_field.row
cursorrule_send = search (text.the_send, template_send, projection_send, sortkey_send, crosses) depth 60 fits 20000

pub cursorrule_sync : IsSync cursorrule.the_field.row
cursorrule_sync = search (text.the_sync, template_sync, projection_sync, sortkey_sync, crosses) depth 60 fits 20000

pub publication_send : IsSend publication.the_field.row
publication_send = search (cursorrule_send, crosses) depth 60 fits 20000

pub publication_sync : IsSync publication.the_field.row
publication_sync = search (cursorrule_sync, crosses) depth 60 fits 20000

pub app_send : IsSend app.the_field.row
app_send = search (text.the_send, program_send, publication_send, rules_send, crosses) depth 60 fits 20000

pub app_sync : IsSync app.the_field.row
app_sync = search (text.the_sync, program_sync, publication_sync, rules_sync, crosses) depth 60 fits 20000
