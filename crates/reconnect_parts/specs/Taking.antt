-- What a text of a server reads as, and what a message about a document does.
use Rattle.std.specs.Prelude.{◌≡◌, ℕ, List, true, false, Some, None, Result, Ok, Err}
use Rattle.map_model.specs.Maps.{at, set}
use Rattle.map_model.specs.Differences.{Step, taken}
use Rattle.value_model.specs.Val.{Val}
use Rattle.value_model.specs.Order.{text_cmp}
use Rattle.view_model.specs.Views.{refusal}
use Rattle.ejson_value.specs.declared.key.Key.{Key}
use Rattle.ejson_value.specs.Key.{key_cmp}
use Rattle.ejson_value.specs.Rows.{Rows}
use Rattle.ddp_messages.specs.declared.from_server.FromServer.{FromServer}
use Rattle.ddp_messages.specs.ServerMessage.{server_view}
use Rattle.ddp_messages.specs.Answers.{server_answer}
use Rattle.reconnect_model.specs.Revival.{Revival}
use Rattle.reconnect_model.specs.Giving.{refused_by, text_refusal}
use Rattle.reconnect_parts.specs.declared.fault.HeardFault.{HeardFault}
use Rattle.reconnect_parts.specs.declared.fault.HeardFault.TheVariants.{Idle, ServerSent, Memory}

-- a message about a document is taken where it fits it
abbrev pub Takes : {X : Type 0} → Key → Step (List ℕ) Val → Rows → Rows → Result X HeardFault → Type 0
Takes key step old new (Ok x) = (refusal (at key_cmp old key) step ≡ None) × (new ≡ set key_cmp old key (taken text_cmp (at key_cmp old key) step))
Takes key step old new (Err (ServerSent n)) = (refusal (at key_cmp old key) step ≡ Some n) × (new ≡ old)
Takes key step old new (Err Idle) = true ≡ false
Takes key step old new (Err Memory) = new ≡ old

-- the message of a text, or the number of the rule that refuses it, whatever was heard before
abbrev pub IsRead : List ℕ → Result FromServer HeardFault → Type 0
IsRead text (Ok m) = ((r : Revival) → text_refusal r text ≡ refused_by r (server_view m)) × (server_answer text ≡ Ok (server_view m))
IsRead text (Err (ServerSent n)) = (r : Revival) → text_refusal r text ≡ Some n
IsRead text (Err Idle) = true ≡ false
IsRead text (Err Memory) = Unit {0}
