use Rattle.std.proofs.Common.{◌≡◌, drop}
use Rattle.value_model.specs.Val.{vals_of}
use Rattle.ejson_value.specs.View.{views}
use Rattle.ddp_messages.specs.Plain.{each_in, id_in}
use Rattle.ddp_messages.proofs.Each.{behind}
use Rattle.ddp_messages.proofs.plain.each_id.Given as goal

-- what was read so far, and the rest
abbrev pub invariant-loop-value : goal.invariant-loop-value
invariant-loop-value l = each_in id_in (vals_of (views l.values)) ≡ behind l.ids (each_in id_in (vals_of (views (drop l.value-index l.values))))
