use Rattle.std.proofs.Common.{refl}
use Rattle.ddp_messages.specs.Wire.{wire_of}
use Rattle.ddp_messages.specs.WireLaws.{own_only}
use Rattle.ddp_messages.proofs.laws.wire_form_has_its_id.Goals as goal

pub returns : goal.returns
returns c id some = own_only (wire_of id) id (some, refl)
