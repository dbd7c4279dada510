use Rattle.ddp_messages.specs.WireLaws.{own_ok, own_only}
use Rattle.ddp_messages.proofs.laws.no_other_wire_form.Goals as goal

pub returns : goal.returns
returns c id wire = (own_ok wire id, own_only wire id)
