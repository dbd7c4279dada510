use Rattle.std.proofs.lemmas.Result.{on_ok_weaker}
use Rattle.ddp_messages.proofs.PlaceLaws.{other_told}
use Rattle.ddp_messages.proofs.told.Told.tell_value.Goals as goal

pub returns-in_default-clause-read : goal.returns-in_default-clause-read
returns-in_default-clause-read c =
    let not = c.in_default in
    let apart = c.requires in
    on_ok_weaker c.tell_other.result
    (other_told c.args.key.now c.args.self.now c.tell_other.new.others c.args.reader.now c.tell_other.new.reader
    apart.0 apart.1 apart.2 apart.3 not.not-fields not.not-params)
    c.tell_other.ensures.read
