use Rattle.std.proofs.Common.{◌≡◌, Some, None, arith}
use Rattle.json.specs.Json.{read_key}
use Rattle.ddp_messages.proofs.PlaceLaws.{nothing_said, one_more_said, all_said}
use Rattle.ddp_messages.proofs.told.Told.tell_all.Goals as goal

pub members-init : goal.members-init
members-init c = nothing_said c.args.reader.now c.args.self.now c.requires

pub members-preserved : goal.members-preserved
members-preserved c =
    let key = c.in-Some.key.now in
    let inner = c.next_key.new.self in
    let named : read_key c.members.reader ≡ Some (Some key, inner) = grind arith in
    let read = c.in_ok-tell.ensures in
    one_more_said c.args.reader.now c.members.reader inner c.tell.new.reader key c.members.self c.tell.new.self named read.read read.shorter c.members.invariant

pub returns : goal.returns
returns c =
    let over : read_key c.members.reader ≡ Some (None, c.next_key.new.self) = grind arith in
    all_said c.args.reader.now c.members.reader c.next_key.new.self c.members.self over c.members.invariant
