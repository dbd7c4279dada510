use Rattle.std.proofs.Common.{rules}
use Rattle.std.proofs.Common.{refl}
use Rattle.connection.proofs.Sides.{sent_done}
use Rattle.connection.proofs.connection.Connection.send.Goals as goal

pub returns-in-Some : goal.returns-in-Some
returns-in-Some c =
    let side = c.self.inside.side in
    rw (← c.self.view_is)
    (sent_done side c.self.invariant c.send.new.self (record { texts = c.push.new.self; taken = side.downward.taken }) c.in-Some.text (search rules) c.in-Some.ensures (search rules) refl)
