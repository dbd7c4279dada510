use Rattle.std.proofs.Common.{arith}
use Rattle.sort_window.proofs.Inside.{same_length}
use Rattle.sort_window.proofs.window.Window.commit.Goals as goal

pub moved-in_order-requires-clause-room : goal.moved-in_order-requires-clause-room
moved-in_order-requires-clause-room c =
    let same = same_length c.self.inside.in_order.items c.self.inside.by_id.items c.self.invariant.same in
    let room = c.requires.room in
    grind (arith, same, room)

pub carry_all-requires-clause-room_in_order : goal.carry_all-requires-clause-room_in_order
carry_all-requires-clause-room_in_order c =
    let same = same_length c.self.inside.in_order.items c.self.inside.by_id.items c.self.invariant.same in
    let room = c.requires.room in
    grind (arith, same, room)
