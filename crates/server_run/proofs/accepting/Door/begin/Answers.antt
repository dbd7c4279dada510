use denote.Param.{param}
use denote.Builtin.{usize}
use denote.Param.Send.{IsSend, sendable}
use Rattle.std.proofs.Crossing as std
use Rattle.crossing.proofs.Captures.{captures, and, none}
use Rattle.server_run.specs.contracts.hall.Hall as hall
use Rattle.server_run.proofs.Sends.{hall_send, hall_sync, guest_send}
use Rattle.server_run.proofs.accepting.Door.begin.Goals as goal

pub spawn-requires-send-F : goal.spawn-requires-send-F
spawn-requires-send-F g c κs within =
    let N = param 0 g.row.N in
    let L = param 1 g.row.L in
    let B = param 2 g.row.L-Bell in
    let s = g.N.StoreName in
    let l = g.N.LogName in
    let k = g.L.Link in
    let b = g.N.Ledger in
    let key : IsSend usize = search sendable in
    captures _ _ _ _ (and c.type_bounds.send-R (and (std.Arc-send (hall.the_row N L B s l k b) (hall_send N L B s l k b c.type_bounds.send-L-Bell) (hall_sync N L B s l k b c.type_bounds.send-L-Bell)) (and key (and (guest_send N L s l b c.type_bounds.send-L) none))))
