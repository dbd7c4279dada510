use denote.Param.{param}
use denote.Param.Send.{shr_send}
use Rattle.std.proofs.Crossing as std
use Rattle.std.proofs.sync.atomic.AtomicU64.TheSendSync as word
use Rattle.crossing.proofs.Captures.{captures, and, none}
use Rattle.crossing.proofs.Values.{app_sync}
use Rattle.crossing.proofs.Store.{shared_sync, pass_send, caller_send}
use Rattle.server_tests.proofs.others.beside.Goals as goal

pub join-written-requires-send-F : goal.join-written-requires-send-F
join-written-requires-send-F g c κs within =
    let N = param 0 g.row.N in
    let l = g.N.LogName in
    let s = g.N.StoreName in
    let b = g.N.Ledger in
    captures _ _ _ _
    (and (shr_send _ _ _ c.type_bounds.sync-R) (and std.send (and (shr_send _ _ _ app_sync) (and (shr_send _ _ _ (shared_sync N l s b))
    (and (pass_send N l s b) (and (caller_send N l s b) (and (shr_send _ _ _ word.the_sync) none)))))))
