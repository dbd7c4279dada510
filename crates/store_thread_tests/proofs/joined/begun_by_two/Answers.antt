use denote.Param.{param}
use denote.Param.Send.{IsSync, shr_send}
use Rattle.std.proofs.Crossing as std
use Rattle.ejson_value.proofs.text.Text.TheSendSync as text
use Rattle.crossing.proofs.Captures.{fields_sync, captures, and, none}
use Rattle.crossing.proofs.Values.{app_sync, value_sync, items_sync}
use Rattle.crossing.proofs.Store.{shared_sync, pass_send, caller_send}
use Rattle.store_thread_tests.specs.contracts.calls.Named as named
use Rattle.store_thread_tests.proofs.joined.begun_by_two.Goals as goal

-- a call goes to other threads
named_sync : IsSync named.the_row
named_sync = fields_sync named.the_type (text.the_sync, (items_sync, (value_sync, tt)))

pub join-first-requires-send-F : goal.join-first-requires-send-F
join-first-requires-send-F g c κs within =
    let N = param 0 g.row.N in
    let l = g.N.LogName in
    let s = g.N.StoreName in
    let b = g.N.Ledger in
    captures _ _ _ _
    (and (shr_send _ _ _ c.type_bounds.sync-R) (and std.send (and (shr_send _ _ _ app_sync) (and (shr_send _ _ _ (shared_sync N l s b))
    (and (pass_send N l s b) (and (caller_send N l s b) (and (shr_send _ _ _ named_sync) none)))))))
