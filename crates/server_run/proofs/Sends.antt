-- What a server's threads share goes over to them, and what each is given.
use denote.RattleType.{RattleType}
use denote.Param.Send.{IsSend, IsSync, sendable, struct_send, struct_sync}
use denote.Struct.Declared.{shape}
use Rattle.std.proofs.Crossing as std
use Rattle.std.proofs.sync.Mutex.TheSendSync as mutex
use Rattle.std.specs.contracts.alloc.Global as global
use Rattle.std.specs.contracts.impls.GlobalAllocator.TheImpl as heap
use Rattle.std.specs.declared.sync.ledger.Ledger as ledger
use Rattle.slab.specs.contracts.Slab as slab_row
use Rattle.slab.proofs.Slab.TheSendSync as slab
use Rattle.pass_log.specs.declared.log.LogName as log_name
use Rattle.store_name.specs.declared.name.StoreName as store_name
use Rattle.pass_log.proofs.log.Log.TheSendSync as log
use Rattle.history_model.specs.contracts.entry.Entry as entry
use Rattle.shared_store.specs.contracts.held.HeldStore as held
use Rattle.shared_store.specs.contracts.shared.SharedStore as shared
use Rattle.duct.specs.declared.link.Link as link
use Rattle.crossing.proofs.Captures.{fields_send, fields_sync}
use Rattle.crossing.proofs.Values.{app_send, app_sync}
use Rattle.crossing.proofs.Store.{held_send, pass_send, caller_send}
use Rattle.multiplexer_crossing.proofs.Multiplexer.{multiplexer_field_send, multiplexer_field_sync}
use Rattle.server_run.specs.contracts.hall.Hall as hall
use Rattle.server_run.specs.contracts.attending.Guest as guest

module _ (N L B : RattleType) (s : store_name.Ghosts N.Denot) (l : log_name.Ghosts N.Denot) (k : link.Ghosts L.Denot B.Denot) (b : ledger.Ghosts N.Denot) where
  places_send : IsSend B → IsSend (slab_row.the_row B global.the_row heap.ghosts)
  places_send rings = slab.the_send B global.the_row heap.ghosts rings std.send std.frees

  store_send : IsSend (shared.the_field N l s b).row
  store_send = struct_send (shape (shared.the_type N l s b)) (log.the_field_send entry.the_row N l, (mutex.the_send (held.the_row N s l b) (held_send N l s b), tt))

  store_sync : IsSync (shared.the_field N l s b).row
  store_sync = struct_sync (shape (shared.the_type N l s b)) (log.the_field_sync entry.the_row N l, (mutex.the_sync (held.the_row N s l b) (held_send N l s b), tt))

  pub hall_send : IsSend B → IsSend (hall.the_row N L B s l k b)
  hall_send rings =
      let a : IsSend global.the_field.row = search sendable depth 20 in
      fields_send (hall.the_type N L B s l k b) (a, (app_send, (store_send, (multiplexer_field_send N l s b, (mutex.the_send (slab_row.the_row B global.the_row heap.ghosts) (places_send rings), tt)))))

  pub hall_sync : IsSend B → IsSync (hall.the_row N L B s l k b)
  hall_sync rings =
      let a : IsSync global.the_field.row = search sendable depth 20 in
      fields_sync (hall.the_type N L B s l k b) (a, (app_sync, (store_sync, (multiplexer_field_sync N l s b, (mutex.the_sync (slab_row.the_row B global.the_row heap.ghosts) (places_send rings), tt)))))

module _ (N L : RattleType) (s : store_name.Ghosts N.Denot) (l : log_name.Ghosts N.Denot) (b : ledger.Ghosts N.Denot) where
  pub guest_send : IsSend L → IsSend (guest.the_row N L s l b)
  guest_send texts = fields_send (guest.the_type N L s l b) (texts, (pass_send N l s b, (caller_send N l s b, tt)))
