-- A shared multiplexer goes over to other threads, level by level.
use denote.RattleType.{RattleType}
use denote.Param.Send.{IsSend, IsSync, sendable, view_send, struct_send, struct_sync}
use denote.Struct.Declared.{shape}
use Rattle.std.proofs.sync.Mutex.TheSendSync as mutex
use Rattle.std.specs.contracts.alloc.Global as global
use Rattle.std.specs.declared.sync.ledger.Ledger as ledger
use Rattle.ejson_value.proofs.text.Text.TheSendSync as text
use Rattle.ejson_value.specs.contracts.change.Publish as publish
use Rattle.known_texts.specs.contracts.texts.KnownTexts as known
use Rattle.history_log.specs.contracts.batch.Batch as batch
use Rattle.history_model.specs.contracts.entry.Entry as entry
use Rattle.multiplexer.specs.contracts.entry.Told as told
use Rattle.multiplexer.specs.contracts.source.Span as span
use Rattle.multiplexer.specs.contracts.source.Source as source
use Rattle.multiplexer.specs.contracts.news.Multiplexer as multiplexer
use Rattle.pass_log.specs.contracts.log.Pass as pass_row
use Rattle.pass_log.specs.declared.log.LogName as log_name
use Rattle.pass_log.proofs.log.Pass.TheSendSync as pass
use Rattle.store_name.specs.declared.name.StoreName as store_name
use Rattle.shared_multiplexer.specs.contracts.held.HeldMultiplexer as held
use Rattle.shared_multiplexer.specs.contracts.held.HeldMultiplexer.TheInside as inside
use Rattle.shared_multiplexer.specs.contracts.shared.SharedMultiplexer as shared
use Rattle.crossing.proofs.Captures.{fields_send, fields_sync}
use Rattle.crossing.proofs.Values.{crosses, key_send, key_sync, doc_send, doc_sync, items_send, items_sync, change_send, change_sync}

pub publish_send : IsSend publish.the_field.row
publish_send = search (key_send, doc_send, crosses) depth 60 fits 20000

pub publish_sync : IsSync publish.the_field.row
publish_sync = search (key_sync, doc_sync, crosses) depth 60 fits 20000

pub known_send : IsSend known.the_field.row
known_send = search (text.the_send, crosses) depth 60 fits 20000

pub batch_send : IsSend batch.the_field.row
batch_send = search (change_send, crosses) depth 60 fits 20000

pub batch_sync : IsSync batch.the_field.row
batch_sync = search (change_sync, crosses) depth 60 fits 20000

pub told_send : IsSend told.the_field.row
told_send = search (publish_send, publish_sync, known_send, crosses) depth 60 fits 20000

pub span_send : IsSend span.the_field.row
span_send = search (publish_send, publish_sync, known_send, crosses) depth 60 fits 20000

pub source_send : IsSend source.the_field.row
source_send = search (text.the_send, items_send, items_sync, told_send, span_send, crosses) depth 60 fits 20000

pub multiplexer_send : IsSend multiplexer.the_field.row
multiplexer_send = search (source_send, batch_send, batch_sync, crosses) depth 60 fits 20000

-- ---- the multiplexer of a store's name

module _ (N : RattleType) (l : log_name.Ghosts N.Denot) (s : store_name.Ghosts N.Denot) (b : ledger.Ghosts N.Denot) where
  pub held_send : IsSend (held.the_row N s l b)
  held_send =
      let p : IsSend (pass_row.the_row entry.the_row N l) = pass.the_send entry.the_row N l in
      view_send (inside.the_row N s l b) _ _ _ _ (fields_send (inside.the_type N s l b) (multiplexer_send, (p, tt)))

  pub shared_send : IsSend (shared.the_row N s l b)
  shared_send =
      let a : IsSend global.the_field.row = search sendable depth 20 in
      fields_send (shared.the_type N s l b) (a, (mutex.the_send (held.the_row N s l b) held_send, tt))

  pub shared_sync : IsSync (shared.the_row N s l b)
  shared_sync =
      let a : IsSync global.the_field.row = search sendable depth 20 in
      fields_sync (shared.the_type N s l b) (a, (mutex.the_sync (held.the_row N s l b) held_send, tt))

  -- as a field
  pub multiplexer_field_send : IsSend (shared.the_field N s l b).row
  multiplexer_field_send =
      let a : IsSend global.the_field.row = search sendable depth 20 in
      struct_send (shape (shared.the_type N s l b)) (a, (mutex.the_send (held.the_row N s l b) held_send, tt))

  pub multiplexer_field_sync : IsSync (shared.the_field N s l b).row
  multiplexer_field_sync =
      let a : IsSync global.the_field.row = search sendable depth 20 in
      struct_sync (shape (shared.the_type N s l b)) (a, (mutex.the_sync (held.the_row N s l b) held_send, tt))
