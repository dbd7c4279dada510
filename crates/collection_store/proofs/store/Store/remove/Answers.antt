use Rattle.collection_store.proofs.store.Store.remove.Goals as goal

pub make-requires-clause-bytes : goal.make-requires-clause-bytes
make-requires-clause-bytes c = c.bytes_after-bytes.ensures.exact c.in_ok-reply.ensures.none
