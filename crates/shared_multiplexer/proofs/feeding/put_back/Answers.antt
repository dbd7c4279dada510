use Rattle.std.proofs.Common.{List, sym, subst}
use Rattle.history_model.specs.declared.entry.Entry.{Entry}
use Rattle.shared_multiplexer.specs.Told.{WasLent}
use Rattle.shared_multiplexer.proofs.feeding.put_back.Goals as goal

pub learn-requires : goal.learn-requires
learn-requires g c = subst (λ (es : List Entry). WasLent g.N.StoreName.app es c.args.lent) (sym c.note.ensures.note) c.requires
