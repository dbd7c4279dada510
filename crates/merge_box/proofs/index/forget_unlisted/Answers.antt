use Rattle.std.proofs.Common.{refl}
use Rattle.merge_box.proofs.Listing.{forgotten}
use Rattle.merge_box.proofs.index.forget_unlisted.Goals as goal

pub returns-then-lists_nothing : goal.returns-then-lists_nothing
returns-then-lists_nothing c = forgotten c.args.index.now.entries c.remove.new.self.entries c.args.sub (c.if-lists_nothing.ensures refl) c.remove.ensures.updates.0
