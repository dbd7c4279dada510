use Rattle.merge_box.proofs.Listing.{none_listed}
use Rattle.merge_box.proofs.index.lists_nothing.Goals as goal

pub returns-in-Some : goal.returns-in-Some
returns-in-Some c = λ empty. none_listed c.args.index.now.entries c.args.sub c.in-Some.keys.now c.in-Some.ensures.value (c.is_empty.ensures.0 empty)
