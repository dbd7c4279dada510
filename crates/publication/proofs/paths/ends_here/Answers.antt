use Rattle.std.specs.Borrow.{Bor}
use Rattle.std.proofs.Common.{ℕ, List, sym}
use Rattle.publication.proofs.SortedPaths.{first_ends_at}
use Rattle.publication.proofs.paths.ends_here.Goals as goal

pub returns-in-Some : goal.returns-in-Some
returns-in-Some c = first_ends_at (λ (r : Bor (List (List ℕ))). r.now) c.args.level c.args.paths.now c.in-Some.path.now (sym c.in-Some.ensures.value) c.requires
