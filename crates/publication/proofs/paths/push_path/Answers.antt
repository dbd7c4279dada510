use Rattle.std.specs.Borrow.{Bor}
use Rattle.std.proofs.Common.{ℕ, List, ◌∷◌, [], ap, ◌∙◌}
use Rattle.std.proofs.lemmas.List.{map-append}
use Rattle.publication.specs.Parts.{paths_in}
use Rattle.publication.proofs.paths.push_path.Goals as goal

pub returns : goal.returns
returns c = ap paths_in c.in_ok-push.ensures.items ∙ map-append (λ (p : Bor (List (List ℕ))). p.now) c.args.paths.now.items (c.args.path ∷ [])
