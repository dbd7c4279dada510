use Rattle.std.proofs.Common.{◌≡◌, take}
use Rattle.publication.specs.Parts.{paths_in}
use Rattle.publication.proofs.paths.parts_of.Given as goal

abbrev pub invariant-loop-path : goal.invariant-loop-path
invariant-loop-path l = paths_in l.parts.items ≡ take l.path-index l.path-items
