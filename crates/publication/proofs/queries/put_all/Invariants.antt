use Rattle.std.proofs.Common.{◌≡◌, drop}
use Rattle.publication.specs.Putting.{put_all}
use Rattle.publication.proofs.queries.put_all.Given as goal

abbrev pub invariant-loop-cursor : goal.invariant-loop-cursor
invariant-loop-cursor l = put_all l.found.entries (drop l.cursor-index l.cursor-items) l.contents ≡ put_all l.initial.found.entries l.cursor-items l.contents
