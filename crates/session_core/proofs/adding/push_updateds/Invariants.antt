use Rattle.std.proofs.Common.{◌≡◌, ◌++◌, map, take}
use Rattle.session_core.specs.Additions.{updated_text}
use Rattle.session_core.proofs.adding.push_updateds.Given as goal

abbrev pub invariant-loop-id : goal.invariant-loop-id
invariant-loop-id l = l.texts.items ≡ l.initial.texts.items ++ map updated_text (take l.id-index l.id-items)
