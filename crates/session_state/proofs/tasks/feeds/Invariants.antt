use Rattle.std.proofs.Common.{◌≡◌, ◌++◌, map, drop}
use Rattle.session_state.specs.Subs.{as_live}
use Rattle.session_state.specs.Work.{feeds_in, as_source}
use Rattle.std.proofs.Common.{option_map}
use Rattle.session_state.proofs.tasks.feeds.Given as goal

abbrev pub invariant-loop-sub : goal.invariant-loop-sub
invariant-loop-sub l = map (option_map as_source) l.feeds.items ++ feeds_in (map as_live (drop l.sub-index l.subs)) ≡ feeds_in (map as_live l.subs)
