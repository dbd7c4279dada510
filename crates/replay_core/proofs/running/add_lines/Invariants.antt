use Rattle.std.proofs.Common.{◌≡◌, ◌++◌, take}
use Rattle.replay_core.specs.Replay.{all_bytes}
use Rattle.replay_core.proofs.running.add_lines.Given as goal

abbrev pub invariant-loop-line : goal.invariant-loop-line
invariant-loop-line l = l.output.items ≡ l.initial.output.items ++ all_bytes (take l.line-index l.line-items)
