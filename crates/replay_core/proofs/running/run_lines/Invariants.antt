use Rattle.std.proofs.Common.{◌≡◌, ◌+◌, ◌++◌, ℕ, List, drop}
use Rattle.replay_core.specs.Tasks.{AreRead, texts_of, place, Leads}
use Rattle.replay_core.proofs.running.run_lines.Given as goal

abbrev pub invariant-loop-line : goal.invariant-loop-line
invariant-loop-line g l = record {
  leads : (more : List (List ℕ)) → Leads (place (texts_of l.lines ++ more) l.first l.initial.world l.initial.output.items)
      (place (texts_of (drop l.line-index l.lines) ++ more) l.number l.world l.output.items);
  read : AreRead (drop l.line-index l.lines);
  number : l.number ≡ l.first + l.line-index;
}
