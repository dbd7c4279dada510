use Rattle.std.proofs.Common.{◌≡◌, ◌++◌, ℕ, List, [], map, filter, not, drop}
use Rattle.reconnect_model.specs.Giving.{released}
use Rattle.reconnect.proofs.reviver.Reviver.release.Given as goal

abbrev pub invariant-loop-text : goal.invariant-loop-text
invariant-loop-text l = record {
  left : (released l.before.keys l.self (drop l.text-index l.held)).revival ≡ (released l.before.keys l.initial.self l.held).revival;
  given : l.texts ++ (released l.before.keys l.self (drop l.text-index l.held)).texts ≡ l.initial.texts ++ (released l.before.keys l.initial.self l.held).texts;
}
