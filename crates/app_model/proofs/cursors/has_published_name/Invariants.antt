use Rattle.std.proofs.Common.{◌≡◌, drop}
use Rattle.app_model.specs.Rules.{publishes}
use Rattle.app_model.proofs.cursors.has_published_name.Given as goal

abbrev pub invariant-loop-rule : goal.invariant-loop-rule
invariant-loop-rule l = publishes (drop l.rule-index l.rule-items) l.name ≡ publishes l.rule-items l.name
