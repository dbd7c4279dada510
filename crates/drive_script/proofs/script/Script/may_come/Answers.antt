use Rattle.std.proofs.Common.{ap, sym, ◌∙◌}
use Rattle.drive_script.specs.Scripts.{Scripted, may_act, may_come}
use Rattle.drive_script.proofs.script.Script.may_come.Goals as goal

pub returns-in-Act : goal.returns-in-Act
returns-in-Act c = c.may_act.ensures ∙ ap (λ (s : Scripted). may_act s.clients c.in-Act.client) c.self.view_is ∙ sym (ap (may_come c.args.self.now) c.in-Act.is)
