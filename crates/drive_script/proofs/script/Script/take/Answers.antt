use Rattle.std.proofs.Common.{sym, ◌∙◌}
use Rattle.ejson_value.specs.View.{view}
use Rattle.drive_script.specs.Lines.{line_in}
use Rattle.drive_script.proofs.Grown.{takes_by}
use Rattle.drive_script.proofs.script.Script.take.Goals as goal

pub returns-in-Some : goal.returns-in-Some
returns-in-Some c = takes_by c.put.result c.args.self.now (line_in (view c.args.value.now)) c.in-Some.line c.put.new.self (sym c.in_ok-found.ensures ∙ c.in-Some.is) c.put.ensures
