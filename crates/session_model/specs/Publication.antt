-- What a `sub` is answered, and what cursors publish of contents (Meteor's guide, "Publications and data loading").
use Rattle.std.specs.Prelude.{ℕ, List, [], Option, Some, None, Result, Ok, Err, codes}
use Rattle.value_model.specs.Val.{Val}
use Rattle.ejson_value.specs.declared.fault.Fault.{Fault}
use Rattle.ejson_value.specs.Rows.{Rows}
use Rattle.app_model.specs.Rules.{Rules}
use Rattle.app_model.specs.App.{App, publication}
use Rattle.publication.specs.declared.fault.CursorFault.{CursorFault}
use Rattle.publication.specs.Cursors.{ACursors, cursors_made}
use Rattle.publication.specs.Putting.{put_all}
use Rattle.session_model.specs.declared.fault.SubFault.{SubFault}
use Rattle.session_model.specs.declared.fault.SubFault.TheVariants as fault

abbrev pub Making : Type 0
Making = Result ACursors SubFault

abbrev pub or_bad : Result ACursors CursorFault → Making
or_bad (Ok cursors) = Ok cursors
or_bad (Err e) = Err fault.BadParameters

abbrev pub made_by : List Val → Option Rules → Making
made_by params None = Err fault.NotFound
made_by params (Some rules) = or_bad (cursors_made params rules)

-- the cursors of the publication of this name with these parameters, or why a `sub` of it is refused
abbrev pub making : App → List ℕ → List Val → Making
making app name params = made_by params (publication app name)

-- every document that cursors publish of contents, queried anew: the one list that `IsQuery` describes
abbrev pub queried : ACursors → Rows → Rows
queried cursors rows = put_all [] cursors rows

-- ---- errors

abbrev pub code_of : SubFault → List ℕ
code_of fault.TooMany = codes "503"
code_of fault.NotFound = codes "404"
code_of fault.BadParameters = codes "400"

abbrev pub reason_of : SubFault → List ℕ
reason_of fault.TooMany = codes "Too many subscriptions"
reason_of fault.NotFound = codes "Subscription not found"
reason_of fault.BadParameters = codes "Bad parameters"

-- the error that a refused `sub` is answered by (DDP.md, "Errors"; codes and reasons are ours)
abbrev pub error_of : SubFault → Fault
error_of f = record { code = code_of f; reason = reason_of f }
