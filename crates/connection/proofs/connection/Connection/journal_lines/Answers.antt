use Rattle.std.proofs.Common.{◌≡◌, ℕ, List, ap, subst, ◌∙◌}
use Rattle.std.specs.Prelude.{IfOk}
use Rattle.connection.specs.Printed.{session_lines}
use Rattle.connection.specs.PrintedLaws.{session_lines_are}
use Rattle.connection.specs.Kept.{seen}
use Rattle.connection.proofs.connection.Connection.journal_lines.Goals as goal

pub returns : goal.returns
returns c =
    let side = c.self.inside.side in
    rw (← c.self.view_is)
    (subst (λ (ls : List (List ℕ)). IfOk c.journal_lines.result (λ lines. lines ≡ ls)) (ap (session_lines side.session) c.all.ensures ∙ session_lines_are (seen side)) c.journal_lines.ensures)
