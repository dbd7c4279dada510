use Rattle.std.proofs.Common.{List, length, ap, sym, ◌∙◌}
use Rattle.session_state.specs.declared.journal.Line.{Line}
use Rattle.session_state.specs.Journal.{runs}
use Rattle.session_core.specs.Lines.{lines_of}
use Rattle.session_core.specs.session_laws.Session.{ASession}
use Rattle.session_core.proofs.Lined.{lines_are}
use Rattle.session_core.proofs.session.Session.records.Goals as goal

pub returns : goal.returns
returns c =
    c.records.ensures
    ∙ (ap (λ (ls : List Line). length (runs ls)) (sym (lines_are c.self.inside.inner.parts.journal.lines)) ∙ ap (λ (s : ASession). length (runs (lines_of s))) c.self.view_is)
