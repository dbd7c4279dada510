use Rattle.std.specs.Prelude.{slice_get}
use Rattle.std.proofs.Common.{List, ap, sym, ◌∙◌}
use Rattle.session_state.specs.declared.journal.Line.{Line}
use Rattle.session_state.specs.Journal.{runs}
use Rattle.session_core.specs.Lines.{lines_of}
use Rattle.session_core.specs.session_laws.Session.{ASession}
use Rattle.session_core.proofs.Lined.{lines_are}
use Rattle.session_core.proofs.session.Session.record.Goals as goal

pub returns : goal.returns
returns c =
    c.record.ensures
    ∙ (ap (λ (ls : List Line). slice_get (runs ls) c.args.place) (sym (lines_are c.self.inside.inner.parts.journal.lines)) ∙ ap (λ (s : ASession). slice_get (runs (lines_of s)) c.args.place) c.self.view_is)
