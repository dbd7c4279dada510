-- The cursors that a publication makes are those of its application, and none of them has a limit that was looked for.
use Rattle.std.specs.Prelude.{◌≡◌, ℕ, List, [], Option, Some, Result, Ok, false}
use Rattle.std.proofs.Common.{ap, sym, ◌∙◌}
use Rattle.app_model.specs.Rules.{Rules}
use Rattle.app_model.specs.App.{App, publication}
use Rattle.publication.specs.declared.fault.CursorFault.{CursorFault}
use Rattle.publication.specs.Cursors.{ACursors, cursors_made}
use Rattle.live_observer.specs.Observing.{HaveNoLimit}
use Rattle.session_model.specs.Publication.{or_bad, made_by}
use Rattle.session_journal_laws.specs.Resolved.{cursors_in}
use Rattle.world_news_laws.specs.Sources.{cursors_at_of, has_limit}
use Rattle.world_news_laws.specs.Found as found

pub made : (app : App) (name : List ℕ) (rules : Rules) (cursors : ACursors) → Some rules ≡ publication app name → cursors_made [] rules ≡ Ok cursors →
    cursors ≡ cursors_at_of app name []
made app name rules cursors there makes =
    sym (ap (λ (p : Option Rules). cursors_in (made_by [] p)) (sym there) ∙ ap (λ (r : Result ACursors CursorFault). cursors_in (or_bad r)) makes)

pub unlimited : (cursors : ACursors) → has_limit cursors ≡ false → HaveNoLimit cursors
unlimited cursors e = found.unlimited cursors e
