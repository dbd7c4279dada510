use Rattle.std.proofs.Common.{map, ap, sym, ◌∙◌}
use Rattle.session_state.specs.declared.progress.Progress.{Progress}
use Rattle.session_state.specs.Subs.{as_live}
use Rattle.session_state.specs.Progress.{nowhere, with_cursor}
use Rattle.session_state.specs.ProgressLaws.{progress_append}
use Rattle.session_state.proofs.progress.progress_opened.Goals as goal

pub returns : goal.returns
returns c =
    c.with.ensures ∙ (ap (λ (p : Progress). with_cursor p c.args.sub.now.cursor) c.progress_now.ensures ∙ sym (progress_append nowhere (map as_live c.args.subs.now) (as_live c.args.sub.now)))
