use Rattle.std.proofs.lemmas.Result.{on_ok_weaker}
use Rattle.std.proofs.Common.{ap, sym, ◌∙◌}
use Rattle.map_model.specs.Changes.{changed}
use Rattle.value_model.specs.Order.{text_cmp}
use Rattle.sort_window.specs.Telling.{seen}
use Rattle.sort_window.specs.Windows.{before, after}
use Rattle.sort_window.proofs.Telling.{shown_is, told_with, told_more, told_here}
use Rattle.sort_window.proofs.window.Window.tell_change.Goals as goal

pub returns-clause-more : goal.returns-clause-more
returns-clause-more c =
    let self = c.args.self.now in
    let changes = c.args.draft.now.changes.items in
    let change = c.args.change.now in
    let rows = changed text_cmp self.rows changes in
    let old = c.args.told.now.entries in
    let new = c.tell.new.told.entries in
    let was = c.seen_before.ensures ∙ ap (seen self.sort self.limit self.rows) c.before-2.ensures ∙ sym (shown_is self.sort self.limit self.rows change.key change.before c.requires.stands) in
    let is = c.seen_after.ensures ∙ ap (seen self.sort self.limit rows) c.after.ensures ∙ sym (shown_is self.sort self.limit rows change.key change.after c.requires.ends) in
    on_ok_weaker c.tell.result (λ told. told_more (before self) (after self changes) old new change.key (told_with old new c.id.result.now change.key _ (before self change.key) _ (after self changes change.key) c.id.ensures was is told)) c.tell.ensures

pub returns-clause-here : goal.returns-clause-here
returns-clause-here c =
    let self = c.args.self.now in
    let changes = c.args.draft.now.changes.items in
    let change = c.args.change.now in
    let rows = changed text_cmp self.rows changes in
    let old = c.args.told.now.entries in
    let new = c.tell.new.told.entries in
    let was = c.seen_before.ensures ∙ ap (seen self.sort self.limit self.rows) c.before-2.ensures ∙ sym (shown_is self.sort self.limit self.rows change.key change.before c.requires.stands) in
    let is = c.seen_after.ensures ∙ ap (seen self.sort self.limit rows) c.after.ensures ∙ sym (shown_is self.sort self.limit rows change.key change.after c.requires.ends) in
    on_ok_weaker c.tell.result (λ told. told_here (before self) (after self changes) old new change.key (told_with old new c.id.result.now change.key _ (before self change.key) _ (after self changes change.key) c.id.ensures was is told)) c.tell.ensures
