use Rattle.std.proofs.lemmas.Result.{on_ok_weaker}
use Rattle.std.proofs.Common.{Some, sym, ◌∙◌}
use Rattle.map_model.specs.Changes.{changed}
use Rattle.value_model.specs.Order.{text_cmp}
use Rattle.sort_window.specs.Windows.{before, after}
use Rattle.sort_window.proofs.Telling.{shown_is, told_with, told_more, told_here}
use Rattle.sort_window.proofs.window.Window.tell_held.Goals as goal

pub returns-clause-more : goal.returns-clause-more
returns-clause-more c =
    let self = c.args.self.now in
    let changes = c.args.draft.now.changes.items in
    let held = c.args.held.now in
    let rows = changed text_cmp self.rows changes in
    let old = c.args.told.now.entries in
    let new = c.tell.new.told.entries in
    let was = c.seen_before.ensures ∙ sym (shown_is self.sort self.limit self.rows held.0 (Some held.1) c.requires.stands) in
    let is = c.seen_after.ensures ∙ sym (shown_is self.sort self.limit rows held.0 (Some held.1) c.requires.stays) in
    on_ok_weaker c.tell.result (λ told. told_more (before self) (after self changes) old new held.0 (told_with old new c.id.result.now held.0 _ (before self held.0) _ (after self changes held.0) c.id.ensures was is told)) c.tell.ensures

pub returns-clause-here : goal.returns-clause-here
returns-clause-here c =
    let self = c.args.self.now in
    let changes = c.args.draft.now.changes.items in
    let held = c.args.held.now in
    let rows = changed text_cmp self.rows changes in
    let old = c.args.told.now.entries in
    let new = c.tell.new.told.entries in
    let was = c.seen_before.ensures ∙ sym (shown_is self.sort self.limit self.rows held.0 (Some held.1) c.requires.stands) in
    let is = c.seen_after.ensures ∙ sym (shown_is self.sort self.limit rows held.0 (Some held.1) c.requires.stays) in
    on_ok_weaker c.tell.result (λ told. told_here (before self) (after self changes) old new held.0 (told_with old new c.id.result.now held.0 _ (before self held.0) _ (after self changes held.0) c.id.ensures was is told)) c.tell.ensures
