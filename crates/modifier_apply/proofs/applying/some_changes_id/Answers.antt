use Rattle.std.proofs.Common.{sym, ◌∙◌}
use Rattle.selector_match.proofs.Loops.{some_here, none_at_all, list_any-map}
use Rattle.modifier_apply.specs.declared.modifier.Update.{Update}
use Rattle.modifier_apply.specs.View.{change_view}
use Rattle.modifier_apply.specs.Modified.{changes_id}
use Rattle.modifier_apply.proofs.applying.some_changes_id.Goals as goal

pub returns-then-begins_with_id : goal.returns-then-begins_with_id
returns-then-begins_with_id c =
    let test = λ (u : Update). changes_id (change_view u) in
    sym (list_any-map _ change_view c.args.updates.now ∙ some_here test c.args.updates.now c.loop-update.update-index c.update-item.result c.loop-update-test.true c.update-item.is (sym c.begins_with_id.ensures ∙ c.if-begins_with_id.true))

pub returns : goal.returns
returns c =
    let test = λ (u : Update). changes_id (change_view u) in
    sym (list_any-map _ change_view c.args.updates.now ∙ none_at_all test c.args.updates.now c.loop-update.update-index c.loop-update-test.false c.loop-update.invariant)
