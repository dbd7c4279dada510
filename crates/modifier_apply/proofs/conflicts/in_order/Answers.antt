use Rattle.std.proofs.Common.{sym, ap, ◌++◌, ◌+◌, ◌∙◌, drop}
use Rattle.modifier_apply.specs.View.{changes_view}
use Rattle.modifier_apply.specs.Modified.{paths_of, conflicts}
use Rattle.modifier_apply.proofs.Neighbours.{conflict_again, conflicts_more}
use Rattle.modifier_apply.proofs.conflicts.in_order.Goals as goal

pub returns-then-not-branch : goal.returns-then-not-branch
returns-then-not-branch c =
    sym c.loop-update.invariant
    ∙ conflict_again c.args.updates.now c.loop-update.update-index c.update-item.result c.parts-parts.result.now c.loop-update.paths.keys c.in_ok-insert.field-0 c.loop-update-test.true c.update-item.is c.parts-parts.ensures.value c.in_ok-insert.ensures.added c.if-not-branch.true

pub loop-update-preserved : goal.loop-update-preserved
loop-update-preserved c =
    ap (λ ks. conflicts (ks ++ paths_of (changes_view (drop (c.loop-update.update-index + 1) c.args.updates.now)))) c.in_ok-insert.ensures.keys
    ∙ (conflicts_more c.args.updates.now c.loop-update.update-index c.update-item.result c.parts-parts.result.now c.loop-update.paths.keys c.in_ok-insert.field-0 c.loop-update-test.true c.update-item.is c.parts-parts.ensures.value c.in_ok-insert.ensures.added c.if-not-branch.false
    ∙ c.loop-update.invariant)
