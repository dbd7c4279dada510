use Rattle.std.proofs.Common.{◌≡◌, drop, Ok}
use Rattle.modifier_apply.specs.View.{changes_view}
use Rattle.modifier_apply.specs.Modified.{all_made}
use Rattle.modifier_apply.proofs.applying.all_made.Given as goal

abbrev pub invariant-loop-update : goal.invariant-loop-update
invariant-loop-update l = all_made (changes_view (drop l.update-index l.updates)) (Ok l.made) ≡ all_made (changes_view l.updates) (Ok l.fn.doc)
