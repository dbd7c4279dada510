use Rattle.std.proofs.Common.{sym, ap, ◌∙◌}
use Rattle.merge_box.specs.State.{shared_count}
use Rattle.merge_box.proofs.Counting.{shared_docs}
use Rattle.merge_box.proofs.boxes.MergeBox.listed.Goals as goal

pub returns : goal.returns
returns c = c.self.invariant.2 ∙ sym (shared_docs c.self.inside.kept.docs) ∙ ap (λ b. shared_count b.kept) c.self.view_is
