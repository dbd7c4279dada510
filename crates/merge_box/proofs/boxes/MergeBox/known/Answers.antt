use Rattle.std.proofs.Common.{subst}
use Rattle.merge_box.specs.Index.{lists_of}
use Rattle.merge_box.specs.State.{IsBox}
use Rattle.merge_box.specs.Inside.{changes_of}
use Rattle.merge_box.proofs.MakePlan.{is_box, will_be_box}
use Rattle.merge_box.proofs.boxes.MergeBox.known.Goals as goal

pub returns-clause-kept : goal.returns-clause-kept
returns-clause-kept c = subst (λ b. IsBox b.kept) c.self.view_is (is_box c.self.inside.kept.docs (changes_of c.self.inside.kept.keys c.self.inside.changes.items) (lists_of c.self.inside.index.entries) c.self.invariant.0)

pub returns-clause-planned : goal.returns-clause-planned
returns-clause-planned c = subst (λ b. IsBox b.planned) c.self.view_is (will_be_box c.self.inside.kept.docs (changes_of c.self.inside.kept.keys c.self.inside.changes.items) (lists_of c.self.inside.index.entries) c.self.invariant.0)
