use Rattle.std.proofs.Common.{◌≡◌, ◌++◌, ℕ, List, map}
use Rattle.map_model.specs.Changes.{Change}
use Rattle.sort_window.specs.declared.rows.Row.{Row}
use Rattle.sort_window.specs.Drafts.{AreDrafted}
use Rattle.sort_window.specs.Windows.{change_to}
use Rattle.sort_window.proofs.window.Window.draft.Given as goal

abbrev pub invariant-loop-id : goal.invariant-loop-id
invariant-loop-id l =
    (goal.iterator-loop-id).can_next l.id-iterator × (goal.iterator-loop-id).is_finite l.id-iterator
    × (l.draft.changes.items ++ map {B = Change (List ℕ) Row} (λ one. change_to l.self.rows one) l.id-iterator ≡ map {B = Change (List ℕ) Row} (λ one. change_to l.self.rows one) l.news)
    × AreDrafted l.self.sort l.draft.changes.items l.draft.going.items l.draft.coming.items
