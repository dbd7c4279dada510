use Rattle.std.proofs.Common.{sym, subst, ◌∙◌}
use Rattle.std.specs.Prelude.{◌≡◌, List, ℕ, Option, count_by, IfSome}
use Rattle.map_model.specs.Changes.{Change}
use Rattle.sort_window.specs.declared.rows.Row.{Row}
use Rattle.sort_window.specs.Inside.{has_id}
use Rattle.sort_window.specs.Drafts.{AreDrafted, HasMoreIf}
use Rattle.sort_window.proofs.Drafting.{new_before, new_after, going_same, coming_same, if_new}
use Rattle.sort_window.proofs.draft.Draft.add.Goals as goal

pub add_if-requires-clause-new : goal.add_if-requires-clause-new
add_if-requires-clause-new c =
    let going = c.args.self.now.going.items in
    let change = c.args.change in
    let none = c.requires.drafted.going_same (has_id change.key) ∙ new_before change.key c.args.self.now.changes.items c.requires.new in
    subst (λ (o : Option (List ℕ × Row)). IfSome o (λ row. count_by (has_id row.0) going ≡ 0)) (sym c.before-2.ensures) (if_new going change.key change.before none)

pub add_if-requires-2-clause-new : goal.add_if-requires-2-clause-new
add_if-requires-2-clause-new c =
    let coming = c.args.self.now.coming.items in
    let change = c.args.change in
    let none = c.requires.drafted.coming_same (has_id change.key) ∙ new_after change.key c.args.self.now.changes.items c.requires.new in
    subst (λ (o : Option (List ℕ × Row)). IfSome o (λ row. count_by (has_id row.0) coming ≡ 0)) (sym c.after.ensures) (if_new coming change.key change.after none)

pub returns-clause-drafted : goal.returns-clause-drafted
returns-clause-drafted c =
    let self = c.args.self.now in
    let change = c.args.change in
    let went = c.add_if.new.rows.items in
    let came = c.add_if-2.new.rows.items in
    let going = subst (λ (o : Option (List ℕ × Row)). HasMoreIf self.going.items o went) c.before-2.ensures c.in_ok-add_if.ensures.more in
    let coming = subst (λ (o : Option (List ℕ × Row)). HasMoreIf self.coming.items o came) c.after.ensures c.in_ok-add_if-2.ensures.more in
    subst (λ (changes : List (Change (List ℕ) Row)). AreDrafted c.args.sort.now changes went came) (sym c.in_ok-push.ensures.items) (record {
      going_order = c.in_ok-add_if.ensures.sorted;
      coming_order = c.in_ok-add_if-2.ensures.sorted;
      going_same = going_same self.changes.items change self.going.items went c.requires.drafted.going_same going;
      coming_same = coming_same self.changes.items change self.coming.items came c.requires.drafted.coming_same coming;
    })
