use Rattle.std.proofs.Common.{ℕ, List, Option, map, ap, ◌∙◌, arith}
use Rattle.map_model.specs.Changes.{Change}
use Rattle.sort_window.specs.declared.rows.Row.{Row}
use Rattle.sort_window.proofs.Staying.{says_of}
use Rattle.sort_window.proofs.window.Window.plan.Goals as goal

pub returns : goal.returns
returns c =
    let self = c.args.self.now in
    let news = c.args.news.now in
    let count = c.len-count.ensures in
    let by_id = c.in_ok-by_id.ensures.room in
    let in_order = c.in_ok-in_order.ensures.room in
    record {
      says = ap (λ (cs : List (Change (List ℕ) Row)). map {B = List ℕ × Option Row} (λ change. (change.key, change.after)) cs) c.in_ok-draft.ensures.changes ∙ says_of self.rows news;
      carries = record { fit = c.in_ok-draft.ensures.drafted.fit; room = grind (arith, count, by_id, in_order) };
      tells = c.in_ok-shown.ensures;
    }
