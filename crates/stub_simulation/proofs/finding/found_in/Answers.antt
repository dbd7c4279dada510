use Rattle.std.specs.Prelude.{filter, not, ◌&&◌}
use Rattle.std.proofs.Common.{ap, ◌∙◌}
use Rattle.ejson_value.specs.Rows.{Rows, rows_of}
use Rattle.selector_match.specs.Holds.{holds}
use Rattle.collection_store.specs.Applied.{Row, matching}
use Rattle.stub_simulation.specs.Drafts.{is_changed, all_put}
use Rattle.stub_simulation.proofs.Overlay.{found_shown}
use Rattle.stub_simulation.proofs.finding.found_in.Goals as goal

pub returns : goal.returns
returns c =
    let draft = c.args.draft.now in
    let view = c.args.view.now in
    let collection = c.args.collection.now in
    let selector = c.args.selector.now in
    let fresh : Rows = filter (λ (row : Row). not (is_changed draft row.0) && holds selector row.0.id row.1) (rows_of collection view) in
    c.in_ok-put_left.ensures
    ∙ ap (λ (rows : Rows). all_put rows (matching collection selector draft.left)) (c.in_ok-put_fresh.ensures ∙ ap (λ (rows : Rows). all_put rows fresh) c.new-found.ensures)
    ∙ found_shown view draft.traces.changed draft.left collection selector c.known.ensures.by_key c.known-2.ensures.by_key c.requires
