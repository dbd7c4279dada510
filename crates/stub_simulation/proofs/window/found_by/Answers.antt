use Rattle.stub_simulation.specs.Drafts.{shown_by}
use Rattle.stub_simulation.proofs.Overlay.{sorted_shown}
use Rattle.stub_simulation.proofs.NamedRows.{if_found_by_id}
use Rattle.stub_simulation.proofs.window.found_by.Goals as goal

pub returns-in-Some : goal.returns-in-Some
returns-in-Some c =
    let draft = c.args.draft.now in
    let view = c.args.view.now in
    if_found_by_id c.found_at.result c.args.params.now draft.made c.args.template.now c.in-Some.id.now c.args.collection.now (shown_by view draft) (c.in-Some.ensures draft.made)
    (sorted_shown view draft.traces.changed draft.left c.known.ensures.by_key) c.found_at.ensures
