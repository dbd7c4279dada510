use Rattle.std.specs.Prelude.{IfOk}
use Rattle.std.proofs.Common.{◌≡◌, sym, subst}
use Rattle.ejson_value.specs.Rows.{Rows}
use Rattle.collection_store.proofs.Named.{named_matching}
use Rattle.stub_simulation.specs.Drafts.{shown_by}
use Rattle.stub_simulation.proofs.Overlay.{sorted_shown}
use Rattle.stub_simulation.proofs.finding.found.Goals as goal

pub returns-in-Some : goal.returns-in-Some
returns-in-Some c =
    let draft = c.args.draft.now in
    let view = c.args.view.now in
    subst (λ (rows : Rows). IfOk c.found_named.result (λ found. found ≡ rows))
    (sym (named_matching c.args.collection.now c.in-Some.id.now c.args.selector.now c.in-Some.ensures.only (shown_by view draft) (sorted_shown view draft.traces.changed draft.left c.known.ensures.by_key)))
    c.found_named.ensures
