use Rattle.std.proofs.Common.{◌≡◌, map, ap, sym, ◌∙◌, subst}
use Rattle.collection_store.specs.State.{StoreState}
use Rattle.collection_store.specs.Limits.{new_bytes}
use Rattle.collection_store.specs.Applied.{Plan, matching, removal}
use Rattle.collection_store.specs.Answered.{AreFor}
use Rattle.collection_store.specs.Finding.{rows_in}
use Rattle.collection_store.proofs.Picked.{AreFor-from_picked, picked_removals, of_matching, no_new_bytes}
use Rattle.collection_store.proofs.store.Store.planned_removal.Goals as goal

pub returns-clause-fit : goal.returns-clause-fit
returns-clause-fit c =
    let collection = c.args.collection.now in
    let selector = c.args.selector.now in
    let rows = c.self.inside.contents in
    let found = matching collection selector rows in
    let changes : c.in_ok-reply.field-0.changes ≡ map removal found =
    ap (λ (p : Plan). p.changes) c.in_ok-reply.ensures
    ∙ (c.in_ok-changes.ensures ∙ (ap (λ ms. map removal (rows_in ms)) c.deref.ensures.value ∙ ap (λ rs. map removal rs) c.in_ok-found.ensures)) in
    let made = AreFor-from_picked rows (map removal found) c.known.ensures.by_key (of_matching collection selector rows (map removal found) (picked_removals found)) in
    let seen = subst (λ rs. AreFor rs (map removal found)) (ap (λ (s : StoreState). s.rows) c.self.view_is) made in
    subst (λ ds. AreFor c.args.self.now.rows ds) (sym changes) seen

pub returns-clause-none : goal.returns-clause-none
returns-clause-none c =
    let found = matching c.args.collection.now c.args.selector.now c.self.inside.contents in
    let changes : c.in_ok-reply.field-0.changes ≡ map removal found =
    ap (λ (p : Plan). p.changes) c.in_ok-reply.ensures
    ∙ (c.in_ok-changes.ensures ∙ (ap (λ ms. map removal (rows_in ms)) c.deref.ensures.value ∙ ap (λ rs. map removal rs) c.in_ok-found.ensures)) in
    ap new_bytes changes ∙ no_new_bytes found
