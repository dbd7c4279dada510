use Rattle.std.proofs.Common.{◌≡◌, length, List, Ok, ap, sym, ◌∙◌, subst}
use Rattle.ejson_value.specs.declared.change.Change.{Change}
use Rattle.collection_store.specs.State.{StoreState}
use Rattle.collection_store.specs.Applied.{Plan, after, chosen, matching, all_updated}
use Rattle.collection_store.specs.Answered.{AreFor}
use Rattle.collection_store.specs.Finding.{rows_in}
use Rattle.collection_store.proofs.Picked.{AreFor-from_picked, picked_updates, of_chosen_matching, length-updates}
use Rattle.collection_store.proofs.store.Store.planned_update.Goals as goal

pub returns-clause-fit : goal.returns-clause-fit
returns-clause-fit c =
    let collection = c.args.collection.now in
    let selector = c.args.selector.now in
    let rows = c.self.inside.contents in
    let cs = c.in_ok-changes.changes in
    let found = chosen c.args.all (matching collection selector rows) in
    let from : all_updated c.args.modifier.now found ≡ Ok cs =
    ap (λ rs. all_updated c.args.modifier.now rs) (sym c.in_ok-found.ensures)
    ∙ (ap (λ ms. all_updated c.args.modifier.now (rows_in ms)) (sym c.deref.ensures.value) ∙ c.in_ok-changes.ensures) in
    let made = AreFor-from_picked rows cs c.known.ensures.by_key (of_chosen_matching c.args.all collection selector rows cs (picked_updates c.args.modifier.now found cs from)) in
    let seen = subst (λ rs. AreFor rs cs) (ap (λ (s : StoreState). s.rows) c.self.view_is) made in
    subst (λ ds. AreFor c.args.self.now.rows ds) (sym (ap (λ (p : Plan). p.changes) c.in_ok-reply.ensures)) seen

pub returns-clause-stays : goal.returns-clause-stays
returns-clause-stays c =
    let collection = c.args.collection.now in
    let selector = c.args.selector.now in
    let rows = c.self.inside.contents in
    let cs = c.in_ok-changes.changes in
    let found = chosen c.args.all (matching collection selector rows) in
    let from : all_updated c.args.modifier.now found ≡ Ok cs =
    ap (λ rs. all_updated c.args.modifier.now rs) (sym c.in_ok-found.ensures)
    ∙ (ap (λ ms. all_updated c.args.modifier.now (rows_in ms)) (sym c.deref.ensures.value) ∙ c.in_ok-changes.ensures) in
    let sorted = c.known.ensures.by_key in
    let made = AreFor-from_picked rows cs sorted (of_chosen_matching c.args.all collection selector rows cs (picked_updates c.args.modifier.now found cs from)) in
    let seen = subst (λ rs. length (after rs cs) ≡ length rs) (ap (λ (s : StoreState). s.rows) c.self.view_is) (length-updates c.args.modifier.now found rows cs sorted made from) in
    ap (λ (ds : List Change). length (after c.args.self.now.rows ds)) (ap (λ (p : Plan). p.changes) c.in_ok-reply.ensures) ∙ seen
