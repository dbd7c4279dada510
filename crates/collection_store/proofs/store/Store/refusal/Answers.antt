use Rattle.std.proofs.Common.{ap, sym, subst, ◌∙◌}
use Rattle.map_model.specs.Maps.{IsSorted}
use Rattle.ejson_value.specs.Key.{key_cmp}
use Rattle.collection_store.specs.State.{StoreState}
use Rattle.collection_store.proofs.Inserted.{inserted_full}
use Rattle.collection_store.proofs.store.Store.refusal.Goals as goal

pub returns-then-is_full_with-clause-refused : goal.returns-then-is_full_with-clause-refused
returns-then-is_full_with-clause-refused c key none =
    let sorted = subst (IsSorted key_cmp) (ap (λ (s : StoreState). s.rows) c.self.view_is) c.known.ensures.by_key in
    inserted_full c.args.self.now.rows key c.args.doc.now c.args.room sorted (sym c.is_too_large.ensures ∙ c.if-is_too_large.false) (c.is_full_with.ensures.full c.if-is_full_with.true) none
