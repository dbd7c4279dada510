use Rattle.std.proofs.Common.{Err, sym, subst}
use Rattle.value_model.specs.Val.{Entries}
use Rattle.modifier_apply.specs.Modified.{modified}
use Rattle.collection_store.specs.Outcome.{Gives}
use Rattle.collection_store.specs.Applied.{or_refused}
use Rattle.collection_store.specs.declared.fault.OpFault.{OpFault}
use Rattle.collection_store.proofs.Passing.{refused_as}
use Rattle.collection_store.proofs.updates.changed.Goals as goal

pub returns-in-Err : goal.returns-in-Err
returns-in-Err c =
    let outcome = modified c.args.modifier.now c.args.found.now.key.id c.args.found.now.doc.now in
    subst (λ (e : OpFault). Gives (λ (doc : Entries). doc) (Err e) (or_refused outcome)) (sym c.refused.ensures) (refused_as c.in-Err.fault outcome c.in-Err.ensures)
