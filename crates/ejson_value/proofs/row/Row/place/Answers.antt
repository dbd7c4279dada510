use Rattle.ejson_value.specs.declared.row.Member.{Member}
use Rattle.std.proofs.Common.{rules}
use Rattle.std.proofs.lemmas.Fn.{always_returns_same}
use Rattle.value_model.specs.Order.{text_cmp}
use Rattle.ejson_value.proofs.Places.{searched}
use Rattle.ejson_value.proofs.row.Row.place.Goals as goal

pub returns-clause-found : goal.returns-clause-found
returns-clause-found c =
    let facts = c.binary_search_by.ensures in
    let by_name = facts.position (λ (m : Member). text_cmp m.name c.args.name.now) (always_returns_same _ _ _ (λ a r f called. (search rules, search rules))) in
    rw (← c.self.view_is, ← c.deref.ensures.value) (searched c.args.name.now _ _ (rw c.deref.ensures.value c.self.invariant.names) facts.bound by_name).0

pub returns-clause-gap : goal.returns-clause-gap
returns-clause-gap c =
    let facts = c.binary_search_by.ensures in
    let by_name = facts.position (λ (m : Member). text_cmp m.name c.args.name.now) (always_returns_same _ _ _ (λ a r f called. (search rules, search rules))) in
    rw (← c.self.view_is, ← c.deref.ensures.value) (searched c.args.name.now _ _ (rw c.deref.ensures.value c.self.invariant.names) facts.bound by_name).1
