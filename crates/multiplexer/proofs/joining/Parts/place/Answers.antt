use Rattle.std.proofs.Common.{rules}
use Rattle.std.proofs.lemmas.Fn.{always_returns_same}
use Rattle.ejson_value.specs.Key.{key_cmp}
use Rattle.multiplexer.specs.declared.joining.Part.{Part}
use Rattle.multiplexer.specs.Parts.{news_of_part}
use Rattle.multiplexer.proofs.Places.{searched}
use Rattle.multiplexer.proofs.joining.Parts.place.Goals as goal

pub returns-clause-found : goal.returns-clause-found
returns-clause-found c =
    let facts = c.binary_search_by.ensures in
    let by_key = facts.position (λ (p : Part). key_cmp p.one.key c.args.key.now) (always_returns_same _ _ _ (λ a r f called. (search rules, search rules))) in
    rw (← c.self.view_is, ← c.deref.ensures.value) (searched news_of_part c.args.key.now _ _ (rw c.deref.ensures.value c.self.invariant) facts.bound by_key).0

pub returns-clause-gap : goal.returns-clause-gap
returns-clause-gap c =
    let facts = c.binary_search_by.ensures in
    let by_key = facts.position (λ (p : Part). key_cmp p.one.key c.args.key.now) (always_returns_same _ _ _ (λ a r f called. (search rules, search rules))) in
    rw (← c.self.view_is, ← c.deref.ensures.value) (searched news_of_part c.args.key.now _ _ (rw c.deref.ensures.value c.self.invariant) facts.bound by_key).1
