use Rattle.std.proofs.Common.{rules}
use Rattle.std.proofs.lemmas.Fn.{always_returns_same}
use Rattle.ejson_value.specs.declared.key.Key.{Key}
use Rattle.ejson_value.specs.Key.{key_cmp}
use Rattle.stub_simulation.proofs.KeyRows.{searched_test, searched_here, searched_gap}
use Rattle.stub_simulation.proofs.key_set.place.Goals as goal

pub returns-clause-test : goal.returns-clause-test
returns-clause-test c =
    let facts = c.binary_search_by.ensures in
    let by_key = facts.position (λ (q : Key). key_cmp q c.args.key.now) (always_returns_same _ _ _ (λ a r f called. (search rules, search rules))) in
    searched_test c.args.key.now _ _ c.requires facts.bound by_key

pub returns-clause-here : goal.returns-clause-here
returns-clause-here c =
    let facts = c.binary_search_by.ensures in
    let by_key = facts.position (λ (q : Key). key_cmp q c.args.key.now) (always_returns_same _ _ _ (λ a r f called. (search rules, search rules))) in
    searched_here c.args.key.now _ _ c.requires facts.bound by_key

pub returns-clause-gap : goal.returns-clause-gap
returns-clause-gap c =
    let facts = c.binary_search_by.ensures in
    let by_key = facts.position (λ (q : Key). key_cmp q c.args.key.now) (always_returns_same _ _ _ (λ a r f called. (search rules, search rules))) in
    searched_gap c.args.key.now _ _ c.requires facts.bound by_key
