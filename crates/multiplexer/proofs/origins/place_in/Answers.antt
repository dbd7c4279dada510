use Rattle.std.proofs.Common.{◌≡◌, ℕ, List, None, Some, Result, IfOk, IfErr, sym, subst, rules}
use Rattle.std.proofs.lemmas.Fn.{always_returns_same}
use Rattle.map_model.specs.Maps.{at, IsSorted}
use Rattle.ejson_value.specs.declared.change.Publish.{Publish}
use Rattle.ejson_value.specs.Key.{key_cmp}
use Rattle.ejson_value.specs.Changes.{news_of}
use Rattle.multiplexer.specs.Joining.{key_at, IsGapFor}
use Rattle.multiplexer.proofs.Places.{searched}
use Rattle.multiplexer.proofs.Soles.{not_there}
use Rattle.multiplexer.proofs.origins.place_in.Goals as goal

pub returns-in-Ok-clause-there : goal.returns-in-Ok-clause-there
returns-in-Ok-clause-there c = λ sorted.
    let facts = c.binary_search_by.ensures in
    let key = c.args.key.now in
    let by_key = facts.position (λ (p : Publish). key_cmp p.key key) (always_returns_same _ _ _ (λ a r f called. (search rules, search rules))) in
    let found = searched (λ (p : Publish). (p.key, p.new)) key c.as_slice.result.now c.binary_search_by.result (subst (λ (ps : List Publish). IsSorted key_cmp (news_of ps)) (sym c.as_slice.ensures) sorted) facts.bound by_key in
    subst (λ (ps : List Publish). key_at (news_of ps) c.in-Ok.place ≡ Some key) c.as_slice.ensures (subst (λ (r : Result ℕ ℕ). IfOk r (λ i. key_at (news_of c.as_slice.result.now) i ≡ Some key)) c.in-Ok.is found.0)

pub returns-in-Err-clause-none : goal.returns-in-Err-clause-none
returns-in-Err-clause-none c = λ sorted _.
    let facts = c.binary_search_by.ensures in
    let key = c.args.key.now in
    let by_key = facts.position (λ (p : Publish). key_cmp p.key key) (always_returns_same _ _ _ (λ a r f called. (search rules, search rules))) in
    let found = searched (λ (p : Publish). (p.key, p.new)) key c.as_slice.result.now c.binary_search_by.result (subst (λ (ps : List Publish). IsSorted key_cmp (news_of ps)) (sym c.as_slice.ensures) sorted) facts.bound by_key in
    let gap = subst (λ (r : Result ℕ ℕ). IfErr r (IsGapFor (news_of c.as_slice.result.now) key)) c.in-Err.is found.1 in
    subst (λ (ps : List Publish). at key_cmp (news_of ps) key ≡ None) c.as_slice.ensures (not_there (news_of c.as_slice.result.now) c.in-Err._gap key gap.above gap.below)
