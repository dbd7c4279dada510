use Rattle.std.proofs.Common.{rules, ◌≡◌, subst}
use Rattle.std.specs.List.{IsAllAdjacentAnswer}
use Rattle.std.specs.Ordering.{is_lt}
use Rattle.std.proofs.lemmas.Fn.{always_returns_same}
use Rattle.ejson_value.specs.declared.change.Change.{Change}
use Rattle.ejson_value.specs.Key.{key_cmp}
use Rattle.ejson_value.proofs.PutAll.{rising_apart}
use Rattle.ejson_value.proofs.put_all.rise.Goals as goal

pub returns : goal.returns
returns c = λ all.
    let told = c.is_sorted_by.ensures.cases (λ (x y : Change). is_lt (key_cmp x.key y.key)) (always_returns_same _ _ _ (λ a r f called. (search rules, search rules))) in
    rising_apart c.args.changes.now (subst (IsAllAdjacentAnswer (λ (x y : Change) b. b ≡ is_lt (key_cmp x.key y.key)) c.args.changes.now) all told)
