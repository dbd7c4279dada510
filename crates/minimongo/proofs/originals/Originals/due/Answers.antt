use Rattle.std.proofs.Common.{ap, ◌∙◌, nat_cmp}
use Rattle.std.proofs.lemmas.Result.{IfOk-weaker}
use Rattle.std.specs.BTreeSet.{contains}
use Rattle.map_model.specs.Maps.{at, collect}
use Rattle.ejson_value.specs.Key.{key_cmp}
use Rattle.minimongo.specs.Originals.{due_at, due}
use Rattle.minimongo.proofs.Holding.{all_due}
use Rattle.minimongo.proofs.originals.Originals.due.Goals as goal

pub returns : goal.returns
returns c = IfOk-weaker c.due_of.result _ _ (λ saves is.
    is
    ∙ ap (collect (λ k. due_at (λ n. contains nat_cmp c.in_ok-numbers.numbers n) (at key_cmp c.self.inside.saved.entries k))) c.as_slice.ensures.value
    ∙ all_due c.self.inside.index.entries c.args.methods.now c.in_ok-numbers.numbers c.in_ok-keys.keys.items c.self.inside.saved.entries c.in_ok-keys.ensures.rising c.self.invariant.by_key c.self.invariant.held c.self.invariant.listed c.in_ok-numbers.ensures c.in_ok-keys.ensures.listed
    ∙ ap (due c.args.methods.now) c.self.view_is) c.due_of.ensures
