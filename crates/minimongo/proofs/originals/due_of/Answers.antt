use Rattle.std.proofs.Common.{◌+◌, ◌++◌, Option, drop, ap, sym, ◌∙◌, nat_cmp, append-nil}
use Rattle.std.proofs.lemmas.List.{append_assoc, drop_all}
use Rattle.std.specs.BTreeSet.{contains}
use Rattle.map_model.specs.Maps.{at, collect}
use Rattle.value_model.specs.Val.{Entries}
use Rattle.ejson_value.specs.declared.key.Key.{Key}
use Rattle.ejson_value.specs.Key.{key_cmp}
use Rattle.minimongo.specs.Originals.{saves_of, due_at, some_save}
use Rattle.minimongo.proofs.Holding.{due_next}
use Rattle.minimongo.proofs.originals.due_of.Goals as goal

pub loop-key-preserved : goal.loop-key-preserved
loop-key-preserved c =
    let f : Key → Option (Option Entries) = λ k. due_at (λ n. contains nat_cmp c.args.numbers.now n) (at key_cmp c.args.saved.now.entries k) in
    let keys = c.args.keys.now in
    let key = c.key-item.result in
    let rest = drop (c.loop-key.key-index + 1) keys in
    ap (λ ss. ss ++ collect f rest) c.in_ok-push_due.ensures
    ∙ append_assoc (saves_of c.loop-key.saves) (some_save key (f key)) (collect f rest)
    ∙ ap (λ ss. saves_of c.loop-key.saves ++ ss) (due_next f keys c.loop-key.key-index key c.key-item.is c.loop-key-test.true)
    ∙ c.loop-key.invariant

pub returns : goal.returns
returns c =
    let f : Key → Option (Option Entries) = λ k. due_at (λ n. contains nat_cmp c.args.numbers.now n) (at key_cmp c.args.saved.now.entries k) in
    sym (append-nil (saves_of c.loop-key.saves))
    ∙ ap (λ ks. saves_of c.loop-key.saves ++ collect f ks) (sym (drop_all c.loop-key.key-index c.args.keys.now c.loop-key-test.false))
    ∙ c.loop-key.invariant
