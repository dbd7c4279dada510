use Rattle.std.proofs.Common.{ap, subst, arith}
use Rattle.map_model.specs.Maps.{IsSorted}
use Rattle.ejson_value.specs.Key.{key_cmp}
use Rattle.collection_store.specs.State.{StoreState}
use Rattle.collection_store.specs.Limits.{bytes_of}
use Rattle.collection_store.proofs.Sums.{old_bytes-le, bytes-after}
use Rattle.collection_store.proofs.store.Store.bytes_after.Goals as goal

pub overflow_sub-bytes : goal.overflow_sub-bytes
overflow_sub-bytes c =
    let rows = c.args.self.now.rows in
    let is = ap (λ (s : StoreState). s.rows) c.self.view_is in
    let le = old_bytes-le rows c.args.changes.now (subst (IsSorted key_cmp) is c.known.ensures.by_key) c.requires in
    omega (arith, le, c.old_bytes-old.ensures, c.self.invariant, ap bytes_of is)

pub returns-clause-value : goal.returns-clause-value
returns-clause-value c =
    let rows = c.args.self.now.rows in
    let cs = c.args.changes.now in
    let is = ap (λ (s : StoreState). s.rows) c.self.view_is in
    let sorted = subst (IsSorted key_cmp) is c.known.ensures.by_key in
    omega (arith, old_bytes-le rows cs sorted c.requires, bytes-after rows cs sorted c.requires, c.old_bytes-old.ensures, c.new_bytes.ensures, c.saturating_add.ensures, c.self.invariant, ap bytes_of is)

pub returns-clause-exact : goal.returns-clause-exact
returns-clause-exact c none =
    let rows = c.args.self.now.rows in
    let cs = c.args.changes.now in
    let is = ap (λ (s : StoreState). s.rows) c.self.view_is in
    let sorted = subst (IsSorted key_cmp) is c.known.ensures.by_key in
    omega (arith, none, old_bytes-le rows cs sorted c.requires, bytes-after rows cs sorted c.requires, c.old_bytes-old.ensures, c.new_bytes.ensures, c.saturating_add.ensures, c.self.invariant, ap bytes_of is)
