use Rattle.std.proofs.Common.{ap, sym, subst, arith}
use Rattle.ejson_value.specs.Rows.{Rows}
use Rattle.ejson_value.specs.ChangeLaws.{AllFit}
use Rattle.collection_store.specs.Limits.{bytes_of}
use Rattle.collection_store.specs.Answered.{AreFor}
use Rattle.collection_store.proofs.Sums.{bytes-after}
use Rattle.counted_contents.proofs.counted.CountedContents.put_all.Goals as goal

pub put_all-requires : goal.put_all-requires
put_all-requires c = subst (λ (rows : Rows). AllFit rows c.args.changes.now) (sym c.self.view_is) c.requires.fit

pub invariant_of-self-2 : goal.invariant_of-self-2
invariant_of-self-2 c =
    let rows = c.self.inside.contents in
    let for : AreFor rows c.args.changes.now = subst (λ (rows : Rows). AreFor rows c.args.changes.now) (sym c.self.view_is) c.requires in
    omega (arith, bytes-after rows c.args.changes.now c.known.ensures.by_key for, c.in_ok-bytes.ensures, c.self.invariant, ap bytes_of c.in_ok-put_all.ensures.ok)
