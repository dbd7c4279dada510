use Rattle.std.specs.Prelude.{Some}
use Rattle.std.proofs.Common.{ap, arith}
use Rattle.collection_store.specs.Limits.{bytes_of, size_if}
use Rattle.counted_contents.proofs.Setting.{bytes-set, size-le}
use Rattle.counted_contents.proofs.counted.CountedContents.put.Goals as goal

pub overflow_sub-self : goal.overflow_sub-self
overflow_sub-self c =
    let rows = c.self.inside.contents in
    omega (arith, size-le rows c.args.key c.known.ensures.by_key, c.freed.ensures, ap size_if c.in_ok-there.ensures.there, c.in_ok-both.ensures.1, c.self.invariant)

pub invariant_of-self-2 : goal.invariant_of-self-2
invariant_of-self-2 c =
    let rows = c.self.inside.contents in
    omega (
      arith,
      size-le rows c.args.key c.known.ensures.by_key,
      bytes-set rows c.args.key (Some c.args.doc) c.known.ensures.by_key,
      c.in_ok-both.ensures.0,
      c.in_ok-both.ensures.1,
      c.freed.ensures,
      ap size_if c.in_ok-there.ensures.there,
      c.document_size.ensures,
      c.self.invariant,
      c.self.ranges,
      ap bytes_of c.in_ok-there.ensures.ok,
    )
