use Rattle.std.proofs.Common.{ap, arith}
use Rattle.std.specs.Prelude.{None}
use Rattle.collection_store.specs.Limits.{bytes_of, size_if}
use Rattle.counted_contents.proofs.Setting.{bytes-set, size-le}
use Rattle.counted_contents.proofs.counted.CountedContents.remove.Goals as goal

pub overflow_sub-self : goal.overflow_sub-self
overflow_sub-self c =
    let rows = c.self.inside.contents in
    omega (arith, size-le rows c.args.key.now c.known.ensures.by_key, c.size_if.ensures, ap size_if c.as_ref.ensures.value, ap size_if c.remove-there.ensures.value, c.self.invariant)

pub invariant_of-self : goal.invariant_of-self
invariant_of-self c =
    let rows = c.self.inside.contents in
    omega (
      arith,
      size-le rows c.args.key.now c.known.ensures.by_key,
      bytes-set rows c.args.key.now None c.known.ensures.by_key,
      c.size_if.ensures,
      ap size_if c.as_ref.ensures.value,
      ap size_if c.remove-there.ensures.value,
      c.self.invariant,
      c.self.ranges,
      ap bytes_of c.remove-there.ensures.removed,
    )
