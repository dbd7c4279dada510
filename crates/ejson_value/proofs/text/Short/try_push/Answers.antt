use Rattle.std.proofs.Common.{arith}
use Rattle.std.proofs.lemmas.Str.{IsUtf8-had, IsUtf8-append}
use Rattle.ejson_value.proofs.Words.{still_zeros}
use Rattle.ejson_value.proofs.text.Short.try_push.Goals as goal

pub invariant_of-self : goal.invariant_of-self
invariant_of-self c =
    let written = rw c.as_bytes.ensures.value at c.write_at.ensures.written in
    let behind = rw c.as_bytes.ensures.value at c.write_at.ensures.behind in (
      omega (arith, c.self.invariant.0, c.if-more-len.false),
      ∣ rw written (IsUtf8-append _ _ (IsUtf8-had _ c.self.invariant.1) c.utf8.more) ∣₁,
      still_zeros _ _ c.self.inside.bytes _ behind (omega arith) c.self.invariant.2,
    )
