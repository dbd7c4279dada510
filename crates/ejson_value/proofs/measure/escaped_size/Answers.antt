use Rattle.std.proofs.Common.{ap, arith}
use Rattle.std.specs.Prelude.{sum_by}
use Rattle.std.proofs.lemmas.List.{drop_all}
use Rattle.value_model.specs.Size.{escape_size}
use Rattle.ejson_value.proofs.measure.escaped_size.Goals as goal

pub returns : goal.returns
returns c =
    omega (
      arith,
      c.loop-byte.invariant.0,
      c.loop-byte.invariant.1,
      ap (λ bs. sum_by escape_size bs) (drop_all c.loop-byte.byte-index c.args.bytes.now c.loop-byte-test.false),
    )
