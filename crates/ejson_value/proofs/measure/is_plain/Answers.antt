use Rattle.std.proofs.Common.{sym, arith}
use Rattle.ejson_value.proofs.Plain.{control_escaped}
use Rattle.ejson_value.proofs.measure.is_plain.Goals as goal

pub returns-then-byte-lt32 : goal.returns-then-byte-lt32
returns-then-byte-lt32 c = sym (control_escaped c.args.byte (omega (arith, c.if-byte-lt32.true)))
