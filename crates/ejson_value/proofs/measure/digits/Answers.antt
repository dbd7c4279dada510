use Rattle.std.proofs.Common.{◌≡◌, ◌+◌, ◌^◌, ◌<◌, ◌/◌, length, refl, ap, ◌∙◌, arith, lit<, [], ◌∷◌, ◌%◌}
use Rattle.std.specs.Prelude.{decimal}
use Rattle.std.proofs.lemmas.Fmt.{decimal_step, decimal_digit, length-decimal-le}
use Rattle.std.proofs.lemmas.List.{length-append}
use Rattle.ejson_value.proofs.measure.digits.Goals as goal

pub loop-number-init : goal.loop-number-init
loop-number-init c = let below : c.args.number < 2 ^ 64 = omega arith in let within : c.args.number < 10 ^ 20 = omega arith in (refl, below, length-decimal-le 20 c.args.number (lit< tt) within below)

pub loop-number-preserved : goal.loop-number-preserved
loop-number-preserved c =
    let n = c.loop-number.number in
    let more : length (decimal n) ≡ length (decimal (n / 10)) + 1 =
    ap length (decimal_step n c.loop-number-test.true c.loop-number.invariant.1) ∙ length-append (decimal (n / 10)) ((48 + n % 10) ∷ []) in
    (omega (arith, more, c.loop-number.invariant.0), omega (arith, c.loop-number.invariant.1), c.loop-number.invariant.2)

pub returns-clause-value : goal.returns-clause-value
returns-clause-value c = omega (arith, ap length (decimal_digit c.loop-number.number c.loop-number-test.false), c.loop-number.invariant.0)

pub returns-clause-bound : goal.returns-clause-bound
returns-clause-bound c = omega (arith, ap length (decimal_digit c.loop-number.number c.loop-number-test.false), c.loop-number.invariant.0, c.loop-number.invariant.2)
