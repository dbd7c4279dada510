use Rattle.std.proofs.Common.{rules, arith}
use Rattle.store_machine.proofs.Lasts.{none_past, less_call}
use Rattle.store_machine.proofs.beginning.none_beyond.Goals as goal

pub returns-in-Some : goal.returns-in-Some
returns-in-Some c = λ k far.
    none_past c.args.calls.now.entries c.args.session 18446744073709551615 c.range.result c.in-Some.key.now c.in-Some.field-0-1.now c.next.new.self c.in-Some.ensures.steps
    (c.range.ensures.in_range tt).1 (λ q behind there. (c.range.ensures.in_range tt).2 q (behind, tt) there) (omega (arith, c.fits.ensures)) k (omega (arith, far))

pub returns-in_default : goal.returns-in_default
returns-in_default c = λ k far. (c.range.ensures.in_range tt).5 (search rules) (c.args.session, k) (less_call c.args.session 18446744073709551615 k (omega (arith, far)), tt)
