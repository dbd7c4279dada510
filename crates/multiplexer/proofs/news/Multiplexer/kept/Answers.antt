use Rattle.std.proofs.Common.{◌≤◌, ap, subst, arith}
use Rattle.multiplexer.specs.Bounds.{kept_in, bytes_kept}
use Rattle.multiplexer.specs.Telling.{ANews}
use Rattle.multiplexer.proofs.Weights.{few_kept, little_kept}
use Rattle.multiplexer.proofs.news.Multiplexer.kept.Goals as goal

pub returns-clause-few : goal.returns-clause-few
returns-clause-few c = omega (arith, few_kept c.self.inside.sources.items c.self.invariant, c.kept_in.ensures, ap kept_in c.as_slice.ensures.value)

pub returns-clause-light : goal.returns-clause-light
returns-clause-light c = subst (λ (news : ANews). bytes_kept news.sources ≤ 16777216) c.self.view_is (little_kept c.self.inside.sources.items c.self.invariant)
