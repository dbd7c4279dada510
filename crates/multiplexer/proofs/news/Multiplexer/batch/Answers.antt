use Rattle.std.proofs.Common.{arith}
use Rattle.std.specs.Arc.{arc_value}
use Rattle.multiplexer.proofs.Kept.{told_by}
use Rattle.multiplexer.proofs.news.Multiplexer.batch.Goals as goal

pub returns-in-None-clause-told : goal.returns-in-None-clause-told
returns-in-None-clause-told g c = λ cursors_at m are told.
    told_by (λ b. arc_value b) cursors_at m c.args.self.now c.fetched.new.self c.args.from c.args.count c.fetched.result (omega (arith, c.requires.next, c.begins.ensures.within m are)) (c.fetched.ensures.batch m are) c.fetched.ensures.kept c.fetched.ensures.same told
