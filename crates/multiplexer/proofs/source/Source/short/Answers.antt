use Rattle.std.proofs.Common.{◌≤◌, length, sym, subst}
use Rattle.multiplexer.specs.Sources.{next_of}
use Rattle.multiplexer.specs.Telling.{ASource}
use Rattle.multiplexer.proofs.Counts.{filled_from}
use Rattle.multiplexer.proofs.Growing.{next_reached}
use Rattle.multiplexer.proofs.source.Source.short.Goals as goal

pub returns-in_err-fill-clause-ticks : goal.returns-in_err-fill-clause-ticks
returns-in_err-fill-clause-ticks g c = λ m are.
    let order : c.begins.result ≤ c.args.from = subst (λ n. n ≤ c.args.from) (sym c.begins.ensures.first) c.requires.first in
    let later = subst (λ (s : ASource). next_of c.args.self.now ≤ next_of s) (sym c.reach.ensures) (next_reached c.args.self.now c.begins.result c.args.from order) in
    filled_from (length c.args.observer.now) m (next_of c.args.self.now) (next_of c.reach.new.self) c.args.until c.args.steps.now c.fill.new.steps later (c.fill.ensures.ticks m are)

pub returns-clause-ticks : goal.returns-clause-ticks
returns-clause-ticks g c = λ m are.
    let order : c.begins.result ≤ c.args.from = subst (λ n. n ≤ c.args.from) (sym c.begins.ensures.first) c.requires.first in
    let later = subst (λ (s : ASource). next_of c.args.self.now ≤ next_of s) (sym c.reach.ensures) (next_reached c.args.self.now c.begins.result c.args.from order) in
    filled_from (length c.args.observer.now) m (next_of c.args.self.now) (next_of c.reach.new.self) c.args.until c.args.steps.now c.fill.new.steps later (c.fill.ensures.ticks m are)
