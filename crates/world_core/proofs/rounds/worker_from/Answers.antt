use Rattle.std.proofs.Common.{MatchOption, sym, subst, ◌∙◌}
use Rattle.std.specs.Option.{option_copied}
use Rattle.lanes.specs.Names.{NoneFrom, IsLeastFrom}
use Rattle.world_core.specs.Kept.{seen}
use Rattle.world_core.specs.Rounds.{IsNext}
use Rattle.world_core.proofs.Workers.{first_is, both_next, copied_next}
use Rattle.world_core.proofs.rounds.worker_from.Goals as goal

pub returns : goal.returns
returns c =
    let x = seen c.args.inside.now in
    let from = c.args.from.now in
    let a : MatchOption c.from-busy.result (NoneFrom from x.busy) (λ name. IsLeastFrom from x.busy name.now) = rw c.in_ok-copy.ensures at c.from-busy.ensures in
    let b : MatchOption c.from-present.result (NoneFrom from x.present) (λ name. IsLeastFrom from x.present name.now) = rw c.in_ok-copy-2.ensures at c.from-present.ensures in
    copied_next x from c.copied-2.result (option_copied c.lesser.result) c.copied-2.ensures
    (subst (IsNext x from) (sym c.lesser.ensures)
    (both_next x from (λ same. c.if-length-inside.false (c.length.ensures ∙ same)) (option_copied c.from-busy.result) (option_copied c.from-present.result) (first_is from x.busy c.from-busy.result a) (first_is from x.present c.from-present.result b)))
