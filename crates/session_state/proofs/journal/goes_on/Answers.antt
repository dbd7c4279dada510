use Rattle.std.proofs.Common.{◌-◌, length, sym, ◌∙◌, arith}
use Rattle.std.proofs.lemmas.Option.{slice_get_within}
use Rattle.session_state.proofs.RunningLemmas.{last_goes_on, none_goes_on, nothing_there}
use Rattle.session_state.proofs.journal.goes_on.Goals as goal

pub returns-in-Some : goal.returns-in-Some
returns-in-Some c =
    let rs = c.args.records.now in
    let last = c.in-Some.last.now in
    let there = sym c.in-Some.ensures.value in
    let within = slice_get_within rs (length rs - 1) last there in
    c.is_run.ensures ∙ last_goes_on rs (length rs - 1) last c.args.line.now (omega (arith, within)) there

pub returns-in-None : goal.returns-in-None
returns-in-None c = none_goes_on c.args.records.now c.args.line.now (nothing_there c.args.records.now c.in-None.ensures.value)
