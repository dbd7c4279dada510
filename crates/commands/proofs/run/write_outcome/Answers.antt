use Rattle.std.proofs.Common.{ℕ, List, take, ap, sym, subst, ◌∙◌}
use Rattle.std.specs.Prelude.{is_some}
use Rattle.io_edge.specs.Outside.{Grows}
use Rattle.io_edge.specs.Whole.{written_before}
use Rattle.commands.proofs.run.write_outcome.Goals as goal

pub returns-in-Err-clause-ends : goal.returns-in-Err-clause-ends
returns-in-Err-clause-ends g c =
    let before = g.O.Sink.written c.args.output.now in
    let now = g.O.Sink.written c.write_all.new.output in
    let n = written_before c.in-Err._fault in
    (n, subst (λ (t : List ℕ). Grows before now (take n t)) (c.as_slice.ensures.value ∙ c.requires.text) c.in-Err.ensures.part)

pub returns-in-None-clause-ends : goal.returns-in-None-clause-ends
returns-in-None-clause-ends g c =
    let before = g.O.Sink.written c.args.output.now in
    let now = g.O.Sink.written c.write_all.new.output in
    let grows = subst (λ (t : List ℕ). Grows before now t) (c.as_slice.ensures.value ∙ c.requires.text) c.in_default.ensures.all in
    (grows, ap is_some (sym c.requires.bad ∙ c.in-None.is))

pub returns-in-Some-clause-ends : goal.returns-in-Some-clause-ends
returns-in-Some-clause-ends g c =
    let before = g.O.Sink.written c.args.output.now in
    let now = g.O.Sink.written c.write_all.new.output in
    let grows = subst (λ (t : List ℕ). Grows before now t) (c.as_slice.ensures.value ∙ c.requires.text) c.in_default.ensures.all in
    (grows, ap is_some (sym c.requires.bad ∙ c.in-Some.is))
