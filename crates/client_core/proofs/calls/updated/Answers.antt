use Rattle.std.proofs.Common.{length, sym, ap, ◌∙◌, arith}
use Rattle.std.proofs.lemmas.List.{take_all}
use Rattle.client_model.specs.Taking.{numbers_of, updated_refusal}
use Rattle.client_core.proofs.Updating.{goes_on, cut_short}
use Rattle.client_core.proofs.calls.updated.Goals as goal

pub loop-id-preserved : goal.loop-id-preserved
loop-id-preserved c =
    let i = c.loop-id.invariant in
    let e = c.in_ok-put_updated.ensures in
    let on = goes_on c.args.calls.now c.as_slice-id-items.result.now c.loop-id.id-index _ c.id-item.result c.loop-id.numbers.items c.put_updated.new.numbers.items (omega arith) c.loop-id-test.true c.id-item.is i.fine i.numbers (sym e.added ∙ c.if-not-branch.false) e.put in
    record { fine = on.0; numbers = on.1; seen = e.seen }

pub returns-then-not-branch : goal.returns-then-not-branch
returns-then-not-branch c =
    let i = c.loop-id.invariant in
    let e = c.in_ok-put_updated.ensures in
    ap (updated_refusal c.args.calls.now) (sym c.as_slice-id-items.ensures)
    ∙ cut_short c.args.calls.now c.as_slice-id-items.result.now c.loop-id.id-index c.id-item.result c.loop-id.numbers.items c.loop-id-test.true c.id-item.is i.fine i.numbers (sym e.added ∙ c.if-not-branch.true)

pub returns : goal.returns
returns c =
    let all = take_all c.loop-id.id-index c.as_slice-id-items.result.now c.loop-id-test.false ∙ c.as_slice-id-items.ensures in
    let i = c.loop-id.invariant in
    (ap (updated_refusal c.args.calls.now) (sym all) ∙ i.fine, i.numbers ∙ ap (numbers_of (length c.args.calls.now)) all)
