use Rattle.std.proofs.Common.{ap, sym, ◌∙◌, arith}
use Rattle.std.specs.Prelude.{slice_index_or}
use Rattle.value_model.specs.Val.{null}
use Rattle.ejson_value.specs.View.{view, views}
use Rattle.selector_match.proofs.Loops.{one_made, all_made}
use Rattle.selector_match.proofs.Rising.{not_absent, get-views, length-views}
use Rattle.selector_match.proofs.operands.places_of.Goals as goal

pub unreachable-requires : goal.unreachable-requires
unreachable-requires c =
    let written = c.args.written.now in
    let i = c.loop-value.value-index in
    not_absent (views written) (views c.args.rising.now) i (view c.value-item.result) c.requires.alike (omega (arith, c.loop-value-test.true, length-views written)) (get-views written i c.value-item.result c.loop-value-test.true ∙ ap view (sym c.value-item.is)) c.in-None.ensures

pub loop-value-preserved : goal.loop-value-preserved
loop-value-preserved c =
    one_made view (λ k. slice_index_or (views c.args.rising.now) k null) c.args.written.now c.loop-value.places.items c.loop-value.value-index c.push.new.self.items c.value-item.result c.in-Some.place
    c.loop-value-test.true c.value-item.is c.in_ok-push-in-Some.ensures.items c.in-Some.ensures.1 c.loop-value.invariant

pub returns : goal.returns
returns c = all_made view (λ k. slice_index_or (views c.args.rising.now) k null) c.args.written.now c.loop-value.places.items c.loop-value.value-index c.loop-value-test.false c.loop-value.invariant
