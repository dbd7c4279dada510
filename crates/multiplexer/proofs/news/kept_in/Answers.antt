use Rattle.std.proofs.Common.{◌≡◌, ◌+◌, length, drop, slice_get, Some, refl, ap, ◌∙◌, arith}
use Rattle.std.proofs.lemmas.Option.{slice_get_read}
use Rattle.multiplexer.specs.Bounds.{kept_in}
use Rattle.multiplexer.proofs.Weights.{kept_step, few_kept}
use Rattle.multiplexer.proofs.news.kept_in.Goals as goal

pub overflow_add-kept : goal.overflow_add-kept
overflow_add-kept c =
    let sources = c.args.sources.now in
    let x = c.index-sources-place.result in
    let get : slice_get sources c.loop-place.place ≡ Some x = slice_get_read sources (length sources) c.loop-place.place x refl c.loop-place-test.true c.index-sources-place.is in
    omega (arith, kept_step sources c.loop-place.place x c.loop-place.kept (kept_in sources) get c.loop-place.invariant, few_kept sources c.requires, c.kept.ensures)

pub loop-place-preserved : goal.loop-place-preserved
loop-place-preserved c =
    let sources = c.args.sources.now in
    let x = c.index-sources-place.result in
    let get : slice_get sources c.loop-place.place ≡ Some x = slice_get_read sources (length sources) c.loop-place.place x refl c.loop-place-test.true c.index-sources-place.is in
    ap (λ n. (c.loop-place.kept + n) + kept_in (drop (c.loop-place.place + 1) sources)) c.kept.ensures ∙ kept_step sources c.loop-place.place x c.loop-place.kept (kept_in sources) get c.loop-place.invariant
