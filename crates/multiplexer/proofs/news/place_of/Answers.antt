use Rattle.std.proofs.Common.{◌≡◌, ◌+◌, suc, Bool, false, cond, take, drop, length, slice_get, None, Some, refl, ap, sym, subst, ◌∙◌, arith}
use Rattle.std.proofs.lemmas.Option.{slice_get_read}
use Rattle.multiplexer.specs.Looks.{source_for, is_for}
use Rattle.multiplexer.proofs.Finds.{found_none}
use Rattle.multiplexer.proofs.Putting.{drop_more}
use Rattle.multiplexer.proofs.news.place_of.Goals as goal

pub returns-then-is_for-clause-first : goal.returns-then-is_for-clause-first
returns-then-is_for-clause-first c =
    let sources = c.args.sources.now in
    let name = c.args.name.now in
    let params = c.args.params.now in
    let place = c.loop-place.place in
    let x = c.index-sources-place.result in
    let get : slice_get sources place ≡ Some x = slice_get_read sources (length sources) place x refl c.loop-place-test.true c.index-sources-place.is in
    let here : source_for name params (drop place sources) ≡ Some x = ap (source_for name params) (drop_more sources place x get) ∙ ap (λ (b : Bool). cond b (Some x) (source_for name params (drop (place + 1) sources))) (sym c.is_for.ensures.test ∙ c.if-is_for.true) in
    get ∙ (sym here ∙ c.loop-place.invariant.first)

pub loop-place-preserved : goal.loop-place-preserved
loop-place-preserved c =
    let sources = c.args.sources.now in
    let name = c.args.name.now in
    let params = c.args.params.now in
    let place = c.loop-place.place in
    let x = c.index-sources-place.result in
    let get : slice_get sources place ≡ Some x = slice_get_read sources (length sources) place x refl c.loop-place-test.true c.index-sources-place.is in
    let not_for : is_for name params x ≡ false = sym c.is_for.ensures.test ∙ c.if-is_for.false in
    let past : source_for name params (drop place sources) ≡ source_for name params (drop (place + 1) sources) =
    ap (source_for name params) (drop_more sources place x get) ∙ ap (λ (b : Bool). cond b (Some x) (source_for name params (drop (place + 1) sources))) not_for in
    let next : suc place ≡ place + 1 = omega arith in
    record {
      first = sym past ∙ c.loop-place.invariant.first;
      none = subst (λ n. source_for name params (take n sources) ≡ None) next (found_none name params sources place x c.loop-place.invariant.none get not_for);
    }
