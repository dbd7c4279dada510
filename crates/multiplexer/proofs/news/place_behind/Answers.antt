use Rattle.std.proofs.Common.{◌≡◌, ◌+◌, Bool, true, false, ◌||◌, drop, length, slice_get, Some, refl, ap, sym, ◌∙◌}
use Rattle.std.specs.List.{list_any}
use Rattle.std.proofs.lemmas.Option.{slice_get_read}
use Rattle.multiplexer.specs.Looks.{is_behind}
use Rattle.multiplexer.proofs.Putting.{drop_more}
use Rattle.multiplexer.proofs.news.place_behind.Goals as goal

pub returns-then-is_behind-clause-some : goal.returns-then-is_behind-clause-some
returns-then-is_behind-clause-some c =
    let sources = c.args.sources.now in
    let from = c.args.from in
    let place = c.loop-place.place in
    let x = c.index-sources-place.result in
    let get : slice_get sources place ≡ Some x = slice_get_read sources (length sources) place x refl c.loop-place-test.true c.index-sources-place.is in
    let here : list_any (is_behind from) (drop place sources) ≡ true = ap (list_any (is_behind from)) (drop_more sources place x get) ∙ ap (λ (b : Bool). b || list_any (is_behind from) (drop (place + 1) sources)) (sym c.is_behind.ensures ∙ c.if-is_behind.true) in
    sym here ∙ c.loop-place.invariant

pub loop-place-preserved : goal.loop-place-preserved
loop-place-preserved c =
    let sources = c.args.sources.now in
    let from = c.args.from in
    let place = c.loop-place.place in
    let x = c.index-sources-place.result in
    let get : slice_get sources place ≡ Some x = slice_get_read sources (length sources) place x refl c.loop-place-test.true c.index-sources-place.is in
    let past : list_any (is_behind from) (drop place sources) ≡ list_any (is_behind from) (drop (place + 1) sources) =
    ap (list_any (is_behind from)) (drop_more sources place x get) ∙ ap (λ (b : Bool). b || list_any (is_behind from) (drop (place + 1) sources)) (sym c.is_behind.ensures ∙ c.if-is_behind.false) in
    sym past ∙ c.loop-place.invariant
