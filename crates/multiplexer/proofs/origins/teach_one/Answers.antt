use Rattle.std.proofs.Common.{◌≡◌, ◌+◌, ◌-◌, ◌<◌, List, map, take, drop, length, slice_get, Some, refl, ap, sym, subst, arith}
use Rattle.std.proofs.lemmas.Option.{slice_get_read}
use Rattle.publication.specs.Published.{published}
use Rattle.multiplexer.specs.declared.entry.Told.{Told}
use Rattle.multiplexer.specs.Inside.{seen_entry, news_told}
use Rattle.multiplexer.specs.Origins.{AreByKey, IsSole}
use Rattle.multiplexer.specs.Telling.{news_in}
use Rattle.multiplexer.proofs.Soles.{by_key_of, some_many, taught_some, taught_known, taught_sole, taught_with}
use Rattle.multiplexer.proofs.Weights.{map_written}
use Rattle.multiplexer.proofs.origins.teach_one.Goals as goal

pub returns-clause-taught : goal.returns-clause-taught
returns-clause-taught c = λ cursors C first doc taught ends known.
    let xs = c.args.all.now.items in
    let start = c.args.start in
    let end = c.args.end in
    let key = c.args.key.now in
    let entry = c.in-Some.origin.entry in
    let place = c.in-Some.origin.place in
    let x = c.index_mut-one.result.now in
    let new : Told = record { news = x.news; texts = c.keep_text.new.texts } in
    let some = take (end - start) (drop start xs) in
    let slice : take (end - start) (drop start c.deref.result.now) ≡ some = ap (λ (ys : List Told). take (end - start) (drop start ys)) c.deref.ensures.value in
    let many : length some ≡ end - start = some_many (end - start) start xs (omega (arith, c.requires.order, c.requires.within)) in
    let near : entry < end - start = omega (arith, c.in-Some.ensures.within, ap length slice, many) in
    let within : start + entry < length xs = omega (arith, near, c.requires.order, c.requires.within) in
    let get : slice_get xs (start + entry) ≡ Some x = slice_get_read xs (length xs) (start + entry) x refl within c.index_mut-one.ensures.value in
    let by_key = by_key_of cursors C (first + start) (map seen_entry some) (taught_some cursors C first start (end - start) xs taught).each in
    let sole = subst (λ (ys : List Told). IsSole (map seen_entry ys) key entry place) slice (c.in-Some.ensures.sole (subst (λ (ys : List Told). AreByKey (map seen_entry ys)) (sym slice) by_key)) in
    let is = taught_sole cursors C first start end xs key entry place doc c.args.text.now x c.requires.order c.requires.within taught sole ends known get near in
    taught_with cursors C first (start + entry) xs x new taught get refl
    (c.keep_text.ensures (published cursors (C (first + (start + entry)))) (news_in (seen_entry x)) (taught_known cursors C first (start + entry) xs x taught get) is)

pub returns-clause-same : goal.returns-clause-same
returns-clause-same c =
    let xs = c.args.all.now.items in
    let start = c.args.start in
    let end = c.args.end in
    let entry = c.in-Some.origin.entry in
    let x = c.index_mut-one.result.now in
    let new : Told = record { news = x.news; texts = c.keep_text.new.texts } in
    let some = take (end - start) (drop start xs) in
    let slice : take (end - start) (drop start c.deref.result.now) ≡ some = ap (λ (ys : List Told). take (end - start) (drop start ys)) c.deref.ensures.value in
    let many : length some ≡ end - start = some_many (end - start) start xs (omega (arith, c.requires.order, c.requires.within)) in
    let near : entry < end - start = omega (arith, c.in-Some.ensures.within, ap length slice, many) in
    let within : start + entry < length xs = omega (arith, near, c.requires.order, c.requires.within) in
    let get : slice_get xs (start + entry) ≡ Some x = slice_get_read xs (length xs) (start + entry) x refl within c.index_mut-one.ensures.value in
    map_written news_told xs (start + entry) x new get refl
