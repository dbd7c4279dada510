use Rattle.std.specs.Prelude.{IfOk}
use Rattle.std.proofs.Common.{◌≡◌, ◌+◌, ◌-◌, ◌≤◌, List, map, take, drop, length, ap, ap₂, sym, subst, ◌∙◌, arith}
use Rattle.std.proofs.lemmas.List.{length-map}
use Rattle.publication.specs.Published.{published}
use Rattle.store_machine.specs.State.{programs}
use Rattle.multiplexer.specs.declared.entry.Told.{Told}
use Rattle.multiplexer.specs.Inside.{seen_entry}
use Rattle.multiplexer.specs.Leading.{IsLead}
use Rattle.multiplexer.specs.Origins.{AreTaught}
use Rattle.multiplexer.specs.Telling.{ASource, news_in, documents_of}
use Rattle.multiplexer.specs.Sources.{next_of, IsToldBy}
use Rattle.multiplexer.proofs.Soles.{some_many, taught_some}
use Rattle.multiplexer.proofs.Texts.{tells_joined}
use Rattle.multiplexer.proofs.source.Source.told.Goals as goal

pub returns : goal.returns
returns c = λ cursors m told.
    let from = c.args.from in
    let count = c.args.count in
    let first = c.self.inside.first in
    let xs = c.self.inside.ones.items in
    let C = documents_of (programs m.app) m.history in
    let low : first ≤ from = subst (λ (s : ASource). s.first ≤ from) (sym c.self.view_is) c.requires.first in
    let start = from - first in
    let kept = subst (IsToldBy cursors m) (sym c.self.view_is) told in
    let many : (start + count) - start ≡ count = omega arith in
    let slice : take ((start + count) - start) (drop start c.deref.result.now) ≡ take count (drop start xs) = ap₂ (λ n (ys : List Told). take n (drop start ys)) many c.deref.ensures.value in
    let fits : start + count ≤ length xs = omega (arith, c.requires.next, ap next_of c.self.view_is, length-map xs seen_entry, low) in
    let size : length (take ((start + count) - start) (drop start c.deref.result.now)) ≡ count = ap length slice ∙ some_many count start xs fits in
    let begins : first + start ≡ from = omega (arith, low) in
    let taught = subst (λ n. AreTaught cursors C n (map seen_entry (take count (drop start xs)))) begins (taught_some cursors C first start count xs (record { each = kept.each; known = kept.known })) in
    let some = subst (λ (ys : List Told). AreTaught cursors C from (map seen_entry ys)) (sym slice) taught in
    tells_joined cursors m from (from + count) c.joined.result
    (subst (λ n. IfOk c.joined.result (λ told. IsLead (published cursors (C from)) (published cursors (C (from + n))) (news_in (seen_entry told)))) size (c.joined.ensures.leads cursors C from some.each))
    (c.joined.ensures.known cursors C from some.each some.known)
