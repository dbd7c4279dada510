use Rattle.std.specs.Prelude.{vec_len}
use Rattle.std.proofs.Common.{◌≡◌, ◌<◌, ℕ, List, length, slice_get, Some, Option, IfSome, option_map, refl, ap, sym, subst, ◌∙◌, arith}
use Rattle.std.proofs.lemmas.Option.{slice_get_read, slice_get-map}
use Rattle.std.proofs.lemmas.List.{length-map}
use Rattle.multiplexer.specs.declared.joining.Part.{Part}
use Rattle.multiplexer.specs.Origins.{IsKnownAt}
use Rattle.multiplexer.specs.Parts.{news_of_part, news_of_parts, IsKnownPart}
use Rattle.multiplexer.proofs.Sources.{all_at}
use Rattle.multiplexer.proofs.Texts.{no_text_known}
use Rattle.multiplexer.proofs.Putting.{if_known}
use Rattle.multiplexer.proofs.joining.Parts.texts.Goals as goal

pub loop-place-init : goal.loop-place-init
loop-place-init c = λ before known.
    let parts = c.args.self.now in
    let counted : vec_len c.self.inside.parts ≡ length c.self.inside.parts.items = omega (arith, c.self.inside.parts.ok.0) in
    let many : c.len.result ≡ length (news_of_parts parts) = c.len.ensures ∙ (counted ∙ (ap length c.self.view_is ∙ sym (length-map parts news_of_part))) in
    no_text_known before (news_of_parts parts) c.len.result c.in_ok-texts.texts many c.in_ok-texts.ensures

pub loop-place-preserved : goal.loop-place-preserved
loop-place-preserved c = λ before known.
    let parts = c.args.self.now in
    let news = news_of_parts parts in
    let items = c.self.inside.parts.items in
    let place = c.loop-place.place in
    let x = c.index.result.now in
    let within : place < length items = omega (arith, c.loop-place-test.true, c.len-place-end.ensures) in
    let get : slice_get parts place ≡ Some x = subst (λ (ps : List Part). slice_get ps place ≡ Some x) c.self.view_is (slice_get_read items (length items) place x refl within c.index.ensures) in
    let there : slice_get news place ≡ Some (news_of_part x) = slice_get-map news_of_part parts place ∙ ap (option_map news_of_part) get in
    c.keep_text.ensures before news (c.loop-place.invariant before known)
    (subst (λ (o : Option (List ℕ)). IfSome o (IsKnownAt before news place)) (sym c.as_ref.ensures.value) (if_known before news place (news_of_part x) x.text there (all_at (IsKnownPart before) parts place x known get)))
