use Rattle.std.proofs.Common.{◌≡◌, None, Some, refl, sym, ap, ◌∙◌, ◌∷◌, [], ◌++◌}
use Rattle.std.specs.Prelude.{ℕ, ◌+◌, List, map, take, drop, slice_get}
use Rattle.session_state.proofs.InPlace.{item_there}
use Rattle.connection.specs.Printed.{out_text, texts_in}
use Rattle.connection.proofs.PrintingLemmas.{item_printed, item_past}
use Rattle.connection.proofs.lines.push_item.Goals as goal

pub returns-in_default : goal.returns-in_default
returns-in_default c =
    let place = c.args.place.now in
    let none : slice_get c.args.session.now.carried.counts place.items ≡ None =
    ap (λ (counts : List ℕ). slice_get counts place.items) (sym c.counts.ensures) ∙ sym (item_there c.counts.result.now place.items None c.in_default.ensures.lookup) in
    item_past c.args.session.now c.args.sent.now c.args.line.now place c.args.lines.now none

pub returns : goal.returns
returns c =
    let place = c.args.place.now in
    let lines = c.args.lines.now in
    let count = c.in-Some.count.now in
    let some : slice_get c.args.session.now.carried.counts place.items ≡ Some count =
    ap (λ (counts : List ℕ). slice_get counts place.items) (sym c.counts.ensures) ∙ sym (item_there c.counts.result.now place.items (Some c.in-Some.count) c.in-Some.ensures.lookup) in
    item_printed c.args.session.now c.args.sent.now c.args.line.now place (record { items = place.items + 1; texts = c.push_texts.new.place }) count lines c.push_texts.new.lines some refl
    c.in_ok-push_texts.ensures.left
    (c.in_ok-push_texts.ensures.line
    ∙ ap (λ (ls : List (List ℕ)). ls ++ map out_text (take count (drop place.texts (texts_in c.args.sent.now c.args.session.now))))
    (c.in_ok-push.ensures.ok ∙ ap (λ (t : List ℕ). lines ++ t ∷ []) c.in_ok-item_line.ensures))
