use Rattle.std.proofs.Common.{◌≡◌, ◌≢◌, ◌<◌, ◌+◌, ◌-◌, ◌++◌, ℕ, List, suc, [], take, drop, length, get_or, get_or-drop, take-append-drop, append-nil, ap, sym, subst, ◌∙◌, arith}
use Rattle.std.proofs.lemmas.List.{length-drop, drop_all}
use Rattle.checking.specs.Input.{line_feed, lines_in}
use Rattle.checking.specs.InputLaws.{lines-split, lines_to-cut, lines_to-whole, take_length}
use Rattle.checking.proofs.input.split_lines.Goals as goal

pub returns-then-place-input-clause-first : goal.returns-then-place-input-clause-first
returns-then-place-input-clause-first c =
    let xs = c.args.input.now in
    let p = c.args.place in
    let none : length (drop p xs) ≡ 0 = ap length (drop_all p xs (omega (arith, c.if-place-input.true))) in
    lines_to-whole xs p (λ k h. absurd (omega (arith, h, none)))

pub returns-then-end-input-clause-lines : goal.returns-then-end-input-clause-lines
returns-then-end-input-clause-lines c =
    let xs = c.args.input.now in
    let p = c.args.place in
    let e = c.line_end.result in
    let i = p + e in
    let tail : take (length xs - p) (drop p xs) ≡ drop p xs = take_length (drop p xs) (length xs - p) (length-drop p xs) in
    let long : length (take (length xs - p) (drop p xs)) ≡ length xs - p = ap length tail ∙ length-drop p xs in
    let within : i < length xs = c.if-end-input.true in
    let found = c.line_end.ensures.found (omega (arith, long, within)) in
    let here : get_or xs i 0 ≡ line_feed = sym (get_or-drop p xs e 0) ∙ (ap (λ l. get_or l e 0) (sym tail) ∙ found) in
    let next : suc i ≡ i + 1 = omega arith in
    lines-split xs i within here
    ∙ (ap (λ k. lines_in (take k xs) ++ lines_in (drop k xs)) next
    ∙ ap (λ ys. lines_in (take (i + 1) xs) ++ lines_in ys) (sym (take_length (drop (i + 1) xs) (length xs - (i + 1)) (length-drop (i + 1) xs))))

pub returns-then-end-input-clause-first : goal.returns-then-end-input-clause-first
returns-then-end-input-clause-first c =
    let xs = c.args.input.now in
    let p = c.args.place in
    let e = c.line_end.result in
    let tail : take (length xs - p) (drop p xs) ≡ drop p xs = take_length (drop p xs) (length xs - p) (length-drop p xs) in
    let long : length (drop p xs) ≡ length xs - p = length-drop p xs in
    let within : p + e < length xs = c.if-end-input.true in
    let less : e < length (drop p xs) = omega (arith, long, within) in
    let found = c.line_end.ensures.found (subst (λ (l : List ℕ). e < length l) (sym tail) less) in
    let next : (p + e) + 1 ≡ p + suc e = omega arith in
    ap (λ k. take k xs) next
    ∙ lines_to-cut xs p e less (λ k h. subst (λ (l : List ℕ). get_or l k 0 ≢ line_feed) tail (c.line_end.ensures.before k h)) (ap (λ l. get_or l e 0) (sym tail) ∙ found)

pub returns-then-end-input-clause-whole : goal.returns-then-end-input-clause-whole
returns-then-end-input-clause-whole c =
    let xs = c.args.input.now in
    let k = (c.args.place + c.line_end.result) + 1 in
    ap (λ l. take k xs ++ l) (take_length (drop k xs) (length xs - k) (length-drop k xs)) ∙ take-append-drop k xs

pub returns-else-end-input-clause-first : goal.returns-else-end-input-clause-first
returns-else-end-input-clause-first c =
    let xs = c.args.input.now in
    let p = c.args.place in
    let e = c.line_end.result in
    let tail : take (length xs - p) (drop p xs) ≡ drop p xs = take_length (drop p xs) (length xs - p) (length-drop p xs) in
    let long : length (drop p xs) ≡ length xs - p = length-drop p xs in
    lines_to-whole xs p (λ k h. subst (λ (l : List ℕ). get_or l k 0 ≢ line_feed) tail (c.line_end.ensures.before k (omega (arith, h, long, c.if-end-input.false, c.if-place-input.false))))
