-- The texts of a list that pass a test, one after another.
use Rattle.std.specs.Prelude.{◌≡◌, ℕ, suc, ◌+◌, ◌<◌, List, [], ◌∷◌, ◌++◌, filter, length, Bool, true, false, cond}
use Rattle.std.proofs.Common.{sym, ap, ◌∙◌, arith, drop, get_or}
use Rattle.std.proofs.Math.Seq.{drop-cons}
use Rattle.std.proofs.lemmas.List.{append_assoc}

next_drop : (items : List (List ℕ)) (i : ℕ) (id : List ℕ) → i < length items → id ≡ get_or items i id → drop i items ≡ id ∷ drop (i + 1) items
next_drop items i id less is =
    let next : suc i ≡ i + 1 = omega arith in
    drop-cons items i id less ∙ (ap (λ x. x ∷ drop (suc i) items) (sym is) ∙ ap (λ n. id ∷ drop n items) next)

-- the next one passes, or it doesn't
pub next_left : (p : List ℕ → Bool) (items : List (List ℕ)) (i : ℕ) (id : List ℕ) (left now : List (List ℕ)) → i < length items → id ≡ get_or items i id → p id ≡ true → now ≡ left ++ id ∷ [] →
    left ++ filter p (drop i items) ≡ filter p items → now ++ filter p (drop (i + 1) items) ≡ filter p items
next_left p items i id left now less is passes more all =
    let rest = filter p (drop (i + 1) items) in
    ap (λ l. l ++ rest) more
    ∙ (append_assoc left (id ∷ []) rest
    ∙ (ap (λ b. left ++ cond b (id ∷ rest) rest) (sym passes)
    ∙ (ap (λ xs. left ++ filter p xs) (sym (next_drop items i id less is)) ∙ all)))

pub next_skipped : (p : List ℕ → Bool) (items : List (List ℕ)) (i : ℕ) (id : List ℕ) (left now : List (List ℕ)) → i < length items → id ≡ get_or items i id → p id ≡ false → now ≡ left →
    left ++ filter p (drop i items) ≡ filter p items → now ++ filter p (drop (i + 1) items) ≡ filter p items
next_skipped p items i id left now less is passes same all =
    let rest = filter p (drop (i + 1) items) in
    ap (λ l. l ++ rest) same
    ∙ (ap (λ b. left ++ cond b (id ∷ rest) rest) (sym passes)
    ∙ (ap (λ xs. left ++ filter p xs) (sym (next_drop items i id less is)) ∙ all))
