-- One more letter, from the next word.
use Rattle.std.proofs.Common.{◌≡◌, ℕ, ◌+◌, ◌*◌, ◌%◌, ◌^◌, ◌<◌, List, [], ◌∷◌, ◌++◌, ◌/◌, suc, zero, true, nat_lt, slice_index, map, encode_utf8, refl, sym, ap, ◌∙◌, arith}
use Rattle.std.proofs.lemmas.Bool.Decides.{nat_tests}
use Rattle.std.proofs.lemmas.List.FromFn.{map-range_with_len_more}
use Rattle.std.specs.List.{list_all, range_with_len}
use Rattle.rand_chacha.specs.ChaCha.{ChaCha, word_at, next_word, key_of}
use Rattle.value_model.specs.TruthLaws.{both_true}
use Rattle.seed_ids.specs.DrawnId.{alphabet, drawing_key, letter_of, letter_at}
use Rattle.seed_ids.proofs.draw.Goals as goal

-- ---- each letter is ASCII
below : (x : ℕ) → nat_lt x 128 ≡ true → x < 128
below x e = grind (arith, nat_tests)

each_below : (xs : List ℕ) → list_all (λ x. nat_lt x 128) xs ≡ true → (i : ℕ) → slice_index xs i < 128
each_below [] all i = omega arith
each_below (x ∷ xs) all zero = below x (both_true _ _ all).0
each_below (x ∷ xs) all (suc i) = each_below xs (both_true _ _ all).1 i

letter_below : (word : ℕ) → letter_of word < 128
letter_below word = each_below alphabet refl (word * 55 / 2 ^ 32)

-- ---- each word is the next of the key stream
-- the generator at a place of stream 0
abbrev standing_at : List ℕ → ℕ → ChaCha
standing_at key place = record { key = key; stream = 0; word_pos = place }

one_on : (place : ℕ) → place + 1 < 2 ^ 68 → (place + 1) % 2 ^ 68 ≡ place + 1
one_on place fits = omega arith

next : (w w' : ChaCha) (word : ℕ) (key : List ℕ) (place : ℕ) → w ≡ standing_at key place → ◌≡◌ {A = ℕ × ChaCha} (word, w') (next_word 10 w) → place + 1 < 2 ^ 68 → (word ≡ word_at 10 key 0 place) × (w' ≡ standing_at key (place + 1))
next w w' word key place at_place step fits =
    let moved : ◌≡◌ {A = ℕ × ChaCha} (word, w') (next_word 10 (standing_at key place)) = step ∙ ap (next_word 10) at_place in
    (ap (λ p. p.0) moved, ap (λ p. p.1) moved ∙ ap (standing_at key) (one_on place fits))

pub loop-preserved : goal.loop-preserved
loop-preserved c =
    let n = c.args.n in
    let i = c.loop.counter in
    let key = key_of (drawing_key c.args.seed.now c.args.collection.now) in
    let moved = next c.loop.words c.next_word.new.self c.next_word.result key (17 * n + i) c.loop.invariant.place c.next_word.ensures (omega (arith, c.requires, c.loop-test.true)) in
    let letter : c.letter.result ≡ letter_at c.args.seed.now c.args.collection.now n i = c.letter.ensures ∙ ap letter_of moved.0 in
    let one : encode_utf8 c.letter.result ≡ c.letter.result ∷ [] = c.in_ok-push.ensures.ascii (rw c.letter.ensures (letter_below c.next_word.result)) in
    record {
      place = moved.1 ∙ ap (standing_at key) (omega arith);
      drawn = c.in_ok-push.ensures.bytes
          ∙ ap (λ cs. cs ++ encode_utf8 c.letter.result) c.loop.invariant.drawn
          ∙ ap (λ cs. map (letter_at c.args.seed.now c.args.collection.now n) (range_with_len 0 i) ++ cs) (one ∙ ap (λ x. x ∷ []) letter)
          ∙ sym (map-range_with_len_more (letter_at c.args.seed.now c.args.collection.now n) 0 i i (omega arith));
    }
