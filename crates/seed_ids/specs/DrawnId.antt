-- The ids that a seed draws for a collection. They have the form of the ids that Meteor's package `random`
-- makes, 17 letters out of 55; which letters stands here.
use Rattle.std.specs.Prelude.{ℕ, ◌+◌, ◌*◌, ◌/◌, ◌^◌, List, ◌∷◌, ◌++◌, map, codes, slice_index}
use Rattle.std.specs.List.{range_with_len}
use Rattle.sha2.specs.Sha256.{sha256}
use Rattle.rand_chacha.specs.ChaCha.{word_at, key_of}

-- the letters, without those that are easily taken for another
abbrev pub alphabet : List ℕ
alphabet = codes "23456789ABCDEFGHJKLMNPQRSTWXYZabcdefghijkmnopqrstuvwxyz"

-- the key of 32 bytes: the SHA-256 (FIPS 180-4) of the seed, a zero byte and the collection's name
abbrev pub drawing_key : List ℕ → List ℕ → List ℕ
drawing_key seed collection = sha256 (seed ++ 0 ∷ collection)

-- the letter of a word below 2 ^ 32: the words are parted evenly, in order, among the letters
abbrev pub letter_of : ℕ → ℕ
letter_of word = slice_index alphabet (word * 55 / 2 ^ 32)

-- letter i of the id with number n: that of the word at place 17 * n + i in the key stream of ChaCha20
-- (RFC 8439, sections 2.3 and 2.4: ten double rounds) with a nonce of zeros and blocks counted from 0
abbrev pub letter_at : List ℕ → List ℕ → ℕ → ℕ → ℕ
letter_at seed collection n i = letter_of (word_at 10 (key_of (drawing_key seed collection)) 0 (17 * n + i))

-- the id with number n: its letters 0 to 16
abbrev pub drawn_id : List ℕ → List ℕ → ℕ → List ℕ
drawn_id seed collection n = map (letter_at seed collection n) (range_with_len 0 17)
