use Rattle.std.proofs.Common.{◌≡◌, ◌+◌, ◌*◌, map, string_bytes}
use Rattle.std.specs.List.{range_with_len}
use Rattle.rand_chacha.specs.ChaCha.{key_of}
use Rattle.seed_ids.specs.DrawnId.{drawing_key, letter_at}
use Rattle.seed_ids.proofs.draw.Given as goal

-- the letters so far, and the place of the next word
abbrev pub invariant-loop : goal.invariant-loop
invariant-loop l = record {
  place : l.words ≡ record { key = key_of (drawing_key l.seed l.collection); stream = 0; word_pos = 17 * l.n + l.counter };
  drawn : string_bytes l.id ≡ map (letter_at l.seed l.collection l.n) (range_with_len 0 l.counter);
}
