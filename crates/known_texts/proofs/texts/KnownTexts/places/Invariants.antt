use Rattle.std.proofs.Common.{◌≡◌, None, replicate}
use Rattle.known_texts.proofs.texts.KnownTexts.places.Given as goal

abbrev pub invariant-loop-place : goal.invariant-loop-place
invariant-loop-place l = l.texts ≡ replicate l._place None
