-- What a line of a run writes, and what those behind it do.
use Rattle.std.proofs.Common.{◌≡◌, ℕ, List, ◌∷◌, ◌++◌, ap, sym, ◌∙◌}
use Rattle.std.proofs.lemmas.Grind.{flat_map-append}
use Rattle.std.proofs.lemmas.List.{append_assoc}
use Rattle.checking.specs.Output.{bytes_of, value_bytes}
use Rattle.revived_client.specs.State.{RevivedState}
use Rattle.reviving.specs.declared.lines.Line.{Line}
use Rattle.reviving.specs.Run.{written, after, all_written}

-- the whole output stays the same as a line's part of it is written
pub written_line : (v w : RevivedState) (now before whole : List ℕ) (all ls : List Line) (l : Line) → all ≡ l ∷ ls → w ≡ after v l → now ≡ before ++ bytes_of (written v l) →
    before ++ bytes_of (all_written v all) ≡ whole → now ++ bytes_of (all_written w ls) ≡ whole
written_line v w now before whole all ls l is_all is_w is_now invariant =
    ap (λ b. b ++ bytes_of (all_written w ls)) is_now
    ∙ (ap (λ u. (before ++ bytes_of (written v l)) ++ bytes_of (all_written u ls)) is_w
    ∙ (append_assoc before (bytes_of (written v l)) (bytes_of (all_written (after v l) ls))
    ∙ (ap (λ b. before ++ b) (sym (flat_map-append value_bytes (written v l) (all_written (after v l) ls)))
    ∙ (ap (λ es. before ++ bytes_of (all_written v es)) (sym is_all) ∙ invariant))))
