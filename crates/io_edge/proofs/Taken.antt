-- What several calls in a row took from a source, and put into a sink.
use Rattle.std.proofs.Common.{◌≡◌, ℕ, ◌+◌, ◌-◌, ◌≤◌, ◌++◌, List, Option, Some, None, length, take, drop, IfSome, refl, sym, ap, ◌∙◌, append_assoc}
use Rattle.std.proofs.Math.Seq.{drop-append_seam, take-add}
use Rattle.std.proofs.lemmas.List.{take-append-drop, take_rest}
use Rattle.io_edge.specs.Outside.{TakesNext, Grows}

-- the source gave these bytes since `before`, and holds the rest
abbrev pub Gave : Option (List ℕ) → Option (List ℕ) → List ℕ → Type 0
Gave before now bytes = (old : List ℕ) → before ≡ Some old → (rest : List ℕ) × (now ≡ Some rest) × (bytes ++ rest ≡ old)

pub gave_next : (before mid after : Option (List ℕ)) (bytes into : List ℕ) (room n : ℕ) → Gave before mid bytes
    → IfSome mid (λ old. TakesNext room n old into after) → Gave before after (bytes ++ take n into)
gave_next before mid after bytes into room n gave takes old is =
    let g = gave old is in
    let t : TakesNext room n g.0 into after = rw g.1 at takes in
    (drop n g.0, t.left, rw (append_assoc bytes (take n into) (drop n g.0), t.bytes, take-append-drop n g.0) g.2)

pub taken_of : (before now : Option (List ℕ)) (bytes : List ℕ) → Gave before now bytes → IfSome before (λ old. (n : ℕ) × (now ≡ Some (drop n old)))
taken_of None now bytes gave = tt
taken_of (Some old) now bytes gave =
    let g = gave old refl in
    (length bytes, g.1 ∙ ap Some (sym (drop-append_seam bytes g.0) ∙ ap (λ (xs : List ℕ). drop (length bytes) xs) g.2))

-- the sink grew by the first d bytes, and then by n of the others
pub grows_more : (before mid after : Option (List ℕ)) (s : List ℕ) (d n : ℕ) → n ≤ length (take (length s - d) (drop d s)) → d ≤ length s
    → Grows before mid (take d s) → Grows mid after (take n (take (length s - d) (drop d s))) → Grows before after (take (d + n) s)
grows_more before mid after s d n within fits first second now is =
    let more = second now is in
    let from = first more.0 more.1 in
    (from.0, from.1, rw (take-add d n s, ← append_assoc from.0 (take d s) (take n (drop d s)), from.2, ← take_rest s d) more.2)
