-- Laws: A walk over lines goes on behind a blank line, and behind one that isn't blank.
use Rattle.std.specs.Prelude.{◌≡◌, ℕ, suc, ◌+◌, List, ◌∷◌, Option, Bool, true, false, if◌then◌else◌}
use Rattle.std.proofs.Common.{ap, ◌∙◌, arith}
use Rattle.checking.specs.Input.{is_blank}
use Rattle.checking.specs.Walk.{before_bad, read_to_bad, bad_unless, bad_from}

pub read_behind_blank : {X : Type 0} (reading : List ℕ → Option X) (all : List (List ℕ)) (l : List ℕ) (ls : List (List ℕ)) →
    all ≡ l ∷ ls → is_blank l ≡ true → read_to_bad reading all ≡ read_to_bad reading ls
read_behind_blank reading all l ls is blank =
    ap (read_to_bad reading) is
    ∙ ap (λ (b : Bool). if b then read_to_bad reading ls else before_bad (reading l) (read_to_bad reading ls)) blank

pub bad_behind_blank : {X : Type 0} (reading : List ℕ → Option X) (n : ℕ) (all : List (List ℕ)) (l : List ℕ) (ls : List (List ℕ)) →
    all ≡ l ∷ ls → is_blank l ≡ true → bad_from reading n all ≡ bad_from reading (n + 1) ls
bad_behind_blank reading n all l ls is blank =
    let next : suc n ≡ n + 1 = omega arith in
    ap (bad_from reading n) is
    ∙ (ap (λ (b : Bool). if b then bad_from reading (suc n) ls else bad_unless (reading l) n (bad_from reading (suc n) ls)) blank
    ∙ ap (λ (m : ℕ). bad_from reading m ls) next)

pub read_with : {X : Type 0} (reading : List ℕ → Option X) (all : List (List ℕ)) (l : List ℕ) (ls : List (List ℕ)) (o : Option X) →
    all ≡ l ∷ ls → is_blank l ≡ false → reading l ≡ o → read_to_bad reading all ≡ before_bad o (read_to_bad reading ls)
read_with {X = X} reading all l ls o is filled reads =
    ap (read_to_bad reading) is
    ∙ (ap (λ (b : Bool). if b then read_to_bad reading ls else before_bad (reading l) (read_to_bad reading ls)) filled
    ∙ ap (λ (x : Option X). before_bad x (read_to_bad reading ls)) reads)

pub bad_with : {X : Type 0} (reading : List ℕ → Option X) (n : ℕ) (all : List (List ℕ)) (l : List ℕ) (ls : List (List ℕ)) (o : Option X) →
    all ≡ l ∷ ls → is_blank l ≡ false → reading l ≡ o → bad_from reading n all ≡ bad_unless o n (bad_from reading (n + 1) ls)
bad_with {X = X} reading n all l ls o is filled reads =
    let next : suc n ≡ n + 1 = omega arith in
    ap (bad_from reading n) is
    ∙ (ap (λ (b : Bool). if b then bad_from reading (suc n) ls else bad_unless (reading l) n (bad_from reading (suc n) ls)) filled
    ∙ (ap (λ (x : Option X). bad_unless x n (bad_from reading (suc n) ls)) reads
    ∙ ap (λ (m : ℕ). bad_unless o n (bad_from reading m ls)) next))
