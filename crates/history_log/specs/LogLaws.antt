-- Laws of logs.
use Rattle.std.specs.Prelude.{◌≡◌, ◌-◌, List, [], ◌∷◌, ◌++◌, length, take, refl}
use Rattle.std.proofs.Common.{ap, ◌∙◌, arith, length-append}
use Rattle.ejson_value.specs.declared.change.Change.{Change}
use Rattle.history_log.specs.declared.log.Logged.{Logged}
use Rattle.history_log.specs.Log.{without_last, settled}

take_first : {A : Type 0} (xs ys : List A) → take (length xs) (xs ++ ys) ≡ xs
take_first [] ys = refl
take_first (x ∷ xs) ys = ap (λ zs. x ∷ zs) (take_first xs ys)

-- an entry that is taken back leaves the log as it was
pub without_last-push : (ls : List Logged) (l : Logged) → without_last (ls ++ l ∷ []) ≡ ls
without_last-push ls l =
    let n : length (ls ++ l ∷ []) - 1 ≡ length ls = omega (arith, length-append ls (l ∷ [])) in
    ap (λ k. take k (ls ++ l ∷ [])) n ∙ take_first ls (l ∷ [])

-- only the last entry's changes are set
pub settled-push : (ls : List Logged) (l : Logged) (changes : List Change) → settled (ls ++ l ∷ []) changes ≡ ls ++ record l { changes = changes } ∷ []
settled-push [] l changes = refl
settled-push (a ∷ []) l changes = refl
settled-push (a ∷ b ∷ ls) l changes = ap (λ ms. a ∷ ms) (settled-push (b ∷ ls) l changes)
