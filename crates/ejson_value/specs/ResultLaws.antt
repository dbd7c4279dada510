-- Laws of results that are made of results, for the exits and the turns of loops that read parts one after another.
use Rattle.std.specs.Prelude.{◌≡◌, List, [], ◌∷◌, ◌++◌, Result, Ok, Err, refl}
use Rattle.std.proofs.Common.{ap, sym, ◌∙◌}
use Rattle.ejson_value.specs.Results.{made, with_both, and_then, after}

module _ {E : Type 0} where
  pub made-ok : {A B : Type 0} (f : A → B) (r : Result A E) (b : B) → made f r ≡ Ok b → (a : A) × (r ≡ Ok a) × (f a ≡ b)
  made-ok f (Err e) b is = absurd (cc is)
  made-ok f (Ok a) b is = (a, refl, cc is)

  pub and_then-ok : {A B : Type 0} (r : Result A E) (f : A → Result B E) (b : B) → and_then r f ≡ Ok b → (a : A) × (r ≡ Ok a) × (f a ≡ Ok b)
  and_then-ok (Err e) f b is = absurd (cc is)
  and_then-ok (Ok a) f b is = (a, refl, is)

pub after-append : {X Q : Type 0} (cons : X → Q → Q) (xs : List X) (x : X) (q : Q) → after cons (xs ++ x ∷ []) q ≡ after cons xs (cons x q)
after-append cons [] x q = refl
after-append cons (y ∷ xs) x q = ap (λ r. cons y r) (after-append cons xs x q)

-- loops that read parts one after another: what was read so far goes in front of what the rest reads as
module _ {X Q E : Type 0} (cons : X → Q → Q) where
  pub made_none : (r : Result Q E) → r ≡ made (λ q. after cons [] q) r
  made_none (Ok q) = refl
  made_none (Err e) = refl

  pub made_more : (xs : List X) (x : X) (c : Result X E) (r : Result Q E) → c ≡ Ok x →
      made (λ q. after cons xs q) (with_both cons c r) ≡ made (λ q. after cons (xs ++ x ∷ []) q) r
  made_more xs x c (Ok q) is = ap (λ o. made (λ q. after cons xs q) (with_both cons o (Ok q))) is ∙ ap (λ s. Ok s) (sym (after-append cons xs x q))
  made_more xs x c (Err e) is = ap (λ o. made (λ q. after cons xs q) (with_both cons o (Err e))) is

  pub made_fails : (xs : List X) (e : E) (c : Result X E) (r : Result Q E) → c ≡ Err e → made (λ q. after cons xs q) (with_both cons c r) ≡ Err e
  made_fails xs e c r is = ap (λ o. made (λ q. after cons xs q) (with_both cons o r)) is
