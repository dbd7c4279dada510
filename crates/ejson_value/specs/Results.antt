-- Results that are made of results: the first error stands for the whole.
use Rattle.std.specs.Prelude.{List, [], ◌∷◌, Result, Ok, Err}

module _ {E : Type 0} where
  -- what is made of a value
  abbrev pub made : {A B : Type 0} → (A → B) → Result A E → Result B E
  made f (Err e) = Err e
  made f (Ok a) = Ok (f a)

  -- what is made of two values
  abbrev pub with_both : {A B C : Type 0} → (A → B → C) → Result A E → Result B E → Result C E
  with_both f (Err e) b = Err e
  with_both f (Ok a) (Err e) = Err e
  with_both f (Ok a) (Ok b) = Ok (f a b)

  -- what follows a value
  abbrev pub and_then : {A B : Type 0} → Result A E → (A → Result B E) → Result B E
  and_then (Err e) f = Err e
  and_then (Ok a) f = f a

-- parts put in front of the rest, one after another
abbrev pub after : {X Q : Type 0} → (X → Q → Q) → List X → Q → Q
after cons [] q = q
after cons (x ∷ xs) q = cons x (after cons xs q)
