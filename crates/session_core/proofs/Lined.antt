-- The lines that a session keeps are those that it is seen to have.
use Rattle.std.proofs.Common.{◌≡◌, List, [], ◌∷◌, map, refl, ap}
use Rattle.session_state.specs.declared.journal.Line.{Line}
use Rattle.session_state.specs.Journal.{items_of}
use Rattle.session_core.specs.Lines.{lines_with}

pub lines_are : (ls : List Line) → lines_with (items_of ls) (map (λ (l : Line). l.id) ls) ≡ ls
lines_are [] = refl
lines_are (l ∷ ls) = ap (λ (xs : List Line). l ∷ xs) (lines_are ls)
