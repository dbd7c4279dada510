-- Laws: How far the live subscriptions are.
use Rattle.std.specs.Prelude.{◌≡◌, List, [], ◌∷◌, ◌++◌, Bool, true, false, ◌||◌, is_none, refl}
use Rattle.std.proofs.Common.{ap, sym, ◌∙◌}
use Rattle.session_model.specs.Subscriptions.{Live}
use Rattle.session_journal_laws.specs.Fired.{lesser, least_with, is_opening}
use Rattle.session_state.specs.declared.progress.Progress.{Progress}
use Rattle.session_state.specs.Progress.{nowhere, progress_of, progress_with, with_cursor}

pub progress_append : (p : Progress) (ls : List Live) (l : Live) → progress_with p (ls ++ l ∷ []) ≡ with_cursor (progress_with p ls) l.cursor
progress_append p [] l = refl
progress_append p (x ∷ ls) l = progress_append (with_cursor p x.cursor) ls l

assoc : (a b c : Bool) → ((a || b) || c) ≡ (a || (b || c))
assoc false b c = refl
assoc true b c = refl

with_false : (a : Bool) → (a || false) ≡ a
with_false false = refl
with_false true = refl

with_is : (p : Progress) (ls : List Live) → progress_with p ls ≡ record { least = least_with p.least ls; opening = p.opening || is_opening ls }
with_is p [] = ap (λ (b : Bool). record { least = p.least; opening = b }) (sym (with_false p.opening))
with_is p (l ∷ ls) = with_is (with_cursor p l.cursor) ls
    ∙ ap (λ (b : Bool). record { least = least_with (lesser p.least l.cursor) ls; opening = b }) (assoc p.opening (is_none l.cursor) (is_opening ls))

pub progress_is : (ls : List Live) → progress_with nowhere ls ≡ progress_of ls
progress_is ls = with_is nowhere ls
