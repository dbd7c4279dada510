-- A kept subscription as the journal's definitions see it.
use Rattle.std.specs.Prelude.{ℕ, zero, suc, ◌==◌, List, [], ◌∷◌, map, Option, Some, None, if◌then◌else◌}
use Rattle.live_observer.specs.Observing.{AnObserver}
use Rattle.session_model.specs.Subscriptions.{Live, of_sub}
use Rattle.session_state.specs.declared.subs.Sub.{Sub}

abbrev pub as_live : Sub → Live
as_live s = record { sub = s.sub; id = s.id; name = s.name; params = s.params; cursors = s.cursors; floor = s.floor; cursor = s.cursor }

abbrev pub as_lives : List Sub → List Live
as_lives subs = map as_live subs

-- the place in the list of the first with this number, n standing before it
abbrev pub place_from : ℕ → ℕ → List Live → Option ℕ
place_from n s [] = None
place_from n s (l ∷ ls) = if s == l.sub then Some n else place_from (suc n) s ls

abbrev pub place_in : ℕ → List Live → Option ℕ
place_in s ls = place_from 0 s ls

-- the first with this number
abbrev pub live_of : ℕ → List Live → Option Live
live_of s ls = of_sub (λ (l : Live). Some l) None s ls

-- the list once what stands at a place shows this place of the history
abbrev pub placed_at : ℕ → ℕ → List Live → List Live
placed_at n place [] = []
placed_at zero place (l ∷ ls) = record l { cursor = Some place } ∷ ls
placed_at (suc n) place (l ∷ ls) = l ∷ placed_at n place ls

-- ---- observers

-- the observer of each, once it is loaded
abbrev pub observers_of : List Sub → List (Option AnObserver)
observers_of subs = map (λ (s : Sub). s.observer) subs

-- that at a place
abbrev pub observer_in : ℕ → List (Option AnObserver) → Option AnObserver
observer_in n [] = None
observer_in zero (o ∷ os) = o
observer_in (suc n) (o ∷ os) = observer_in n os
