-- A kept call as the journal's definitions see it, and which calls are told, by how far the subscriptions are.
use Rattle.std.specs.Prelude.{◌&&◌, min, ℕ, zero, suc, List, [], ◌∷◌, ◌++◌, map, Bool, true, false, Option, None, Some, if◌then◌else◌}
use Rattle.std.specs.List.{list_any}
use Rattle.session_model.specs.Methods.{Phase, running, refused, finished, told, Method}
use Rattle.session_state.specs.declared.calls.Phase.{Phase as ThePhase}
use Rattle.session_state.specs.declared.calls.Phase.TheVariants as phase
use Rattle.session_state.specs.declared.calls.Method.{Method as TheMethod}
use Rattle.session_state.specs.declared.progress.Progress.{Progress}
use Rattle.session_state.specs.Progress.{is_open_by, turned_phase}

abbrev pub as_phase : ThePhase → Phase
as_phase phase.Running = running
as_phase phase.Refused = refused
as_phase (phase.Finished place) = finished place
as_phase (phase.Told place) = told place

abbrev pub as_method : TheMethod → Method
as_method m = record { id = m.id; phase = as_phase m.phase }

abbrev pub fired_by : Progress → Phase → Phase
fired_by p (finished place) = if is_open_by p place then told place else finished place
fired_by p q = q

abbrev pub fire_by : Progress → List Method → List Method
fire_by p ms = map (λ (m : Method). record m { phase = fired_by p m.phase }) ms

abbrev pub told_now_by : Progress → List ℕ → Phase → List (List ℕ)
told_now_by p id (finished place) = if is_open_by p place then id ∷ [] else []
told_now_by p id q = []

-- the ids of those whose fences are open, the call of a number having ended at a place; n of the calls stand before these
abbrev pub told_from : Progress → Option (ℕ × ℕ) → ℕ → List Method → List (List ℕ)
told_from p ended n [] = []
told_from p ended n (m ∷ ms) = told_now_by p m.id (turned_phase ended n m.phase) ++ told_from p ended (suc n) ms

abbrev pub told_by : Progress → Option (ℕ × ℕ) → List Method → List (List ℕ)
told_by p ended ms = told_from p ended 0 ms

abbrev pub is_refused : Phase → Bool
is_refused refused = true
is_refused p = false

abbrev pub has_refused : List Method → Bool
has_refused ms = list_any (λ (m : Method). is_refused m.phase) ms

-- ---- calls of which nothing more becomes

-- it was told, or refused
abbrev pub is_settled : Phase → Bool
is_settled running = false
is_settled refused = true
is_settled (finished place) = false
is_settled (told place) = true

-- there are so many calls at least, and the first so many are settled
abbrev pub are_settled : ℕ → List Method → Bool
are_settled zero ms = true
are_settled (suc n) [] = false
are_settled (suc n) (m ∷ ms) = is_settled m.phase && are_settled n ms

-- the number of calls that need not be looked at where so many are settled, the call of a number having ended
abbrev pub passed_by : ℕ → Option (ℕ × ℕ) → ℕ
passed_by n None = n
passed_by n (Some ended) = min n ended.0

-- ---- calls at a place

-- what stands at a place is told if its fence is open
abbrev pub fire_at : Progress → ℕ → List Method → List Method
fire_at p n [] = []
fire_at p zero (m ∷ ms) = record m { phase = fired_by p m.phase } ∷ ms
fire_at p (suc n) (m ∷ ms) = m ∷ fire_at p n ms

-- all behind the first n
abbrev pub fire_from : Progress → ℕ → List Method → List Method
fire_from p zero ms = fire_by p ms
fire_from p (suc n) [] = []
fire_from p (suc n) (m ∷ ms) = m ∷ fire_from p n ms
