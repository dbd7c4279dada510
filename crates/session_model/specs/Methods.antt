-- The calls of methods that a session handles, by number, and how far each is (Meteor's DDP.md, "Remote procedure calls").
use Rattle.std.specs.Prelude.{ℕ, zero, suc, ◌==◌, List, [], ◌∷◌, ◌++◌, map, Bool, false, Option, Some, None, if◌then◌else◌}
use Rattle.value_model.specs.Val.{Val}
use Rattle.session_model.specs.Subscriptions.{Live, is_open}

-- A call runs until it is refused, or has finished with an end at some place of the history. From then on it waits for the documents: it is told
-- to be `updated` once each live subscription shows at least what the history was at that place.
pub data Phase : Type 0 where
  running : Phase
  refused : Phase
  finished : ℕ → Phase
  told : ℕ → Phase

pub record Method : Type 0 where
  pub id : List ℕ
  pub phase : Phase

-- the call that blocks: no further message is handled until it is refused, or unblocks, or finishes
pub record Blocking : Type 0 where
  pub k : ℕ
  pub method : List ℕ
  pub params : List Val
  pub seed : Val

-- the call k blocks
abbrev pub is_blocked_by : ℕ → Option Blocking → Bool
is_blocked_by k None = false
is_blocked_by k (Some b) = k == b.k

-- what still blocks once k doesn't
abbrev pub freed : ℕ → Option Blocking → Option Blocking
freed k b = if is_blocked_by k b then None else b

abbrev pub phase_at : ℕ → List Method → Option Phase
phase_at k [] = None
phase_at zero (m ∷ ms) = Some m.phase
phase_at (suc k) (m ∷ ms) = phase_at k ms

-- the id of the call k
abbrev pub id_at : ℕ → List Method → List (List ℕ)
id_at k [] = []
id_at zero (m ∷ ms) = m.id ∷ []
id_at (suc k) (m ∷ ms) = id_at k ms

abbrev pub turned : ℕ → Phase → List Method → List Method
turned k p [] = []
turned zero p (m ∷ ms) = record m { phase = p } ∷ ms
turned (suc k) p (m ∷ ms) = m ∷ turned k p ms

-- ---- fences

-- a finished call whose fence is open is told
abbrev pub fired : List Live → Phase → Phase
fired ls (finished place) = if is_open place ls then told place else finished place
fired ls p = p

abbrev pub fire : List Live → List Method → List Method
fire ls ms = map (λ (m : Method). record m { phase = fired ls m.phase }) ms

abbrev pub told_now : List Live → List ℕ → Phase → List (List ℕ)
told_now ls id (finished place) = if is_open place ls then id ∷ [] else []
told_now ls id p = []

-- the ids of the finished calls whose fences are open, by rising number
abbrev pub all_told : List Live → List Method → List (List ℕ)
all_told ls [] = []
all_told ls (m ∷ ms) = told_now ls m.id m.phase ++ all_told ls ms
