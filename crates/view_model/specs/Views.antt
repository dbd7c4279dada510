-- A client's documents while simulations are open: the server's copy, which has what the server sent, and the view, which shows
-- simulated changes over it until the server's own are there (Meteor's guide, "Methods", "Optimistic UI", and its documentation
-- of `Meteor.call`: the writes of a stub are undone once those of the method have arrived).
use Rattle.std.specs.Prelude.{◌≡◌, ◌≢◌, ℕ, false, List, [], ◌∷◌, Option, Some, None, if◌then◌else◌}
use Rattle.std.specs.declared.cmp.Ordering.{Ordering}
use Rattle.std.specs.Map.{keys_of}
use Rattle.map_model.specs.Maps.{at, set, IsSorted}
use Rattle.map_model.specs.Differences.{Step, added, changed, removed}
use Rattle.view_model.specs.Pending.{Pending, is_held, held_by, let_go}

pub record View (K D : Type 0) : Type 0 where
  -- the server's copy, and what is shown
  pub server : List (K × D)
  pub view : List (K × D)
  pub pending : Pending K

abbrev pub no_documents : {K D : Type 0} → View K D
no_documents = record { server = []; view = []; pending = [] }

-- Why a message about a document is refused: 5 says that it is new where it is there, 6 that it changed and 7 that it is gone
-- where it isn't there (ours).
abbrev pub refusal : {N V : Type 0} → Option (List (N × V)) → Step N V → Option ℕ
refusal None (added d) = None
refusal (Some a) (added d) = Some 5
refusal None (changed fields names) = Some 6
refusal (Some a) (changed fields names) = None
refusal None removed = Some 7
refusal (Some a) removed = None

module _ {K D : Type 0} (R : K → K → Ordering) where
  -- the view with the server's document at a key that no simulation holds
  abbrev pub shown_at : List (K × D) → Pending K → List (K × D) → K → List (K × D)
  shown_at server pending view k = if is_held R pending k then view else set R view k (at R server k)

  abbrev pub shown : List (K × D) → Pending K → List (K × D) → List K → List (K × D)
  shown server pending view [] = view
  shown server pending view (k ∷ ks) = shown server pending (shown_at server pending view k) ks

  -- the server has this document now, or None
  abbrev pub told : K → Option D → View K D → View K D
  told k d s =
      let server = set R s.server k d in
      record { server = server; view = shown_at server s.pending s.view k; pending = s.pending }

  -- the simulation of this number makes this of the view, and holds these keys
  abbrev pub simulated : ℕ → List (K × D) → List K → View K D → View K D
  simulated n view keys s = record { server = s.server; view = view; pending = held_by R n keys s.pending }

  -- the simulations of these numbers are over: each document that no other one holds is the server's again
  abbrev pub released : List ℕ → View K D → View K D
  released ns s =
      let pending = let_go ns s.pending in
      record { server = s.server; view = shown s.server pending s.view (keys_of s.pending); pending = pending }

  -- The view has the server's document, or its absence, at each key that no open simulation holds.
  pub record IsView (s : View K D) : Type 0 where
    pub server : IsSorted R s.server
    pub view : IsSorted R s.view
    pub pending : IsSorted R s.pending
    pub holders : (k : K) → at R s.pending k ≢ Some []
    pub agrees : (k : K) → is_held R s.pending k ≡ false → at R s.view k ≡ at R s.server k
