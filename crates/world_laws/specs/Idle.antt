-- A client has nothing to do where no act of any of its phases can be made.
use Rattle.std.specs.Prelude.{◌≡◌, List, [], ◌∷◌, map, Bool, true, ◌&&◌, refl}
use Rattle.std.proofs.Common.{ap, ◌∙◌}
use Rattle.std.proofs.lemmas.Bool.{and_parts}
use Rattle.app_model.specs.App.{App}
use Rattle.rounds_model.specs.Rounds.{none_of, none_in}
use Rattle.headline.specs.world_model.Settle.{Phase, ups, recvs, handles, begins, steps, learns, loadings, advancings, sendings, takings, order}
use Rattle.world_rounds_laws.specs.Visits.{Side, can_on, phase_on, is_idle}

module _ (app : App) (x : Side) where
  abbrev none : Phase → Bool
  none p = none_of (can_on app) (phase_on app p x) x

  all_of : ((p : Phase) → none p ≡ true) → (ps : List Phase) → none_in (can_on app) (map (phase_on app) ps) x ≡ true
  all_of each [] = refl
  all_of each (p ∷ ps) = ap (λ b. b && none_in (can_on app) (map (phase_on app) ps) x) (each p) ∙ all_of each ps

  pub idle_from : ((p : Phase) → none p ≡ true) → is_idle app x ≡ true
  idle_from each = all_of each order

  behind : (p : Phase) (ps : List Phase) → none_in (can_on app) (map (phase_on app) (p ∷ ps)) x ≡ true →
      (none p ≡ true) × (none_in (can_on app) (map (phase_on app) ps) x ≡ true)
  behind p ps e = and_parts (none p) (none_in (can_on app) (map (phase_on app) ps) x) e

  pub steps_idle : is_idle app x ≡ true → none steps ≡ true
  steps_idle e =
      let one = behind ups (recvs ∷ handles ∷ begins ∷ steps ∷ learns ∷ loadings ∷ advancings ∷ sendings ∷ takings ∷ []) e in
      let two = behind recvs (handles ∷ begins ∷ steps ∷ learns ∷ loadings ∷ advancings ∷ sendings ∷ takings ∷ []) one.1 in
      let three = behind handles (begins ∷ steps ∷ learns ∷ loadings ∷ advancings ∷ sendings ∷ takings ∷ []) two.1 in
      let four = behind begins (steps ∷ learns ∷ loadings ∷ advancings ∷ sendings ∷ takings ∷ []) three.1 in
      (behind steps (learns ∷ loadings ∷ advancings ∷ sendings ∷ takings ∷ []) four.1).0
