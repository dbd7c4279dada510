-- A beginning of a journal that fits is one that fits.
use Rattle.std.specs.Prelude.{ℕ, zero, suc, List, [], ◌∷◌, take}
use Rattle.app_model.specs.App.{App}
use Rattle.session_model.specs.Items.{Item}
use Rattle.session_model.specs.State.{State, started, after}
use Rattle.session_model.specs.Moments.{Moment}
use Rattle.session_model.specs.Fits.{FitsFrom, Fits}

fits_from-take : (app : App) (number : ℕ) (C : List Moment) (st : State) (n : ℕ) (items : List Item) → FitsFrom app number C st items →
    FitsFrom app number C st (take n items)
fits_from-take app number C st zero items f = tt
fits_from-take app number C st (suc n) [] f = tt
fits_from-take app number C st (suc n) (i ∷ items) f = (f.0, fits_from-take app number C (after st i) n items f.1)

pub beginnings_fit : (app : App) (number : ℕ) (C : List Moment) (items : List Item) → Fits app number C items → (n : ℕ) → Fits app number C (take n items)
beginnings_fit app number C items f n = fits_from-take app number C started n items f
