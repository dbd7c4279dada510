-- The moments of a history: one before its first entry, and one after each.
use Rattle.std.specs.Prelude.{◌≡◌, ℕ, zero, suc, ◌≤◌, ◌<◌, List, [], ◌∷◌, ◌++◌, length, take, Some, None, refl}
use Rattle.std.proofs.Common.{ap, arith}
use Rattle.value_model.specs.Val.{Val, null, boolean, int, text, date, bytes, list, object, user}
use Rattle.value_model.specs.ValLaws.{vals_of-list_of, fields_of-entries_of}
use Rattle.ejson_value.specs.View.{view}
use Rattle.app_model.specs.App.{App}
use Rattle.history_model.specs.declared.entry.Entry.{Entry}
use Rattle.history_model.specs.History.{Held, nothing, carried, held_from, held_at}
use Rattle.session_model.specs.Moments.{Moment, moment_at}
use Rattle.world_model.specs.Store.{programs, held_in, moment_of, moments_from, moments, value_of}

-- ---- how many

from_many : (app : App) (n : ℕ) (h : Held) (es : List Entry) → length (moments_from app n h es) ≡ suc (length es)
from_many app n h [] = refl
from_many app n h (e ∷ es) = ap suc (from_many app n (carried (programs app) h e) es)

pub moments_many : (app : App) (n : ℕ) (history : List Entry) → length (moments app n history) ≡ suc (length history)
moments_many app n history = from_many app n nothing history

-- ---- which

from_at : (app : App) (n : ℕ) (h : Held) (es : List Entry) (place : ℕ) → place ≤ length es →
    moment_at (moments_from app n h es) place ≡ Some (moment_of app n (held_from (programs app) h (take place es)))
from_at app n h [] zero le = refl
from_at app n h [] (suc place) le = absurd (omega (arith, le))
from_at app n h (e ∷ es) zero le = refl
from_at app n h (e ∷ es) (suc place) le = from_at app n (carried (programs app) h e) es place (omega (arith, le))

-- the moment of each place of the history
pub moments_at : (app : App) (n : ℕ) (history : List Entry) (place : ℕ) → place ≤ length history →
    moment_at (moments app n history) place ≡ Some (moment_of app n (held_at (programs app) history place))
moments_at app n history place le = from_at app n nothing history place le

-- and of no other
from_past : (app : App) (n : ℕ) (h : Held) (es : List Entry) (place : ℕ) → length es < place → moment_at (moments_from app n h es) place ≡ None
from_past app n h es zero less = absurd (omega (arith, less))
from_past app n h [] (suc place) less = refl
from_past app n h (e ∷ es) (suc place) less = from_past app n (carried (programs app) h e) es place (omega (arith, less))

pub moments_past : (app : App) (n : ℕ) (history : List Entry) (place : ℕ) → length history < place → moment_at (moments app n history) place ≡ None
moments_past app n history place less = from_past app n nothing history place less

-- ---- longer histories

-- the moments of entries that are made behind others
abbrev pub later_moments : App → ℕ → Held → List Entry → List Moment
later_moments app n h [] = []
later_moments app n h (e ∷ es) = let next = carried (programs app) h e in moment_of app n next ∷ later_moments app n next es

from_is : (app : App) (n : ℕ) (h : Held) (es : List Entry) → moments_from app n h es ≡ moment_of app n h ∷ later_moments app n h es
from_is app n h [] = refl
from_is app n h (e ∷ es) = ap (λ (C : List Moment). moment_of app n h ∷ C) (from_is app n (carried (programs app) h e) es)

from_append : (app : App) (n : ℕ) (h : Held) (es more : List Entry) →
    moments_from app n h (es ++ more) ≡ moments_from app n h es ++ later_moments app n (held_from (programs app) h es) more
from_append app n h [] more = from_is app n h more
from_append app n h (e ∷ es) more = ap (λ (C : List Moment). moment_of app n h ∷ C) (from_append app n (carried (programs app) h e) es more)

-- a longer history has the moments of the shorter one first
pub moments-append : (app : App) (n : ℕ) (history more : List Entry) →
    moments app n (history ++ more) ≡ moments app n history ++ later_moments app n (held_in app history) more
moments-append app n history more = from_append app n nothing history more

-- ---- values

-- a value is known by what contracts see of it
pub view-value_of : (v : Val) → view (value_of v) ≡ v
view-value_of null = refl
view-value_of (boolean b) = refl
view-value_of (int z) = refl
view-value_of (text s) = refl
view-value_of (date z) = refl
view-value_of (bytes s) = refl
view-value_of (list vs) = ap list (vals_of-list_of vs)
view-value_of (object fs) = ap object (fields_of-entries_of fs)
view-value_of (user name v) = refl
