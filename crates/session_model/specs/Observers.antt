-- What observes the live subscriptions, one for each, in their order; None until a subscription is loaded.
use Rattle.std.specs.Prelude.{ℕ, ◌==◌, List, [], ◌∷◌, Option, None, option_map, if◌then◌else◌}
use Rattle.session_model.specs.Subscriptions.{Live}

-- those that stay once the subscriptions with a number are closed
abbrev pub observers_without : {A : Type 0} → ℕ → List Live → List (Option A) → List (Option A)
observers_without s [] os = []
observers_without s (l ∷ ls) [] = []
observers_without s (l ∷ ls) (o ∷ os) = if s == l.sub then observers_without s ls os else o ∷ observers_without s ls os

-- that of the first subscription with a number
abbrev pub observer_at : {A : Type 0} → ℕ → List Live → List (Option A) → Option A
observer_at s [] os = None
observer_at s (l ∷ ls) [] = None
observer_at s (l ∷ ls) (o ∷ os) = if s == l.sub then o else observer_at s ls os

-- it has this one
abbrev pub observers_with : {A : Type 0} → ℕ → Option A → List Live → List (Option A) → List (Option A)
observers_with s new [] os = os
observers_with s new (l ∷ ls) [] = []
observers_with s new (l ∷ ls) (o ∷ os) = if s == l.sub then new ∷ os else o ∷ observers_with s new ls os

-- it is changed so
abbrev pub observers_changed : {A : Type 0} → ℕ → (A → A) → List Live → List (Option A) → List (Option A)
observers_changed s change ls os = observers_with s (option_map change (observer_at s ls os)) ls os
