-- What a subscription's observer tells of changes.
use Rattle.std.specs.Prelude.{ℕ, List, Option, None, Some}
use Rattle.ejson_value.specs.declared.change.Change.{Change}
use Rattle.ejson_value.specs.declared.change.Publish.{Publish}
use Rattle.session_core.specs.live_observer.Observing.{AnObserver, APlan, IsPlanOf, carried}
use Rattle.session_core.specs.session_model.Subscriptions.{Live}
use Rattle.session_core.specs.session_model.Observers.{observers_changed}
use Rattle.session_core.specs.session_laws.Events.{Tells}

-- where there is an observer, it tells these news of the changes, and the plan is its own
abbrev pub IsObserved : Option AnObserver → List Change → List Publish → Option APlan → Type 0
IsObserved None changes news None = Unit {0}
IsObserved None changes news (Some plan) = ⊥
IsObserved (Some o) changes news None = ⊥
IsObserved (Some o) changes news (Some plan) = IsPlanOf o plan × Tells changes news plan o

-- the observers once the plan of a subscription's is carried out
abbrev pub committed : ℕ → Option APlan → List Live → List (Option AnObserver) → List (Option AnObserver)
committed sub None ls os = os
committed sub (Some plan) ls os = observers_changed sub (λ (o : AnObserver). carried o plan) ls os
