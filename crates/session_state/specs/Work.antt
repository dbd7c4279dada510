-- What is to be done for a session.
use Rattle.std.specs.Prelude.{ℕ, suc, List, [], ◌∷◌, ◌++◌, map, Bool, Option, Some, None, option_map, option_to_list, is_some, if◌then◌else◌}
use Rattle.std.specs.List.{list_any}
use Rattle.value_model.specs.Val.{Val}
use Rattle.publication.specs.Cursors.{ACursors}
use Rattle.session_model.specs.Subscriptions.{Live}
use Rattle.session_model.specs.Methods.{Phase, running, Method, Blocking}
use Rattle.session_model.specs.State.{State}
use Rattle.session_state.specs.declared.tasks.Work.{Work}
use Rattle.session_state.specs.declared.tasks.Place.{Place}
use Rattle.session_state.specs.declared.tasks.Feed.{Feed}
use Rattle.session_state.specs.Own.{as_blocking}

-- the publication of a subscription, by name and parameters
abbrev pub Source : Type 0
Source = List ℕ × List Val

pub record Tasks : Type 0 where
  -- the call that blocks
  pub call : Option Blocking
  -- the subscriptions that aren't loaded; those that are, each with the place that it shows, and what each is fed by, if anything but its own observer
  pub unloaded : List ℕ
  pub cursors : List (ℕ × ℕ)
  pub feeds : List (Option Source)
  -- the calls that run
  pub running : List ℕ

abbrev pub unloaded_by : Live → List ℕ
unloaded_by l = elim l.cursor as (λ c. List ℕ) [ None ↦ l.sub ∷ [] | Some place ↦ [] ]

abbrev pub unloaded_in : List Live → List ℕ
unloaded_in [] = []
unloaded_in (l ∷ ls) = unloaded_by l ++ unloaded_in ls

abbrev pub cursors_by : Live → List (ℕ × ℕ)
cursors_by l = option_to_list (option_map (λ (place : ℕ). (l.sub, place)) l.cursor)

abbrev pub cursors_in : List Live → List (ℕ × ℕ)
cursors_in [] = []
cursors_in (l ∷ ls) = cursors_by l ++ cursors_in ls

abbrev pub has_limit : ACursors → Bool
has_limit cursors = list_any (λ cursor. is_some cursor.limit) cursors

abbrev pub source_of : Live → Option Source
source_of l = if has_limit l.cursors then None else Some (l.name, l.params)

abbrev pub feeds_by : Live → List (Option Source)
feeds_by l = option_to_list (option_map (λ (place : ℕ). source_of l) l.cursor)

abbrev pub feeds_in : List Live → List (Option Source)
feeds_in [] = []
feeds_in (l ∷ ls) = feeds_by l ++ feeds_in ls

abbrev pub running_by : ℕ → Phase → List ℕ
running_by k running = k ∷ []
running_by k p = []

abbrev pub running_from : ℕ → List Method → List ℕ
running_from k [] = []
running_from k (m ∷ ms) = running_by k m.phase ++ running_from (suc k) ms

abbrev pub work_of : State → Tasks
work_of st = record {
  call = st.blocking;
  unloaded = unloaded_in st.subs;
  cursors = cursors_in st.subs;
  feeds = feeds_in st.subs;
  running = running_from 0 st.methods;
}

abbrev pub as_source : Feed → Source
as_source f = (f.name, f.params)

abbrev pub as_place : Place → ℕ × ℕ
as_place p = (p.sub, p.at)

abbrev pub as_work : Work → Tasks
as_work w = record {
  call = option_map as_blocking w.call;
  unloaded = w.unloaded.items;
  cursors = map as_place w.cursors.items;
  feeds = map (option_map as_source) w.feeds.items;
  running = w.running.items;
}
