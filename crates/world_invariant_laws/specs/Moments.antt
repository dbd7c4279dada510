-- What a session sees of a history, place by place.
use Rattle.std.specs.Prelude.{◌≡◌, ℕ, zero, suc, ◌≤◌, List, [], ◌∷◌, ◌++◌, length, take, Some, option_and_then, refl}
use Rattle.std.proofs.Common.{ap, ◌∙◌, arith}
use Rattle.std.proofs.Math.Seq.{take-length}
use Rattle.map_model.specs.Maps.{IsSorted}
use Rattle.map_model.specs.MapLaws.{sorted-nil}
use Rattle.ejson_value.specs.Key.{key_cmp}
use Rattle.program_steps.specs.declared.outcome.Status.{Status}
use Rattle.program_steps.specs.Runs.{End}
use Rattle.app_model.specs.App.{App}
use Rattle.world_model.specs.history_model.declared.entry.Entry.{Entry}
use Rattle.world_model.specs.history_model.History.{Held, nothing, carried, held_from, held, held_at, status_at}
use Rattle.world_model.specs.history_model.HistoryLaws.{sorted_carried}
use Rattle.world_model.specs.session_model.Moments.{moment_at, rows_of, run_of, rows_at, run_at, end_at}
use Rattle.session_journal_laws.specs.Shows.{AreInOrder}
use Rattle.world_model.specs.Store.{programs, moment_of, moments_from, moments}

module _ (app : App) (number : ℕ) where
  from_length : (h : Held) (es : List Entry) → length (moments_from app number h es) ≡ suc (length es)
  from_length h [] = refl
  from_length h (e ∷ es) = ap suc (from_length (carried (programs app) h e) es)

  -- there is one moment more than entries
  pub moments_length : (history : List Entry) → length (moments app number history) ≡ suc (length history)
  moments_length history = from_length nothing history

  at_from : (h : Held) (es : List Entry) (place : ℕ) → place ≤ length es →
      moment_at (moments_from app number h es) place ≡ Some (moment_of app number (held_from (programs app) h (take place es)))
  at_from h [] zero le = refl
  at_from h [] (suc place) le = absurd (omega (arith, le))
  at_from h (e ∷ es) zero le = refl
  at_from h (e ∷ es) (suc place) le = at_from (carried (programs app) h e) es place (omega (arith, le))

  -- a moment is what the entries up to its place lead to
  pub moment_there : (history : List Entry) (place : ℕ) → place ≤ length history →
      moment_at (moments app number history) place ≡ Some (moment_of app number (held_at (programs app) history place))
  moment_there history place le = at_from nothing history place le

  from-append : (h : Held) (es : List Entry) (e : Entry) →
      moments_from app number h (es ++ e ∷ []) ≡ moments_from app number h es ++ moment_of app number (held_from (programs app) h (es ++ e ∷ [])) ∷ []
  from-append h [] e = refl
  from-append h (x ∷ es) e = ap (λ ms. moment_of app number h ∷ ms) (from-append (carried (programs app) h x) es e)

  -- one entry more is one moment more
  pub moments-append : (history : List Entry) (e : Entry) →
      moments app number (history ++ e ∷ []) ≡ moments app number history ++ moment_of app number (held (programs app) (history ++ e ∷ [])) ∷ []
  moments-append history e = from-append nothing history e

  pub run_there : (history : List Entry) (place k : ℕ) → place ≤ length history →
      run_at (moments app number history) place k ≡ status_at (programs app) history place number k
  run_there history place k le = ap (run_of k) (moment_there history place le)

  pub end_there : (history : List Entry) (place k : ℕ) (status : Status) (end : End) → place ≤ length history →
      status_at (programs app) history place number k ≡ Some status → status.ended ≡ Some end →
      end_at (moments app number history) place k ≡ Some end
  end_there history place k status end le is ended = ap (option_and_then (λ (s : Status). s.ended)) (run_there history place k le ∙ is) ∙ ended

  -- at its end
  pub moment_now : (history : List Entry) → moment_at (moments app number history) (length history) ≡ Some (moment_of app number (held (programs app) history))
  moment_now history = moment_there history (length history) (omega arith)
      ∙ ap (λ es. Some (moment_of app number (held (programs app) es))) (take-length history)

  pub rows_now : (history : List Entry) → rows_at (moments app number history) (length history) ≡ (held (programs app) history).rows
  rows_now history = ap rows_of (moment_now history)

  in_order_from : (h : Held) (es : List Entry) (place : ℕ) → IsSorted key_cmp h.rows → IsSorted key_cmp (rows_at (moments_from app number h es) place)
  in_order_from h [] zero sorted = sorted
  in_order_from h [] (suc place) sorted = sorted-nil key_cmp
  in_order_from h (e ∷ es) zero sorted = sorted
  in_order_from h (e ∷ es) (suc place) sorted = in_order_from (carried (programs app) h e) es place (sorted_carried (programs app) h e sorted)

  -- the documents of each moment are by rising key
  pub moments_in_order : (history : List Entry) → AreInOrder (moments app number history)
  moments_in_order history place = in_order_from nothing history place (sorted-nil key_cmp)
