-- Laws: No place that a subscription may not show less than is behind the moments that the journal was made over.
use Rattle.std.specs.Prelude.{◌≡◌, ℕ, zero, suc, ◌+◌, ◌<◌, ◌≤◌, ◌==◌, List, [], ◌∷◌, ◌++◌, length, true, false, cond, not, Option, None, Some}
use Rattle.std.specs.Prelude.{option_and_then, refl}
use Rattle.std.proofs.Common.{arith}
use Rattle.app_model.specs.App.{App}
use Rattle.program_steps.specs.declared.outcome.Status.{Status}
use Rattle.program_steps.specs.Runs.{End}
use Rattle.session_model.specs.Items.{Item}
use Rattle.session_model.specs.Items as item
use Rattle.session_model.specs.Subscriptions.{Live, cursor_of, loaded, moved, advanced, closed}
use Rattle.session_model.specs.State.{State, or_zero, opening, after, state_from}
use Rattle.session_model.specs.Moments.{Moment, moment_at, run_of, end_at}
use Rattle.session_model.specs.Fits.{MayAdvance, CanFollow, FitsFrom}
use Rattle.shared_session.specs.Reached.{AreReached, HaveReached}

-- ---- subscriptions

reached_more : (n : ℕ) (ls : List Live) (l : Live) → AreReached n ls → l.floor ≤ n → AreReached n (ls ++ l ∷ [])
reached_more n [] l r le = (le, tt)
reached_more n (x ∷ ls) l r le = (r.0, reached_more n ls l r.1 le)

reached_loaded : (n s place : ℕ) (ls : List Live) → AreReached n ls → AreReached n (loaded s place ls)
reached_loaded n s place [] r = tt
reached_loaded n s place (l ∷ ls) r =
    elim (s == l.sub) as
    (λ b. AreReached n (cond b (record l { cursor = Some place } ∷ ls) (l ∷ loaded s place ls))) [ true ↦ r | false ↦ (r.0, reached_loaded n s place ls r.1) ]

reached_advanced : (n s count : ℕ) (ls : List Live) → AreReached n ls → AreReached n (advanced s count ls)
reached_advanced n s count [] r = tt
reached_advanced n s count (l ∷ ls) r =
    elim (s == l.sub) as
    (λ b. AreReached n (cond b (record l { cursor = moved count l.cursor } ∷ ls) (l ∷ advanced s count ls)))
    [ true ↦ r | false ↦ (r.0, reached_advanced n s count ls r.1) ]

reached_closed : (n s : ℕ) (ls : List Live) → AreReached n ls → AreReached n (closed s ls)
reached_closed n s [] r = tt
reached_closed n s (l ∷ ls) r = elim (s == l.sub) as
    (λ b. AreReached n (cond (not b) (l ∷ closed s ls) (closed s ls))) [ true ↦ reached_closed n s ls r.1 | false ↦ (r.0, reached_closed n s ls r.1) ]

-- ---- moments that are there

below : (C : List Moment) (place : ℕ) (m : Moment) → moment_at C place ≡ Some m → place < length C
below [] place m e = cc e
below (x ∷ C) zero m e = omega arith
below (x ∷ C) (suc place) m e = omega (arith, below C place m e)

ended_below : (C : List Moment) (place k : ℕ) (end : End) → end_at C place k ≡ Some end → place < length C
ended_below C place k end e =
    elim (moment_at C place) as
    (λ (o : Option Moment). moment_at C place ≡ o → option_and_then (λ (s : Status). s.ended) (run_of k o) ≡ Some end → place < length C) [
      | None ↦ λ is has. cc has
      | Some m ↦ λ is has. below C place m is
    ] refl e

advanced_to : (moments count : ℕ) (o : Option ℕ) → MayAdvance moments count o → or_zero o + count < moments
advanced_to moments count None may = absurd may
advanced_to moments count (Some place) may = may.1

-- ---- items

module _ (app : App) (number : ℕ) (C : List Moment) (n : ℕ) (many : length C ≡ suc n) where
  reached_after : (st : State) (i : Item) → CanFollow app number C st i → HaveReached n st → HaveReached n (after st i)
  reached_after st (item.subscribe s message cursors) f w = (w.0, reached_more n st.subs (opening st s message cursors) w.1 w.0)
  reached_after st (item.load s place) f w = (let less = f.1 in omega (arith, w.0, less, many), reached_loaded n s place st.subs w.1)
  reached_after st (item.advance s count) f w =
      (let less = advanced_to (length C) count (cursor_of s st.subs) f in omega (arith, w.0, less, many), reached_advanced n s count st.subs w.1)
  reached_after st (item.close s message) f w = (w.0, reached_closed n s st.subs w.1)
  reached_after st (item.finished k place) f w = (let h = f.1 in let less = ended_below C place k h.end h.is in omega (arith, w.0, less, many), w.1)
  reached_after st i f w = w

  pub reached_from : (st : State) (items : List Item) → FitsFrom app number C st items → HaveReached n st → HaveReached n (state_from st items)
  reached_from st [] f w = w
  reached_from st (i ∷ items) f w = reached_from (after st i) items f.1 (reached_after st i f.0 w)
