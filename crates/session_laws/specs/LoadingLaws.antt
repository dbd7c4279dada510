-- Laws: What becomes of subscriptions and their observers as one is loaded or goes on.
use Rattle.std.specs.Prelude.{◌≡◌, ℕ, ◌+◌, ◌==◌, nat_le, List, [], ◌∷◌, Bool, true, false, cond, ◌&&◌, Option, Some, None, is_none, refl}
use Rattle.std.proofs.Common.{ap, ap₂, subst, ◌∙◌}
use Rattle.publication.specs.Cursors.{ACursors}
use Rattle.sort_window.specs.Windows.{MovesState}
use Rattle.live_observer.specs.declared.watched.Watched.{Watched}
use Rattle.live_observer.specs.Observing.{AnObserver, APlan, cursors_of, StandsAt, carried_one, carried}
use Rattle.session_model.specs.Publication.{queried}
use Rattle.session_model.specs.Subscriptions.{Live, cursor_of, may_load, loaded, moved, advanced}
use Rattle.session_model.specs.Moments.{Moment, rows_at}
use Rattle.session_model.specs.Shown.{shown_at, shown_in}
use Rattle.session_model.specs.Observers.{observer_at, observers_with}
use Rattle.session_laws.specs.Meaning.{IsWatched, AreWatched}
use Rattle.session_laws.specs.Loading.{IsWatchingAt, cursors_in}

-- ---- what they show

-- to go on is to be loaded at the later place
pub advanced_is : (s from count : ℕ) (ls : List Live) → cursor_of s ls ≡ Some from → advanced s count ls ≡ loaded s (from + count) ls
advanced_is s from count [] e = refl
advanced_is s from count (l ∷ ls) e = elim (s == l.sub) as
    (λ b. cond b l.cursor (cursor_of s ls) ≡ Some from → cond b (record l { cursor = moved count l.cursor } ∷ ls) (l ∷ advanced s count ls)
    ≡ cond b (record l { cursor = Some (from + count) } ∷ ls) (l ∷ loaded s (from + count) ls)) [
      | true ↦ λ c. ap (λ (o : Option ℕ). record l { cursor = moved count o } ∷ ls) c
      | false ↦ λ c. ap (λ (xs : List Live). l ∷ xs) (advanced_is s from count ls c)
    ] e

module _ (C : List Moment) (s : ℕ) where
  pub shown_loaded : (place : ℕ) (ls : List Live) → shown_in C (loaded s place ls) s ≡ queried (cursors_in s ls) (rows_at C place)
  shown_loaded place [] = refl
  shown_loaded place (l ∷ ls) = elim (s == l.sub) as
      (λ b. s == l.sub ≡ b → shown_in C (cond b (record l { cursor = Some place } ∷ ls) (l ∷ loaded s place ls)) s
      ≡ queried (cond b l.cursors (cursors_in s ls)) (rows_at C place)) [
        | true ↦ λ is. ap (λ (b : Bool). cond b (queried l.cursors (rows_at C place)) (shown_in C ls s)) is
        | false ↦ λ is. ap (λ (b : Bool). cond b (shown_at C l.cursors l.cursor) (shown_in C (loaded s place ls) s)) is ∙ shown_loaded place ls
      ] refl

  pub shown_from : (from : ℕ) (ls : List Live) → cursor_of s ls ≡ Some from → shown_in C ls s ≡ queried (cursors_in s ls) (rows_at C from)
  shown_from from [] e = cc e
  shown_from from (l ∷ ls) e = elim (s == l.sub) as
      (λ b. cond b l.cursor (cursor_of s ls) ≡ Some from →
      cond b (shown_at C l.cursors l.cursor) (shown_in C ls s) ≡ queried (cond b l.cursors (cursors_in s ls)) (rows_at C from)) [
        | true ↦ λ c. ap (shown_at C l.cursors) c
        | false ↦ λ c. shown_from from ls c
      ] e

  pub shown_unloaded : (place : ℕ) (ls : List Live) → may_load s place ls ≡ true → shown_in C ls s ≡ []
  shown_unloaded place [] e = refl
  shown_unloaded place (l ∷ ls) e = elim (s == l.sub) as
      (λ b. cond b (is_none l.cursor && nat_le l.floor place) (may_load s place ls) ≡ true → cond b (shown_at C l.cursors l.cursor) (shown_in C ls s) ≡ []) [
        | true ↦ λ c. unloaded l.cursor c
        | false ↦ λ c. shown_unloaded place ls c
      ] e
    where
      unloaded : (c : Option ℕ) → (is_none c && nat_le l.floor place) ≡ true → shown_at C l.cursors c ≡ []
      unloaded None e = refl
      unloaded (Some n) e = cc e

-- ---- their observers

module _ (C : List Moment) (s : ℕ) where
  pub watching : (from : ℕ) (ls : List Live) (os : List (Option AnObserver)) → AreWatched C ls os → cursor_of s ls ≡ Some from →
      IsWatchingAt C (cursors_in s ls) from (observer_at s ls os)
  watching from [] os w e = cc e
  watching from (l ∷ ls) [] w e = absurd w
  watching from (l ∷ ls) (o ∷ os) w e = elim (s == l.sub) as
      (λ b. cond b l.cursor (cursor_of s ls) ≡ Some from → IsWatchingAt C (cond b l.cursors (cursors_in s ls)) from (cond b o (observer_at s ls os))) [
        | true ↦ λ c. one o (subst (λ (x : Option ℕ). IsWatched C l x o) c w.0)
        | false ↦ λ c. watching from ls os w.1 c
      ] e
    where
      one : (o : Option AnObserver) → IsWatched C l (Some from) o → IsWatchingAt C l.cursors from o
      one None v = v
      one (Some o) v = (v.cursors, v.stands)

  pub watched_loaded : (place : ℕ) (o : AnObserver) (ls : List Live) (os : List (Option AnObserver)) → AreWatched C ls os →
      cursors_of o ≡ cursors_in s ls → StandsAt o (rows_at C place) →
      AreWatched C (loaded s place ls) (observers_with s (Some o) ls os)
  watched_loaded place o [] os w same stands = w
  watched_loaded place o (l ∷ ls) [] w same stands = absurd w
  watched_loaded place o (l ∷ ls) (x ∷ os) w same stands =
      elim (s == l.sub) as
      (λ b. cursors_of o ≡ cond b l.cursors (cursors_in s ls) → AreWatched C (cond b (record l { cursor = Some place } ∷ ls) (l ∷ loaded s place ls))
      (cond b (Some o ∷ os) (x ∷ observers_with s (Some o) ls os))) [
        | true ↦ λ c. (record { cursors = c; stands = stands }, w.1)
        | false ↦ λ c. (w.0, watched_loaded place o ls os w.1 c stands)
      ] same

-- it has the one that it has
pub with_same : (s : ℕ) (ls : List Live) (os : List (Option AnObserver)) → observers_with s (observer_at s ls os) ls os ≡ os
with_same s [] os = refl
with_same s (l ∷ ls) [] = refl
with_same s (l ∷ ls) (o ∷ os) = elim (s == l.sub) as
    (λ b. s == l.sub ≡ b → cond b (cond b o (observer_at s ls os) ∷ os) (o ∷ observers_with s (cond b o (observer_at s ls os)) ls os) ≡ o ∷ os) [
      | true ↦ λ is. refl
      | false ↦ λ is. ap (λ (xs : List (Option AnObserver)). o ∷ xs) (with_same s ls os)
    ] refl

-- a plan leaves the cursors
same_cursor : (w : Watched) (moves : Option MovesState) → (carried_one w moves).cursor ≡ w.cursor
same_cursor w None = refl
same_cursor w (Some moves) = refl

pub same_cursors : (o : AnObserver) (plan : APlan) → cursors_of (carried o plan) ≡ cursors_of o
same_cursors [] plan = refl
same_cursors (w ∷ o) [] = refl
same_cursors (w ∷ o) (moves ∷ plan) = ap₂ (λ c (cs : ACursors). c ∷ cs) (same_cursor w moves) (same_cursors o plan)
