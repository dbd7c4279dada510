-- A new session stands for no texts, and later moments of the store keep what a session stands for.
use Rattle.std.specs.Prelude.{ℕ, List, [], ◌∷◌, ◌++◌, length, Option, Some, None, refl}
use Rattle.std.proofs.Common.{ap, sym, subst}
use Rattle.app_model.specs.App.{App}
use Rattle.live_observer.specs.Observing.{AnObserver, StandsAt}
use Rattle.session_model.specs.Subscriptions.{Live}
use Rattle.session_model.specs.State.{State, started}
use Rattle.session_model.specs.Moments.{Moment, rows_of}
use Rattle.session_journal_laws.specs.Shows.{AreInOrder}
use Rattle.session_journal_laws.specs.Longer.{IsPlace, AreWithin}
use Rattle.session_journal_laws.specs.LongerLaws.{within_from, moment_at-longer}
use Rattle.session_journal_laws.specs.Stands.{items_of}
use Rattle.session_journal_laws.specs.RelationKeeping.{new_stands, longer_stands}
use Rattle.session_laws.specs.Session.{ASession, new_session}
use Rattle.session_laws.specs.Meaning.{IsWatched, AreWatched, Means}

pub new_means : (app : App) (number : ℕ) (C : List Moment) → AreInOrder C → Means [] C [] (new_session app number)
new_means app number C order = record { order = order; stands = new_stands app number C; ids = refl; from = tt; connected = tt; watched = tt }

module _ (C more : List Moment) where
  watched_longer : (ls : List Live) (os : List (Option AnObserver)) → AreWithin (length C) ls → AreWatched C ls os → AreWatched (C ++ more) ls os
  watched_longer [] [] p w = tt
  watched_longer [] (o ∷ os) p w = absurd w
  watched_longer (l ∷ ls) [] p w = absurd w
  watched_longer (l ∷ ls) (o ∷ os) p w = (one l.cursor o p.0 w.0, watched_longer ls os p.1 w.1)
    where
      one : (c : Option ℕ) (x : Option AnObserver) → IsPlace (length C) c → IsWatched C l c x → IsWatched (C ++ more) l c x
      one None x q v = v
      one (Some place) None q v = absurd v
      one (Some place) (Some observer) q v =
          record { cursors = v.cursors; stands = subst (StandsAt observer) (sym (ap rows_of (moment_at-longer C more place q))) v.stands }

pub longer_means : (taken : List (List ℕ)) (C more : List Moment) (sent : List (List ℕ)) (s : ASession) → AreInOrder (C ++ more) →
    Means taken C sent s → Means taken (C ++ more) sent s
longer_means taken C more sent s order m =
    let items = items_of taken s.carried in
    let within : AreWithin (length C) s.carried.own.subs = subst (λ (st : State). AreWithin (length C) st.subs) (sym m.stands.own)
    (within_from s.carried.app s.carried.number C started items m.stands.fits tt) in
    record {
      order = order;
      stands = longer_stands taken C more sent s.carried m.stands;
      ids = m.ids;
      from = m.from;
      connected = m.connected;
      watched = watched_longer C more s.carried.own.subs s.observers within m.watched;
    }
