-- Laws: The headline holds of every world that events lead to, for an application that is made of values.
use Rattle.std.specs.Prelude.{◌≡◌, ℕ, List, [], ◌∷◌, Option, Some, None, IfSome, refl}
use Rattle.std.proofs.Common.{sym, subst}
use Rattle.app_model.specs.App.{App}
use Rattle.world_invariant_laws.specs.history_model.declared.entry.Entry.TheVariants as entry
use Rattle.world_values_laws.specs.Values.{HasValues}
use Rattle.world_values_laws.specs.MomentValues.{moments_are_kept}
use Rattle.world_invariant_laws.specs.world_model.declared.events.Event.{Event}
use Rattle.world_invariant_laws.specs.world_model.Store.{programs}
use Rattle.world_invariant_laws.specs.world_model.Conn.{Conn}
use Rattle.world_invariant_laws.specs.world_model.World.{World, start, conn_of}
use Rattle.world_invariant_laws.specs.world_model.Events.{run, AreEvents}
use Rattle.world_invariant_laws.specs.world_model.Headline.{IsTrueSession, IsQuiescent, IsWhole, IsTrueWorld}
use Rattle.world_invariant_laws.specs.Lift.{IsKept, Holds, every_world}
use Rattle.world_invariant_laws.specs.Links.{IsLinked}
use Rattle.world_invariant_laws.specs.LinksLaws.{links_kept}
use Rattle.world_invariant_laws.specs.Sessions.{session_is_true}
use Rattle.world_invariant_laws.specs.Whole.{quiescent_is_whole}
use Rattle.headline.specs.ValuesLaws.{entries_more, act_valued}
use Rattle.headline.specs.Worlds.{IsSound}

pub sound_kept : (first : App) → IsKept (IsSound first) IsLinked
sound_kept first = record {
  new = links_kept.new;
  entered = λ app h c a may s p.
      record { same = s.same; legal = links_kept.entered app h c a may s.legal p; values = entries_more h _ s.values (act_valued app h c a p.served) };
  acts = links_kept.acts;
  longer = links_kept.longer;
  asks = links_kept.asks;
  operations = λ w op good is s. record {
    same = s.same;
    legal = links_kept.operations w op good is s.legal;
    values = entries_more w.history (entry.Admin op ∷ []) s.values (good, tt);
  };
}

true_world : (first : App) (w : World) → HasValues (programs first) → Holds (IsSound first) IsLinked (sound_kept first) w → IsTrueWorld w
true_world first w good l =
    record { legal = l.history.legal; sessions = λ name. each name (conn_of w name) refl; whole = λ name. by name (conn_of w name) refl }
  where
    values : HasValues (programs w.app)
    values = subst (λ (a : App). HasValues (programs a)) (sym l.history.same) good

    each : (name : List ℕ) (o : Option Conn) → conn_of w name ≡ o → IfSome o (IsTrueSession w.app w.history)
    each name None e = tt
    each name (Some c) e = session_is_true w.app w.history c (l.all name c e)

    by : (name : List ℕ) (o : Option Conn) → conn_of w name ≡ o → IfSome o (λ (c : Conn). IsQuiescent w.history c → IsWhole w.app w.history c)
    by name None e = tt
    by name (Some c) e = λ q. quiescent_is_whole w.app w.history c (l.all name c e) q (moments_are_kept w.app c.number w.history values l.history.values)

pub worlds_hold : (app : App) (events : List Event) → AreEvents events → Holds (IsSound app) IsLinked (sound_kept app) (run (start app) events)
worlds_hold app events good = every_world (IsSound app) IsLinked (sound_kept app) app events good (record { same = refl; legal = tt; values = tt })

pub worlds_are_true : (app : App) (events : List Event) → HasValues (programs app) → AreEvents events → IsTrueWorld (run (start app) events)
worlds_are_true app events values good = true_world app (run (start app) events) values (worlds_hold app events good)
