-- A client at rest that is modest is quiescent with its session.
use Rattle.std.specs.Prelude.{◌≡◌, List, Bool, true, false, Option, Some, None, IfSome}
use Rattle.std.proofs.Common.{sym, ◌∙◌, arith, inl, inr}
use Rattle.app_model.specs.App.{App}
use Rattle.headline.specs.history_model.declared.entry.Entry.{Entry}
use Rattle.headline.specs.world_values_laws.Values.{HasValues}
use Rattle.headline.specs.world_model.declared.events.Event.{Event}
use Rattle.headline.specs.world_model.declared.events.Event.TheVariants as event
use Rattle.headline.specs.world_model.Store.{programs}
use Rattle.headline.specs.world_model.Conn.{Conn}
use Rattle.headline.specs.world_model.World.{World, start, conn_of}
use Rattle.headline.specs.world_model.Settle.{settled}
use Rattle.headline.specs.world_model.Events.{run, AreEvents}
use Rattle.headline.specs.world_model.Headline.{IsQuiescent, IsLongAlone, HaveLongAlone, IsAtRest, AreAtRest, IsModest, AreModestQuiescent}
use Rattle.headline.specs.world_invariant_laws.Lift.{step_holds}
use Rattle.headline.specs.Worlds.{IsSound}
use Rattle.headline.specs.PoliteWorlds.{IsKnownPolite}
use Rattle.headline.specs.PoliteWorldsLaws.{polite_kept, worlds_are_polite, have_long_alone}
use Rattle.headline.specs.AtRest.{settled_worlds_rest}

not_both : {b : Bool} → b ≡ true → b ≡ false → ⊥
not_both e f = let differ : true ≡ false = sym e ∙ f in cc differ

-- what is at rest is quiescent where nothing else is left
modest_rests : (h : List Entry) (c : Conn) → (c.made_raw ≡ false → IsLongAlone c) → IsAtRest h c → IsModest h c → IsQuiescent h c
modest_rests h c long (inl q) m = q
modest_rests h c long (inr (inl raw)) m = absurd (not_both raw m.asked)
modest_rests h c long (inr (inr (inl bad))) m = absurd (not_both bad m.read)
modest_rests h c long (inr (inr (inr (inl broken)))) m = by (long m.asked)
  where
    by : IsLongAlone c → IsQuiescent h c
    by (inl whole) = let differ : None ≡ Some 1 = sym whole.0 ∙ broken in absurd (cc differ)
    by (inr one) = absurd (not_both one.1 m.taken)
modest_rests h c long (inr (inr (inr (inr filled)))) m = absurd (omega (arith, filled.many, m.few))

pub modest_are_quiescent : (w : World) → HaveLongAlone w → AreAtRest w → AreModestQuiescent w
modest_are_quiescent w long rest name = by (conn_of w name) (long name) (rest name)
  where
    by : (o : Option Conn) → IfSome o (λ (c : Conn). c.made_raw ≡ false → IsLongAlone c) →
        IfSome o (λ (c : Conn). c.is_dropped ≡ false → IsAtRest w.history c) →
        IfSome o (λ (c : Conn). c.is_dropped ≡ false → IsModest w.history c → IsQuiescent w.history c)
    by None l r = tt
    by (Some c) l r = λ there m. modest_rests w.history c l (r there) m

pub settled_modest_are_quiescent : (app : App) (events : List Event) → HasValues (programs app) → AreEvents events →
    AreModestQuiescent (settled (run (start app) events))
settled_modest_are_quiescent app events good all =
    let w = run (start app) events in
    let stands = step_holds (IsSound app) IsKnownPolite (polite_kept app) w event.Settle tt (worlds_are_polite app events all) in
    modest_are_quiescent (settled w) (have_long_alone app (settled w) good stands) (settled_worlds_rest app events good all)
