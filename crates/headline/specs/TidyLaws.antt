-- Laws: In every world that events lead to, each client with its session is tidy.
use Rattle.std.specs.Prelude.{◌≡◌, ℕ, List, true, not, Option, Some, None, is_none, IfSome, refl}
use Rattle.std.proofs.Common.{ap, sym, subst, ◌∙◌}
use Rattle.std.proofs.lemmas.Bool.{and_parts, eq-eqb}
use Rattle.app_model.specs.App.{App}
use Rattle.headline.specs.history_model.declared.entry.Entry.{Entry}
use Rattle.headline.specs.session_model.Methods.{running, Blocking, is_blocked_by, phase_at}
use Rattle.headline.specs.session_model.State.{State, started}
use Rattle.headline.specs.session_model.Moments.{Moment, moment_at}
use Rattle.headline.specs.session_model.Kept.{AreKept}
use Rattle.headline.specs.session_journal_laws.Blocking.{BlocksLast}
use Rattle.headline.specs.session_journal_laws.BlockingLaws.{refused_blocks, last_from}
use Rattle.headline.specs.session_journal_laws.CountsLaws.{none_blocks}
use Rattle.headline.specs.world_model.Store.{programs, moments}
use Rattle.headline.specs.world_model.Conn.{Refusal, Conn, state_in}
use Rattle.headline.specs.world_model.World.{World, conn_of}
use Rattle.headline.specs.world_values_laws.Values.{HasValues}
use Rattle.headline.specs.world_values_laws_for_proofs.MomentValues.{moments_are_kept}
use Rattle.headline.specs.world_invariant_laws.Session.{IsRefusal}
use Rattle.headline.specs.world_invariant_laws.Begun.{Runs}
use Rattle.headline.specs.world_invariant_laws.Links.{IsLinked}
use Rattle.headline.specs.Clients.{AreCalm, IsTidy}
use Rattle.headline.specs.CalmLaws.{calm_first, calm_last, journal_calm}
use Rattle.headline.specs.Lowering.{AreTidy}
use Rattle.headline.specs.Tidy.{Stands}

refusal_blocks : (C : List Moment) (run : Runs) (kept : Option Refusal) (blocking : Option Blocking) → IsRefusal C run kept blocking →
    IfSome kept (λ (r : Refusal). is_blocked_by r.k blocking ≡ true)
refusal_blocks C run None blocking p = tt
refusal_blocks C run (Some r) blocking p = refused_blocks (moment_at C r.at) r.k blocking p.0

blocking_runs : (st : State) (o : Option Blocking) → st.blocking ≡ o → BlocksLast st → IfSome o (λ (b : Blocking). phase_at b.k st.methods ≡ Some running)
blocking_runs st None is l = tt
blocking_runs st (Some b) is l = (l b.k (ap (is_blocked_by b.k) is ∙ eq-eqb b.k b.k refl)).runs

unbroken : (o : Option ℕ) → is_none o ≡ true → o ≡ None
unbroken None e = refl
unbroken (Some n) e = cc e

pub linked_tidy : (app : App) (history : List Entry) (c : Conn) → IsLinked app history c → AreKept (moments app c.number history) → IsTidy c
linked_tidy app history c l kept =
    let fits = l.served.session.fits in
    record {
      kept = refusal_blocks (moments app c.number history) _ c.kept (state_in c).blocking l.served.refusal;
      runs = blocking_runs (state_in c) (state_in c).blocking refl (last_from app c.number (moments app c.number history) started c.items fits none_blocks);
      calm = λ able.
          let h = l.heard.heard (unbroken c.client.broken (and_parts (not c.client.is_failed) (is_none c.client.broken) able).1) in
          let all = journal_calm app c.number (moments app c.number history) c.items kept fits in
          let sent = calm_first c.sent c.outbox (subst AreCalm (sym l.served.session.texts) all) in
          calm_last h.taken c.downward (subst AreCalm (sym h.is) sent);
    }

pub stands_tidy : (first : App) (w : World) → HasValues (programs first) → Stands first w → AreTidy w
stands_tidy first w good l = record { sorted = l.numbered.order; tidy = λ name. by name (conn_of w name) refl }
  where
    values : HasValues (programs w.app)
    values = subst (λ (a : App). HasValues (programs a)) (sym l.history.same) good

    by : (name : List ℕ) (o : Option Conn) → conn_of w name ≡ o → IfSome o IsTidy
    by name None e = tt
    by name (Some c) e = linked_tidy w.app w.history c (l.all name c e) (moments_are_kept w.app c.number w.history values l.history.values)
