-- Every session is true to the history, at work or at rest.
use Rattle.std.specs.Prelude.{◌≡◌, ◌++◌, List, [], ◌∷◌, map, Bool, true, false, cond, Option, Some, None, is_some, refl}
use Rattle.std.proofs.Common.{ap, sym, ◌∙◌, append-nil, inl, inr}
use Rattle.app_model.specs.App.{App}
use Rattle.world_model.specs.history_model.declared.entry.Entry.{Entry}
use Rattle.world_model.specs.session_model.Methods.{Blocking}
use Rattle.world_model.specs.session_model.Moments.{Moment}
use Rattle.world_model.specs.session_model.Fits.{Fits}
use Rattle.session_journal_laws.specs.Beginnings.{beginnings_fit}
use Rattle.session_journal_laws.specs.OrderLaws.{results_come_first}
use Rattle.session_journal_laws.specs.Reflecting.{updated_is_reflected}
use Rattle.session_journal_laws.specs.ReplyingLaws.{requests_are_answered}
use Rattle.session_journal_laws.specs.LengthsLaws.{journals_are_short}
use Rattle.world_model.specs.Store.{moments}
use Rattle.world_model.specs.StoreLaws.{moments_many}
use Rattle.world_model.specs.Conn.{Waiting, Conn, state_in}
use Rattle.world_model.specs.Headline.{begun_in, standing, IsOnce, IsAnswering, IsTrueSession}
use Rattle.world_invariant_laws.specs.Begun.{runs_of, unrun}
use Rattle.world_invariant_laws.specs.Links.{IsLinked}

module _ (app : App) (h : List Entry) (c : Conn) (p : IsLinked app h c) where
  abbrev C : List Moment
  C = moments app c.number h

  fits : Fits app c.number C c.items
  fits = p.served.session.fits

  once : IsOnce h c
  once = by (state_in c).blocking refl
    where
      stands : (o : Option Blocking) → (state_in c).blocking ≡ o → begun_in c.number h ++ unrun (runs_of app c.number h) o ≡ standing c.items
      stands o e = ap (λ x. begun_in c.number h ++ unrun (runs_of app c.number h) x) (sym e) ∙ p.served.begun.begun

      one : (b : Blocking) → (state_in c).blocking ≡ Some b → (has : Bool) → begun_in c.number h ++ cond has [] (b ∷ []) ≡ standing c.items → IsOnce h c
      one b e true is = inl (sym (append-nil (begun_in c.number h)) ∙ is)
      one b e false is = inr (record { call = b; blocks = e; others = is })

      by : (o : Option Blocking) → (state_in c).blocking ≡ o → IsOnce h c
      by None e = inl (sym (append-nil (begun_in c.number h)) ∙ stands None e)
      by (Some b) e = one b e (is_some (runs_of app c.number h b.k)) (stands (Some b) e)

  pub answering : IsAnswering c.number C c.items
  answering = record {
    subs = requests_are_answered app c.number C c.items fits;
    order = results_come_first app c.number C c.items fits;
    shown = λ id n. updated_is_reflected app c.number C _ (beginnings_fit app c.number C c.items fits n) id;
  }

  pub session_is_true : IsTrueSession app h c
  session_is_true = record {
    once = once;
    answering = answering;
    short = journals_are_short app c.number C _ c.received c.items (map (λ (w : Waiting). w.message) c.queue)
        (moments_many app c.number h) fits p.served.session.answers;
  }
