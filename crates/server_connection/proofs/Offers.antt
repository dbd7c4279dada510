-- The text that goes next, by what the session sends.
use Rattle.std.specs.Prelude.{◌≡◌, ◌⊎◌, ℕ, List, [], ◌++◌, true, false, Option, None, Some, IfSome, IfNone, option_to_list, refl}
use Rattle.std.proofs.Common.{ap, ap₂, sym, subst, ◌∙◌, inl, inr}
use Rattle.std.proofs.lemmas.List.{append-nil}
use Rattle.history_model.specs.declared.entry.Entry.{Entry}
use Rattle.session_laws.specs.Session.{ASession}
use Rattle.session_laws.specs.Events.{Outcome}
use Rattle.std.specs.Prelude.{Ok, Err}
use Rattle.shared_session.specs.Held.{AHeld, StandsFor}
use Rattle.shared_session.specs.Events.{TakesHeld, SendsHeld}
use Rattle.server_connection.specs.declared.desk.Desk.{Desk}
use Rattle.server_connection.specs.Serving.{IsNext, GoesNext, TakesIn}

-- the text that was handed back goes next
pub back_next : (h : AHeld) (d : Desk) (back : Option (List ℕ)) (text : List ℕ) → d.back ≡ Some text → back ≡ None → GoesNext StandsFor text h h d (record d { back = back })
back_next h d back text is none = record {
  means = λ taken before m. subst (λ o. StandsFor taken (before ++ option_to_list o) h) is m;
  next = subst (λ o. IsNext o text) (sym is) refl;
  back = none;
  held = refl;
  refused = refl;
}

-- the session's text goes next
pub sent_next : (old new : AHeld) (d : Desk) (back : Option (List ℕ)) (r : Option (List ℕ)) → d.back ≡ None → back ≡ None → SendsHeld old new r → IfSome r (λ text. GoesNext StandsFor text old new d (record d { back = back }))
sent_next old new d back None is none a = tt
sent_next old new d back (Some text) is none a = record {
  means = λ taken before m. a.stands taken before (subst (λ ts. StandsFor taken ts old) (ap (λ o. before ++ option_to_list o) is ∙ append-nil before) m);
  next = subst (λ o. IsNext o text) (sym is) tt;
  back = none;
  held = refl;
  refused = refl;
}

-- there is none: all is sent
pub sent_none : (old new : AHeld) (r : Option (List ℕ)) → old.session.dropped ≡ false → SendsHeld old new r → IfNone r ((new.session.carried.outbox ≡ []) × (new ≡ old))
sent_none old new (Some text) alive a = tt
sent_none old new None alive a =
    let same : new ≡ old = ap₂ (λ (s : ASession) (l : List Entry). let h : AHeld = record { session = s; list = l } in h) a.sends.same a.list in
    (ap (λ (h : AHeld). h.session.carried.outbox) same ∙ by a.sends.why, same)
  where
    by : (old.session.carried.outbox ≡ []) ⊎ (old.session.dropped ≡ true) → old.session.carried.outbox ≡ []
    by (inl none) = none
    by (inr dropped) = let differ : true ≡ false = sym dropped ∙ alive in absurd (cc differ)

-- a text is taken, or held
pub took : (t : List ℕ) (old new : AHeld) (u : Unit {0}) → TakesHeld t old new (Ok u) → TakesIn StandsFor t old new None
took t old new u a = a.stands

pub took_not : (t : List ℕ) (old new : AHeld) (r : Outcome) → TakesHeld t old new r → (e : _) → r ≡ Err e → TakesIn StandsFor t old new (Some t)
took_not t old new (Ok u) a e is = cc is
took_not t old new (Err x) a e is = (refl, ap₂ (λ (s : ASession) (l : List Entry). let h : AHeld = record { session = s; list = l } in h) a.takes.same a.list)
