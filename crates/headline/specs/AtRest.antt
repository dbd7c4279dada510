-- A settled world's sessions are at rest: quiescent, or for one of the named reasons not.
use Rattle.std.specs.Prelude.{◌≡◌, ◌≤◌, ℕ, suc, List, [], ◌∷◌, ◌++◌, length, decimal, map, Bool, true, false, not, ◌&&◌, Option, Some, None, is_none}
use Rattle.std.specs.Prelude.{is_some, IsSome, IfSome, refl}
use Rattle.std.specs.List.{list_any}
use Rattle.std.proofs.Common.{ap, sym, subst, ◌∙◌, arith, append-nil, inl, inr}
use Rattle.std.proofs.lemmas.Bool.{leb-true, or_parts}
use Rattle.ddp_messages.specs.ClientMessage.{ClientMessage}
use Rattle.ddp_messages.specs.ServerMessage.{ServerMessage}
use Rattle.app_model.specs.App.{App}
use Rattle.headline.specs.history_model.declared.entry.Entry.{Entry}
use Rattle.client_model.specs.Taking.{number_of}
use Rattle.headline.specs.session_model.Texts.{messages_in}
use Rattle.headline.specs.session_model.Items.{Item, handled}
use Rattle.headline.specs.session_model.Items as item
use Rattle.headline.specs.session_model.State.{State, started, after, state_from}
use Rattle.headline.specs.session_model.Out.{out, out_texts}
use Rattle.headline.specs.session_model.Kept.{AreKept}
use Rattle.headline.specs.session_model.Taking.{is_connected_by, queued_from}
use Rattle.headline.specs.session_model.Counting.{one_if, updateds}
use Rattle.headline.specs.session_journal_laws_for_proofs.ReadableLaws.{out_reads}
use Rattle.headline.specs.session_journal_laws.CountsLaws.{methods_are_answered}
use Rattle.headline.specs.world_values_laws.Values.{HasValues}
use Rattle.headline.specs.world_values_laws_for_proofs.MomentValues.{moments_are_kept}
use Rattle.headline.specs.world_model.declared.events.Event.{Event}
use Rattle.headline.specs.world_model.declared.events.Event.TheVariants as event
use Rattle.headline.specs.world_model.Store.{programs, moments}
use Rattle.headline.specs.world_model.StoreLaws.{moments_many}
use Rattle.headline.specs.world_model.Conn.{Waiting, Conn, state_in, journal_limit, is_full}
use Rattle.headline.specs.world_model.World.{World, start, conn_of}
use Rattle.headline.specs.world_model.Settle.{settled}
use Rattle.headline.specs.world_model.Events.{run, AreEvents}
use Rattle.headline.specs.world_model.Headline.{IsQuiescent, IsAtRest, AreAtRest, are_updated, is_bad}
use Rattle.headline.specs.world_invariant_laws.Lift.{step_holds}
use Rattle.headline.specs.world_invariant_laws.Links.{IsLinked}
use Rattle.headline.specs.world_invariant_laws_for_proofs.Sessions.{session_is_true}
use Rattle.headline.specs.Worlds.{IsSound}
use Rattle.headline.specs.Rest.{IsResting}
use Rattle.headline.specs.Resting.{RestsUnless}
use Rattle.headline.specs.Settling.{settled_sessions_rest}
use Rattle.headline.specs.Known.{IsKnown, methods_in}
use Rattle.headline.specs.Fitting.{session_after}
use Rattle.headline.specs.Texts.{is_fail, asks_for}
use Rattle.headline.specs.TextsLaws.{queued_exactly, first_connects}
use Rattle.headline.specs.Polite.{texts_of, IsAlone, IsPolite, none_refused, none_fails}
use Rattle.headline.specs.PoliteWorlds.{IsKnownPolite}
use Rattle.headline.specs.PoliteWorldsLaws.{polite_kept, StandsPolite, worlds_are_polite, client_polite}
use Rattle.headline.specs.CountsLaws.{handled_exactly, none_waits, none_runs, number_there, all_updated}
use Rattle.headline.specs.Sessions.{connected_says}

-- ---- no version was refused

after_unfailed : (st : State) (i : Item) → is_fail i ≡ false → (after st i).failed ≡ st.failed
after_unfailed st item.fail e = cc e
after_unfailed st i e = refl

goes_on : (st : State) (items : List Item) → list_any is_fail items ≡ false → (state_from st items).failed ≡ st.failed
goes_on st [] e = refl
goes_on st (i ∷ items) e = let parts = or_parts (is_fail i) (list_any is_fail items) e in goes_on (after st i) items parts.1 ∙ after_unfailed st i parts.0

pub unfailed : (app : App) (h : List Entry) (c : Conn) → IsLinked app h c → IsPolite c → (state_in c).failed ≡ false
unfailed app h c l p = goes_on started c.items
    (none_fails c.received (c.upward ++ c.client.waiting) c.items _ (length c.client.calls) l.served.session.answers p.asking)

-- ---- what a client has in whose session nothing waits

module _ (app : App) (h : List Entry) (c : Conn) (l : IsLinked app h c) (kept : AreKept (moments app c.number h)) (p : IsPolite c) (r : IsResting h c)
    (good : list_any is_bad c.items ≡ false) (whole : c.client.broken ≡ None) where
  abbrev k : IsKnown c.client c.sent c.downward
  k = p.taking.known whole

  abbrev said : List ServerMessage
  said = out (moments app c.number h) c.number c.items

  all_taken_ : messages_in k.taken ≡ said
  all_taken_ =
      let taken : k.taken ≡ c.sent = sym (append-nil k.taken) ∙ (ap (λ (ts : List (List ℕ)). k.taken ++ ts) (sym r.downward) ∙ k.is) in
      let sent : c.sent ≡ out_texts (moments app c.number h) c.number c.items = sym (append-nil c.sent)
      ∙ (ap (λ (ts : List (List ℕ)). c.sent ++ ts) (sym r.outbox) ∙ l.served.session.texts) in
      ap messages_in (taken ∙ sent) ∙ (out_reads app c.number (moments app c.number h) c.items kept l.served.session.fits).1

  received_all : texts_of c ≡ c.received
  received_all =
      ap (λ (ts : List (List ℕ)). c.received ++ (ts ++ c.client.waiting)) r.upward
      ∙ (ap (λ (ts : List (List ℕ)). c.received ++ ts) r.waiting ∙ append-nil c.received)

  pub has_session : IsSome c.client.session
  has_session =
      let begins : is_connected_by false c.received ≡ true = ap (is_connected_by false) (sym received_all ∙ p.asking.begins)
      ∙ first_connects p.asking.first p.asking.more p.asking.opens in
      let connected : (state_in c).connected ≡ true = sym l.served.session.answers.connected ∙ begins in
      ap (λ o. is_some o) (k.session ∙ ap (session_after None) all_taken_) ∙ connected_says (moments app c.number h) c.number c.items connected

  -- each call was handled and told `updated`
  one_told : (id : List ℕ) → updateds id (messages_in k.taken) ≡ one_if (is_some (number_of (length c.client.calls) id))
  one_told id =
      let C = moments app c.number h in
      let fits = l.served.session.fits in
      let answers = l.served.session.answers in
      let counts = methods_are_answered app c.number C c.items fits id in
      let waiting : map (λ (w : Waiting). w.message) c.queue ≡ [] = ap (map (λ (w : Waiting). w.message)) r.queue in
      let in_turn : queued_from false c.received ≡ handled c.items = answers.in_turn
      ∙ (ap (λ (ms : List ClientMessage). handled c.items ++ ms) waiting ∙ append-nil (handled c.items)) in
      let asked : asks_for id c.received ≡ one_if (is_some (number_of (length c.client.calls) id)) = ap (asks_for id) (sym received_all) ∙ p.asking.each id in
      omega (
        arith,
        ap (updateds id) all_taken_,
        counts.0,
        counts.1,
        none_runs id (state_in c).methods r.ended,
        none_waits app c.number C c.items id (length h) fits (moments_many app c.number h) r.at_end,
        handled_exactly app c.number C c.items id fits,
        ap (methods_in id) in_turn,
        queued_exactly id false c.received (none_refused c.received c.items _ answers good),
        asked,
      )

  pub has_updates : are_updated c.client.calls ≡ true
  has_updates = all_updated c.client.calls
      (λ n less. k.counted.updates (suc n) (omega (arith, less, k.counted.few))
      ∙ (one_told (decimal (suc n)) ∙ ap one_if (number_there (length c.client.calls) n less)))

-- ---- at rest

module _ (app : App) (h : List Entry) (c : Conn) (l : IsLinked app h c) (kept : AreKept (moments app c.number h)) (there : c.is_dropped ≡ false)
    (settles : is_full c ≡ false → (not c.client.is_failed && is_none c.client.broken) ≡ true → (state_in c).failed ≡ false → IsResting h c) where
  quiescent : (p : IsPolite c) → IsResting h c → list_any is_bad c.items ≡ false → c.client.broken ≡ None → IsQuiescent h c
  quiescent p r good whole = record {
    present = there;
    connected = has_session app h c l kept p r good whole;
    accepted = p.taking.accepted;
    unbroken = whole;
    waiting = r.waiting;
    upward = r.upward;
    queue = r.queue;
    outbox = r.outbox;
    downward = r.downward;
    ended = r.ended;
    at_end = r.at_end;
    updated = has_updates app h c l kept p r good whole;
  }

  by_break : (p : IsPolite c) → list_any is_bad c.items ≡ false → is_full c ≡ false → (taken : List (List ℕ)) → IsAlone c.client.broken taken → IsAtRest h c
  by_break p good room taken (inr one) = inr (inr (inr (inl one.0)))
  by_break p good room taken (inl whole) =
      let able = ap (λ (b : Bool). not b && is_none c.client.broken) p.taking.accepted ∙ ap (λ (o : Option ℕ). is_none o) whole.0 in
      inl (quiescent p (settles room able (unfailed app h c l p)) good whole.0)

  full : (p : IsPolite c) → list_any is_bad c.items ≡ false → (b : Bool) → is_full c ≡ b → IsAtRest h c
  full p good true e =
      let much : journal_limit ≤ length c.items = leb-true journal_limit (length c.items) e in
      inr (inr (inr (inr (record { full = much; many = omega (arith, much, (session_is_true app h c l).short) }))))
  full p good false e = by_break p good e p.taking.taken p.taking.alone

  bad : (p : IsPolite c) → (b : Bool) → list_any is_bad c.items ≡ b → IsAtRest h c
  bad p true e = inr (inr (inl e))
  bad p false e = full p e (is_full c) refl

  pub rests : (polite : c.made_raw ≡ false → IsPolite c) → IsAtRest h c
  rests polite = raw c.made_raw refl
    where
      raw : (b : Bool) → c.made_raw ≡ b → IsAtRest h c
      raw true e = inr (inl e)
      raw false e = bad (polite e) (list_any is_bad c.items) refl

-- ---- every settled world

pub at_rest : (first : App) (w : World) → HasValues (programs first) → StandsPolite first w →
    ((name : List ℕ) → IfSome (conn_of w name) (RestsUnless w)) → AreAtRest w
at_rest first w good l settles name = by (conn_of w name) refl (settles name)
  where
    by : (o : Option Conn) → conn_of w name ≡ o → IfSome o (RestsUnless w) → IfSome o (λ (c : Conn). c.is_dropped ≡ false → IsAtRest w.history c)
    by None e s = tt
    by (Some c) e s = λ there.
        let values : HasValues (programs w.app) = subst (λ (a : App). HasValues (programs a)) (sym l.history.same) good in
        rests w.app w.history c (l.all name c e).0 (moments_are_kept w.app c.number w.history values l.history.values) there (s there)
        (client_polite first w good l name c e)

pub settled_worlds_rest : (app : App) (events : List Event) → HasValues (programs app) → AreEvents events → AreAtRest (settled (run (start app) events))
settled_worlds_rest app events good all =
    let w = run (start app) events in
    at_rest app (settled w) good (step_holds (IsSound app) IsKnownPolite (polite_kept app) w event.Settle tt (worlds_are_polite app events all))
    (settled_sessions_rest app events good all)
