-- What is kept after each move of a text and each event of the session is the act.
use Rattle.std.specs.Prelude.{◌≡◌, ℕ, suc, List, [], ◌∷◌, ◌++◌, length, take, drop, slice_get, Bool, true, false, not, nat_lt, Some, None, Result, Ok, Err, refl}
use Rattle.std.proofs.Common.{ap, sym, subst, ◌∙◌, arith}
use Rattle.std.proofs.lemmas.Bool.{not-true}
use Rattle.app_model.specs.App.{App}
use Rattle.connection.specs.history_model.declared.entry.Entry.{Entry}
use Rattle.connection.specs.client_core.declared.fault.TakeFault.{TakeFault}
use Rattle.connection.specs.client_core.declared.fault.TakeFault.TheVariants as take_fault
use Rattle.connection.specs.client_core.State.{Own}
use Rattle.connection.specs.client_core.Asked.{IsSent}
use Rattle.connection.specs.client_core.Taken.{Takes as Hears}
use Rattle.connection.specs.session_model.Taking.{Taken, at_once, to_queue, taken_text}
use Rattle.connection.specs.session_laws.declared.fault.EventFault.{EventFault}
use Rattle.connection.specs.session_laws.Session.{ASession}
use Rattle.connection.specs.session_laws.Events.{IsTakenAs, Takes, Handles, Sends}
use Rattle.connection.specs.world_model.declared.events.Act.TheVariants as act
use Rattle.connection.specs.world_model.declared.events.Answer.{Answer}
use Rattle.connection.specs.world_model.declared.events.Answer.TheVariants as answer
use Rattle.connection.specs.world_model.Conn.{link_limit}
use Rattle.connection.specs.connection_laws.Connection.{IsConnection}
use Rattle.connection.specs.connection_laws.Acting.{with_session, gone_up, taken_in, sent_on, taken_off, IsDone}
use Rattle.connection.specs.connection_laws.Links.{up_made, up_none as none_up, up_full as full_up, send_made, send_none as none_sent, send_full as full_sent, take_makes, take_none as none_taken, gone_idle}
use Rattle.connection.specs.connection_laws_for_proofs.Receiving.{recv_makes, recv_idle, handle_makes}
use Rattle.connection.specs.declared.link.Link.{Link}
use Rattle.connection.specs.declared.side.Side.{Side}
use Rattle.connection.specs.Kept.{seen, IsKept}
use Rattle.connection.specs.Answers.{Acts, Answers, IsRefusal}
use Rattle.connection.proofs.Moves.{drop_pushed, take_pushed, drop_next, take_next, within_next, drop_end}
use Rattle.connection.proofs.Refusals.{refused_answers}

module _ (a : Side) (k : IsKept a) where
  -- ---- up

  pub up_gone : a.is_dropped ≡ true → (app : App) (name : List ℕ) (history : List Entry) → IsConnection app name history (seen a) → Acts app name history act.Up (seen a) (seen a) answer.Idle
  up_gone gone app name history p = (gone_idle app history (seen a) act.Up gone refl, refl)

  pub up_full : (full : Bool) → full ≡ true → full ≡ not (nat_lt (length (drop a.upward.taken a.upward.texts.items)) link_limit) → (app : App) (name : List ℕ) (history : List Entry) → IsConnection app name history (seen a) →
      Acts app name history act.Up (seen a) (seen a) answer.Idle
  up_full full is e app name history p = (full_up app history (seen a) (not-true (nat_lt (length (drop a.upward.taken a.upward.texts.items)) link_limit) (sym e ∙ is)), refl)

  module _ (own : Own) (link : Link) where
    pub up_none : IsSent a.client own None → link.texts.items ≡ a.upward.texts.items → link.taken ≡ a.upward.taken →
        (app : App) (name : List ℕ) (history : List Entry) → IsConnection app name history (seen a) → Acts app name history act.Up (seen a) (seen (record a { client = own; upward = link })) answer.Idle
    up_none s texts taken app name history p = (
      none_up app history (seen a) own s,
      (λ j. record (seen a) { own = s.1 j; upward = drop (taken j) (texts j); received = take (taken j) (texts j) }),
    )

    pub up_done : (t : List ℕ) → a.is_dropped ≡ false → nat_lt (length (drop a.upward.taken a.upward.texts.items)) link_limit ≡ true → IsSent a.client own (Some t) → link.texts.items ≡ a.upward.texts.items ++ t ∷ [] → link.taken ≡ a.upward.taken →
        (app : App) (name : List ℕ) (history : List Entry) → IsConnection app name history (seen a) → Acts app name history act.Up (seen a) (seen (record a { client = own; upward = link })) answer.Done
    up_done t there room s texts taken app name history p =
        let up : drop link.taken link.texts.items ≡ drop a.upward.taken a.upward.texts.items ++ t ∷ [] =
        ap (λ n. drop n link.texts.items) taken ∙ (ap (drop a.upward.taken) texts ∙ drop_pushed a.upward.taken a.upward.texts.items t k.upward) in
        let in_ : take link.taken link.texts.items ≡ take a.upward.taken a.upward.texts.items =
        ap (λ n. take n link.texts.items) taken ∙ (ap (take a.upward.taken) texts ∙ take_pushed a.upward.taken a.upward.texts.items t k.upward) in
        let same : gone_up own t (seen a) ≡ seen (record a { client = own; upward = link }) = λ j. record (seen a) { own = own; upward = sym up j; received = sym in_ j } in
        subst (IsDone app name history act.Up (seen a)) same (up_made app name history (seen a) p own t there room s)

  -- ---- recv

  pub recv_none : slice_get a.upward.texts.items a.upward.taken ≡ None → (app : App) (name : List ℕ) (history : List Entry) → IsConnection app name history (seen a) → Acts app name history act.Recv (seen a) (seen a) answer.Idle
  recv_none none app name history p = (recv_idle app history (seen a) (drop_end a.upward.taken a.upward.texts.items none), refl)

  module _ (t : List ℕ) (lies : slice_get a.upward.texts.items a.upward.taken ≡ Some t) (s : ASession) where
    pub recv_done : (link : Link) → link ≡ record a.upward { taken = suc a.upward.taken } → (u : Unit {0}) → Takes t a.session s (Ok u) → (app : App) (name : List ℕ) (history : List Entry) → IsConnection app name history (seen a) →
        Acts app name history act.Recv (seen a) (seen (record a { session = s; upward = link })) answer.Done
    recv_done link is u r app name history p =
        let rest = drop (suc a.upward.taken) a.upward.texts.items in
        let same : taken_in t rest s (seen a) ≡ seen (record a { session = s; upward = record a.upward { taken = suc a.upward.taken } }) =
        λ j. record (seen a) { upward = rest; session = s; received = sym (take_next a.upward.taken a.upward.texts.items t lies) j } in
        subst (IsDone app name history act.Recv (seen a)) (same ∙ ap (λ (l : Link). seen (record a { session = s; upward = l })) (sym is))
        (recv_makes app name history (seen a) p t rest (drop_next a.upward.taken a.upward.texts.items t lies) s (Ok u) r)

    taken_number : (x : Taken) → IsTakenAs x (length t) a.session s → s.carried.number ≡ a.session.carried.number
    taken_number (at_once i) q = q.done.added.number
    taken_number (to_queue message) q = ap (λ (x : ASession). x.carried.number) q.1

    pub recv_kept : (link : Link) → link ≡ record a.upward { taken = suc a.upward.taken } → (u : Unit {0}) → Takes t a.session s (Ok u) → IsKept (record a { session = s; upward = link })
    recv_kept link is u r =
        let less = within_next a.upward.taken a.upward.texts.items t lies in
        let on : link.taken ≡ suc a.upward.taken = ap (λ (l : Link). l.taken) is in
        let many : length link.texts.items ≡ length a.upward.texts.items = ap (λ (l : Link). length l.texts.items) is in
        record { upward = omega (arith, less, on, many); downward = k.downward; number = taken_number (taken_text a.session.carried.own.connected t) r.done ∙ k.number }

    pub recv_refused : {E : Type 0} (fault : EventFault) (result : Result Answer E) → Takes t a.session s (Err fault) → IsRefusal fault result → Answers act.Recv (seen a) (seen (record a { session = s })) result
    recv_refused fault result r is =
        let rest = drop (suc a.upward.taken) a.upward.texts.items in
        refused_answers act.Recv (seen a) (taken_in t rest s (seen a)) (seen (record a { session = s })) fault result is
        (λ app name history p. recv_makes app name history (seen a) p t rest (drop_next a.upward.taken a.upward.texts.items t lies) s (Err fault) r)
        (ap (λ (x : ASession). seen (record a { session = x })) r.same)

  -- ---- handle

  module _ (s : ASession) where
    pub handle_done : (u : Unit {0}) → Handles a.session s (Ok u) → (app : App) (name : List ℕ) (history : List Entry) → IsConnection app name history (seen a) → Acts app name history act.Handle (seen a) (seen (record a { session = s })) answer.Done
    handle_done u r app name history p = handle_makes app name history (seen a) p s (Ok u) r

    pub handle_refused : {E : Type 0} (fault : EventFault) (result : Result Answer E) → Handles a.session s (Err fault) → IsRefusal fault result → Answers act.Handle (seen a) (seen (record a { session = s })) result
    handle_refused fault result r is =
        refused_answers act.Handle (seen a) (with_session s (seen a)) (seen (record a { session = s })) fault result is (λ app name history p. handle_makes app name history (seen a) p s (Err fault) r)
        (ap (λ (x : ASession). seen (record a { session = x })) r.same)

  -- ---- send

  pub sent_full : (full : Bool) → full ≡ true → full ≡ not (nat_lt (length (drop a.downward.taken a.downward.texts.items)) link_limit) → (app : App) (name : List ℕ) (history : List Entry) → IsConnection app name history (seen a) →
      Acts app name history act.Send (seen a) (seen a) answer.Idle
  sent_full full is e app name history p = (full_sent app history (seen a) (not-true (nat_lt (length (drop a.downward.taken a.downward.texts.items)) link_limit) (sym e ∙ is)), refl)

  module _ (s : ASession) (link : Link) where
    pub sent_none : Sends a.session s None → link.texts.items ≡ a.downward.texts.items → link.taken ≡ a.downward.taken →
        (app : App) (name : List ℕ) (history : List Entry) → IsConnection app name history (seen a) → Acts app name history act.Send (seen a) (seen (record a { session = s; downward = link })) answer.Idle
    sent_none q texts taken app name history p = (
      none_sent app name history (seen a) p s q,
      (λ j. record (seen a) { session = q.same j; downward = drop (taken j) (texts j); sent = texts j }),
    )

    pub sent_done : (t : List ℕ) → nat_lt (length (drop a.downward.taken a.downward.texts.items)) link_limit ≡ true → Sends a.session s (Some t) → link.texts.items ≡ a.downward.texts.items ++ t ∷ [] → link.taken ≡ a.downward.taken →
        (app : App) (name : List ℕ) (history : List Entry) → IsConnection app name history (seen a) → Acts app name history act.Send (seen a) (seen (record a { session = s; downward = link })) answer.Done
    sent_done t room q texts taken app name history p =
        let down : drop link.taken link.texts.items ≡ drop a.downward.taken a.downward.texts.items ++ t ∷ [] =
        ap (λ n. drop n link.texts.items) taken ∙ (ap (drop a.downward.taken) texts ∙ drop_pushed a.downward.taken a.downward.texts.items t k.downward) in
        let same : sent_on t s (seen a) ≡ seen (record a { session = s; downward = link }) = λ j. record (seen a) { session = s; downward = sym down j; sent = sym texts j } in
        subst (IsDone app name history act.Send (seen a)) same (send_made app name history (seen a) p s t room q)

  -- ---- take

  pub take_gone : a.is_dropped ≡ true → (app : App) (name : List ℕ) (history : List Entry) → IsConnection app name history (seen a) → Acts app name history act.Take (seen a) (seen a) answer.Idle
  take_gone gone app name history p = (gone_idle app history (seen a) act.Take gone refl, refl)

  pub take_none : slice_get a.downward.texts.items a.downward.taken ≡ None → (app : App) (name : List ℕ) (history : List Entry) → IsConnection app name history (seen a) → Acts app name history act.Take (seen a) (seen a) answer.Idle
  take_none none app name history p = (none_taken app history (seen a) (drop_end a.downward.taken a.downward.texts.items none), refl)

  module _ (t : List ℕ) (there : a.is_dropped ≡ false) (lies : slice_get a.downward.texts.items a.downward.taken ≡ Some t) (own : Own) where
    module _ (link : Link) (is : link ≡ record a.downward { taken = suc a.downward.taken }) where
      passed : taken_off own (drop (suc a.downward.taken) a.downward.texts.items) (seen a) ≡ seen (record a { client = own; downward = link })
      passed = ap (λ (l : Link). seen (record a { client = own; downward = l })) (sym is)

      pub take_done : (u : Unit {0}) → Hears t a.client own (let r : Result (Unit {0}) TakeFault = Ok u in r) →
          ((app : App) (name : List ℕ) (history : List Entry) → IsConnection app name history (seen a) → Acts app name history act.Take (seen a) (seen (record a { client = own; downward = link })) answer.Done) × (own.client.broken ≡ None)
      take_done u r =
          let rest = drop (suc a.downward.taken) a.downward.texts.items in
          let result : Result (Unit {0}) TakeFault = Ok u in (
            (λ app name history p. subst (IsDone app name history act.Take (seen a)) passed (take_makes app name history (seen a) p own t rest there (drop_next a.downward.taken a.downward.texts.items t lies) result r).0),
            ap (λ (o : Own). o.client.broken) r.2 ∙ r.1,
          )

      pub take_broken : (n : ℕ) → Hears t a.client own (let r : Result (Unit {0}) TakeFault = Err (take_fault.ServerSent n) in r) →
          ((app : App) (name : List ℕ) (history : List Entry) → IsConnection app name history (seen a) → Acts app name history act.Take (seen a) (seen (record a { client = own; downward = link })) answer.Done) × (own.client.broken ≡ Some n)
      take_broken n r =
          let rest = drop (suc a.downward.taken) a.downward.texts.items in
          let result : Result (Unit {0}) TakeFault = Err (take_fault.ServerSent n) in (
            (λ app name history p. subst (IsDone app name history act.Take (seen a)) passed (take_makes app name history (seen a) p own t rest there (drop_next a.downward.taken a.downward.texts.items t lies) result r).0),
            ap (λ (o : Own). o.client.broken) r.2,
          )

      pub take_kept : IsKept (record a { client = own; downward = link })
      take_kept =
          let less = within_next a.downward.taken a.downward.texts.items t lies in
          let on : link.taken ≡ suc a.downward.taken = ap (λ (l : Link). l.taken) is in
          let many : length link.texts.items ≡ length a.downward.texts.items = ap (λ (l : Link). length l.texts.items) is in
          record { upward = k.upward; downward = omega (arith, less, on, many); number = k.number }

    pub take_idle : Hears t a.client own (let r : Result (Unit {0}) TakeFault = Err take_fault.Idle in r) →
        (app : App) (name : List ℕ) (history : List Entry) → IsConnection app name history (seen a) → Acts app name history act.Take (seen a) (seen (record a { client = own })) answer.Idle
    take_idle r app name history p =
        let rest = drop (suc a.downward.taken) a.downward.texts.items in
        let result : Result (Unit {0}) TakeFault = Err take_fault.Idle in (
          take_makes app name history (seen a) p own t rest there (drop_next a.downward.taken a.downward.texts.items t lies) result r,
          ap (λ (o : Own). seen (record a { client = o })) r.1,
        )
