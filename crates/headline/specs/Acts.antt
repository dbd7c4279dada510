-- Each act, and each thing that is asked of it, keeps a client polite.
use Rattle.std.specs.Prelude.{◌≡◌, ℕ, zero, suc, ◌<◌, List, [], ◌∷◌, ◌++◌, length, true, false, not, ◌&&◌, nat_lt, Option, Some, None, is_none}
use Rattle.std.specs.Prelude.{decimal, if◌then◌else◌, refl}
use Rattle.std.proofs.Common.{ap, sym, subst, ◌∙◌, arith, length-append, inl}
use Rattle.std.proofs.lemmas.List.{append_assoc}
use Rattle.std.proofs.lemmas.Bool.{and_parts, ltb-true}
use Rattle.ddp_messages.specs.ClientMessage as client
use Rattle.app_model.specs.App.{App}
use Rattle.headline.specs.history_model.declared.entry.Entry.{Entry}
use Rattle.ddp_messages.specs.Texts.{client_text}
use Rattle.client_model.specs.Client.{Call}
use Rattle.client_model.specs.Taking.{call_at}
use Rattle.client_model.specs.Asking.{call_limit, is_connected, can_call, seed_of, can_take}
use Rattle.headline.specs.session_model.Items.{Item}
use Rattle.headline.specs.session_model.Kept.{AreKept}
use Rattle.headline.specs.session_model.Taking.{Taken, at_once, to_queue, taken_text}
use Rattle.headline.specs.world_model.declared.events.Act.{Act}
use Rattle.headline.specs.world_model.declared.events.Act.TheVariants as act
use Rattle.headline.specs.world_model.Store.{moments}
use Rattle.headline.specs.world_model.Conn.{Waiting, Conn, new_conn, state_in, has_some}
use Rattle.headline.specs.world_model.Acts.{goes_up, received_as, receives, handles, is_kept, learnt, learns_item, sends, takes, enabled, does}
use Rattle.headline.specs.world_model.Asks.{Ask, can_ask, calls, asked}
use Rattle.headline.specs.world_model.Asks as ask
use Rattle.headline.specs.world_invariant_laws.Lift.{IsAsk}
use Rattle.headline.specs.world_invariant_laws.Links.{IsLinked}
use Rattle.headline.specs.Calls.{has_outcome, has_update}
use Rattle.headline.specs.Texts.{IsAsking}
use Rattle.headline.specs.TextsLaws.{connect_opens, first_asked, sub_other, unsub_other, other_asked, call_asked}
use Rattle.headline.specs.Polite.{texts_of, IsPolite, is_none_is, text_goes, call_counted}

none_there : (n : ℕ) → has_outcome (call_at [] n) ≡ 0
none_there zero = refl
none_there (suc n) = refl

none_updated : (n : ℕ) → has_update (call_at [] n) ≡ 0
none_updated zero = refl
none_updated (suc n) = refl

pub new_polite : (number : ℕ) → IsPolite (new_conn number)
new_polite number = record {
  asking = first_asked _ connect_opens;
  taking = record {
    accepted = refl;
    known = λ e. record {
      taken = [];
      is = refl;
      session = refl;
      server = refl;
      counted = record { few = omega arith; outcomes = λ n l. none_there n; updates = λ n l. none_updated n };
    };
    taken = [];
    is = refl;
    alone = inl (refl, refl);
  };
}

-- ---- texts that go on

up_polite : (c : Conn) (ts : List (List ℕ)) → c.client.waiting ≡ ts → IsPolite c → IsPolite (goes_up c ts)
up_polite c [] e p = p
up_polite c (t ∷ ts) e p = record {
  asking = subst (λ (texts : List (List ℕ)). IsAsking texts (length c.client.calls))
      (ap (λ (ws : List (List ℕ)). c.received ++ (c.upward ++ ws)) e
      ∙ ap (λ (xs : List (List ℕ)). c.received ++ xs) (sym (append_assoc c.upward (t ∷ []) ts))) p.asking;
  taking = record {
    accepted = p.taking.accepted;
    known = λ none. let k = p.taking.known none in record { taken = k.taken; is = k.is; session = k.session; server = k.server; counted = k.counted };
    taken = p.taking.taken;
    is = p.taking.is;
    alone = p.taking.alone;
  };
}

recv_polite : (app : App) (h : List Entry) (c : Conn) (ts : List (List ℕ)) → c.upward ≡ ts → IsPolite c → IsPolite (receives app h c ts)
recv_polite app h c [] e p = p
recv_polite app h c (t ∷ ts) e p = by (taken_text (state_in c).connected t)
  where
    texts : IsAsking ((c.received ++ t ∷ []) ++ (ts ++ c.client.waiting)) (length c.client.calls)
    texts = subst (λ (texts : List (List ℕ)). IsAsking texts (length c.client.calls))
        (ap (λ (us : List (List ℕ)). c.received ++ (us ++ c.client.waiting)) e ∙ sym (append_assoc c.received (t ∷ []) (ts ++ c.client.waiting))) p.asking

    by : (x : Taken) → IsPolite (received_as app h (record c { upward = ts; received = c.received ++ t ∷ [] }) (length t) x)
    by (at_once i) = record { asking = texts; taking = p.taking }
    by (to_queue m) = record { asking = texts; taking = p.taking }

handle_polite : (app : App) (h : List Entry) (c : Conn) (ws : List Waiting) → IsPolite c → IsPolite (handles app h c ws)
handle_polite app h c [] p = p
handle_polite app h c (w ∷ ws) p = record { asking = p.asking; taking = p.taking }

item_polite : (app : App) (h : List Entry) (c : Conn) (o : Option Item) → IsPolite c → IsPolite (learns_item app h c o)
item_polite app h c None p = p
item_polite app h c (Some i) p = record { asking = p.asking; taking = p.taking }

send_polite : (c : Conn) (ts : List (List ℕ)) → IsPolite c → IsPolite (sends c ts)
send_polite c [] p = p
send_polite c (t ∷ ts) p = record {
  asking = p.asking;
  taking = record {
    accepted = p.taking.accepted;
    known = λ none.
        let k = p.taking.known none in
        record { taken = k.taken; is = longer k.taken k.is; session = k.session; server = k.server; counted = k.counted };
    taken = p.taking.taken;
    is = longer p.taking.taken p.taking.is;
    alone = p.taking.alone;
  };
}
  where
    longer : (taken : List (List ℕ)) → taken ++ c.downward ≡ c.sent → taken ++ (c.downward ++ t ∷ []) ≡ c.sent ++ t ∷ []
    longer taken is = sym (append_assoc taken c.downward (t ∷ [])) ∙ ap (λ (xs : List (List ℕ)). xs ++ t ∷ []) is

take_polite : (app : App) (h : List Entry) (c : Conn) (ts : List (List ℕ)) → c.downward ≡ ts → IsLinked app h c → AreKept (moments app c.number h) →
    can_take c.client ≡ true → IsPolite c → IsPolite (takes c ts)
take_polite app h c [] e l kept may p = p
take_polite app h c (t ∷ ts) e l kept may p =
    let goes = text_goes app h c l kept p t ts e (is_none_is c.client.broken (and_parts (not c.client.is_failed) (is_none c.client.broken) may).1) in
    record { asking = goes.0; taking = goes.1 }

-- every act
pub act_polite : (app : App) (h : List Entry) (c : Conn) (a : Act) → enabled app h c a ≡ true → IsLinked app h c → AreKept (moments app c.number h) →
    IsPolite c → IsPolite (does app h c a)
act_polite app h c act.Up e l kept p = up_polite c c.client.waiting refl p
act_polite app h c act.Recv e l kept p = recv_polite app h c c.upward refl p
act_polite app h c act.Handle e l kept p = handle_polite app h c c.queue p
act_polite app h c act.Begin e l kept p = record { asking = p.asking; taking = p.taking }
act_polite app h c (act.Step k) e l kept p = p
act_polite app h c (act.Learn k place) e l kept p =
    item_polite app h (record c { kept = if is_kept k c.kept then None else c.kept }) (learnt app h c k place) (record { asking = p.asking; taking = p.taking })
act_polite app h c (act.Load s place) e l kept p = record { asking = p.asking; taking = p.taking }
act_polite app h c (act.Advance s count) e l kept p = record { asking = p.asking; taking = p.taking }
act_polite app h c act.Send e l kept p = send_polite c c.outbox p
act_polite app h c act.Take e l kept p =
    take_polite app h c c.downward refl l kept (and_parts (not c.is_dropped && has_some c.downward) (can_take c.client) e).1 p

-- ---- what is asked

longer_texts : (c : Conn) (t : List ℕ) → texts_of c ++ t ∷ [] ≡ c.received ++ (c.upward ++ (c.client.waiting ++ t ∷ []))
longer_texts c t = append_assoc c.received (c.upward ++ c.client.waiting) (t ∷ [])
    ∙ ap (λ (xs : List (List ℕ)). c.received ++ xs) (append_assoc c.upward c.client.waiting (t ∷ []))

-- everything but a text as it stands
pub asked_polite : (app : App) (c : Conn) (a : Ask) → IsAsk a → can_ask c a ≡ true → (asked app c a).made_raw ≡ false → IsPolite c → IsPolite (asked app c a)
asked_polite app c (ask.subscribe id name params) good may raw p =
    let t = client_text (client.sub id name params) in record {
      asking = subst (λ (texts : List (List ℕ)). IsAsking texts (length c.client.calls)) (longer_texts c t)
          (other_asked (texts_of c) t (length c.client.calls) (sub_other id name params good.0 good.1) p.asking);
      taking = record {
        accepted = p.taking.accepted;
        known = λ none. let k = p.taking.known none in record { taken = k.taken; is = k.is; session = k.session; server = k.server; counted = k.counted };
        taken = p.taking.taken;
        is = p.taking.is;
        alone = p.taking.alone;
      };
    }
asked_polite app c (ask.unsubscribe id) good may raw p =
    let t = client_text (client.unsub id) in record {
      asking = subst (λ (texts : List (List ℕ)). IsAsking texts (length c.client.calls)) (longer_texts c t)
          (other_asked (texts_of c) t (length c.client.calls) (unsub_other id) p.asking);
      taking = record {
        accepted = p.taking.accepted;
        known = λ none. let k = p.taking.known none in record { taken = k.taken; is = k.is; session = k.session; server = k.server; counted = k.counted };
        taken = p.taking.taken;
        is = p.taking.is;
        alone = p.taking.alone;
      };
    }
asked_polite app c (ask.call name params) good may raw p =
    let number = suc (length c.client.calls) in
    let seed = seed_of c.client.session number in
    let t = client_text (client.method (decimal number) name params (Some seed)) in
    let room = and_parts (is_connected c.client) (nat_lt (length c.client.calls) call_limit) (and_parts (not c.is_dropped) (can_call c.client) may).1 in
    let less : length c.client.calls < call_limit = ltb-true (length c.client.calls) call_limit room.1 in
    let new : Call = record { outcome = None; is_updated = false } in
    let count : number ≡ length (c.client.calls ++ new ∷ []) = omega (arith, length-append c.client.calls (new ∷ [])) in record {
      asking = subst (λ n. IsAsking (c.received ++ (c.upward ++ (c.client.waiting ++ t ∷ []))) n) count
          (subst (λ (texts : List (List ℕ)). IsAsking texts number) (longer_texts c t)
          (call_asked (texts_of c) name params seed (length c.client.calls) less good.0 good.1 tt (omega arith) p.asking));
      taking = record {
        accepted = p.taking.accepted;
        known = λ none.
            let k = p.taking.known none in
            record {
              taken = k.taken;
              is = k.is;
              session = k.session;
              server = k.server;
              counted = call_counted c.client.calls _ (omega (arith, less)) k.counted;
            };
        taken = p.taking.taken;
        is = p.taking.is;
        alone = p.taking.alone;
      };
    }
asked_polite app c (ask.raw t) good may raw p = cc raw
asked_polite app c ask.drop good may raw p = record { asking = p.asking; taking = p.taking }
