-- Laws: The messages that wait in a session are requests of one that is connected, and the item of a request may follow.
use Rattle.std.specs.Prelude.{◌≡◌, ℕ, List, [], ◌∷◌, ◌++◌, length, Bool, true, false, cond, not, ◌&&◌, nat_lt, Option, Some, None, Ok, Err, codes}
use Rattle.std.specs.Prelude.{is_some, refl}
use Rattle.std.proofs.Common.{ap, sym, subst, ◌∙◌}
use Rattle.serde_json.specs.Data.{Data}
use Rattle.serde_json.specs.Read as json
use Rattle.value_model.specs.Size.{is_name}
use Rattle.value_model.specs.Val.{Val}
use Rattle.ddp_messages.specs.Fields.{name_of}
use Rattle.ddp_messages.specs.Limits.{IsShort}
use Rattle.ddp_messages.specs.ClientMessage.{ClientMessage, client_reading}
use Rattle.ddp_messages.specs.ClientMessage as client
use Rattle.ddp_messages.specs.ClientLaws.{client_ok}
use Rattle.app_model.specs.App.{App, method}
use Rattle.world_model.specs.session_model.declared.fault.SubFault.TheVariants as fault
use Rattle.world_model.specs.session_model.Publication.{Making, making}
use Rattle.world_model.specs.session_model.Items.{Item, id_of, handled}
use Rattle.world_model.specs.session_model.Items as item
use Rattle.world_model.specs.session_model.Subscriptions.{sub_named, is_crowded}
use Rattle.world_model.specs.session_model.State.{State}
use Rattle.world_model.specs.session_model.Moments.{Moment}
use Rattle.world_model.specs.session_model.Taking.{max_text, Taken, at_once, to_queue, refused_for, taken_as, taken_named, taken_tree, taken_text}
use Rattle.world_model.specs.session_model.Taking.{connects, message_of, is_connected_by, queued_from}
use Rattle.world_model.specs.session_model.Answering.{is_at_once, Answers}
use Rattle.world_model.specs.session_model.Fits.{seed_or, opened_by, closed_by, item_for, IsHandled}
use Rattle.session_journal_laws.specs.Takes.{IsRight, taken_right}
use Rattle.world_invariant_laws.specs.Requests.{AreRequests, IsSorted, IsTurn, Waits, is_request}

-- ---- what comes of a text

sorted_if : (b : Bool) (x y : Taken) → IsSorted x → IsSorted y → IsSorted (cond b x y)
sorted_if true x y p q = p
sorted_if false x y p q = q

once_connect : (b : Bool) → is_at_once (cond b item.connect item.fail) ≡ true
once_connect true = refl
once_connect false = refl

sorted_as : (d : Data) (o : Option ClientMessage) → IsSorted (taken_as d o)
sorted_as d None = refl
sorted_as d (Some (client.connect version support)) = once_connect (is_name version (codes "1"))
sorted_as d (Some (client.ping id)) = refl
sorted_as d (Some (client.pong id)) = refl
sorted_as d (Some (client.sub id name params)) = refl
sorted_as d (Some (client.unsub id)) = refl
sorted_as d (Some (client.method id name params seed)) = refl

sorted_named : (connected : Bool) (d : Data) (o : Option (List ℕ)) → IsSorted (taken_named connected d o)
sorted_named connected d None = refl
sorted_named connected d (Some name) =
    sorted_if (not connected && not (is_name name (codes "connect"))) _ _ refl
    (sorted_if (connected && is_name name (codes "connect")) _ _ refl (sorted_as d (client_reading d)))

sorted_tree : (connected : Bool) (o : Option Data) → IsSorted (taken_tree connected o)
sorted_tree connected None = refl
sorted_tree connected (Some d) = sorted_named connected d (name_of d)

pub taken_sorted : (connected : Bool) (t : List ℕ) → IsSorted (taken_text connected t)
taken_sorted connected t = sorted_if (nat_lt max_text (length t)) _ _ refl (sorted_tree connected (json.read t))

-- ---- nothing waits before the session is connected

waits_if : (b : Bool) (x y : Taken) → (Waits x → ⊥) → (b ≡ false → Waits y → ⊥) → Waits (cond b x y) → ⊥
waits_if true x y p q w = p w
waits_if false x y p q w = q refl w

named : (d : Data) (name other : List ℕ) → name_of d ≡ Some name → name_of d ≡ Some other → name ≡ other
named d name other a b = let e : Some name ≡ Some other = sym a ∙ b in cc e

waits_as : (d : Data) (name : List ℕ) → name_of d ≡ Some name → not (is_name name (codes "connect")) ≡ false → (o : Option ClientMessage) →
    client_reading d ≡ o → Waits (taken_as d o) → ⊥
waits_as d name is first None e w = w
waits_as d name is first (Some (client.connect version support)) e w = w
waits_as d name is first (Some (client.ping id)) e w = w
waits_as d name is first (Some (client.pong id)) e w = w
waits_as d name is first (Some (client.sub id x params)) e w =
    let same : name ≡ codes "sub" = named d name (codes "sub") is (client_ok d (client.sub id x params) e).0 in
    let never : true ≡ false = sym (ap (λ n. not (is_name n (codes "connect"))) same) ∙ first in cc never
waits_as d name is first (Some (client.unsub id)) e w =
    let same : name ≡ codes "unsub" = named d name (codes "unsub") is (client_ok d (client.unsub id) e).0 in
    let never : true ≡ false = sym (ap (λ n. not (is_name n (codes "connect"))) same) ∙ first in cc never
waits_as d name is first (Some (client.method id x params seed)) e w =
    let same : name ≡ codes "method" = named d name (codes "method") is (client_ok d (client.method id x params seed) e).0 in
    let never : true ≡ false = sym (ap (λ n. not (is_name n (codes "connect"))) same) ∙ first in cc never

waits_named : (d : Data) (o : Option (List ℕ)) → name_of d ≡ o → Waits (taken_named false d o) → ⊥
waits_named d None e w = w
waits_named d (Some name) e w =
    waits_if (not (is_name name (codes "connect"))) (refused_for (codes "Must connect first") d) (taken_as d (client_reading d)) (λ x. x)
    (λ first x. waits_as d name e first (client_reading d) refl x) w

waits_tree : (o : Option Data) → Waits (taken_tree false o) → ⊥
waits_tree None w = w
waits_tree (Some d) w = waits_named d (name_of d) refl w

waits_text : (t : List ℕ) → Waits (taken_text false t) → ⊥
waits_text t w = waits_if (nat_lt max_text (length t)) (at_once (item.bad (codes "Bad request") None)) (taken_tree false (json.read t)) (λ x. x)
    (λ b x. waits_tree (json.read t) x) w

-- a session that isn't connected has no message that waits or was handled
stays_connected : (ts : List (List ℕ)) → is_connected_by true ts ≡ true
stays_connected [] = refl
stays_connected (t ∷ ts) = ap (λ b. is_connected_by b ts) (still (taken_text true t)) ∙ stays_connected ts
  where
    still : (x : Taken) → connects true x ≡ true
    still (at_once item.connect) = refl
    still (at_once i) = refl
    still (to_queue m) = refl

none_queued : (ts : List (List ℕ)) → is_connected_by false ts ≡ false → queued_from false ts ≡ []
none_queued [] e = refl
none_queued (t ∷ ts) e = by (taken_text false t) (waits_text t) (λ f. none_queued ts f) e
  where
    by : (x : Taken) → (Waits x → ⊥) → (is_connected_by false ts ≡ false → queued_from false ts ≡ []) → is_connected_by (connects false x) ts ≡ false →
        message_of x ++ queued_from (connects false x) ts ≡ []
    by (to_queue m) never rest e = absurd (never tt)
    by (at_once item.connect) never rest e = let differ : true ≡ false = sym (stays_connected ts) ∙ e in cc differ
    by (at_once i) never rest e = rest e

-- ---- what waits

requests_last : (xs ys : List ClientMessage) → AreRequests (xs ++ ys) → AreRequests ys
requests_last [] ys r = r
requests_last (x ∷ xs) ys r = requests_last xs ys r.1

module _ (app : App) (number : ℕ) (C : List Moment) where
  one_request : (connected : Bool) (x : Taken) → IsRight app number C connected x → IsSorted x → (ms : List ClientMessage) → AreRequests ms →
      AreRequests (message_of x ++ ms)
  one_request connected (at_once i) r s ms rest = rest
  one_request connected (to_queue m) r s ms rest = ((s, r), rest)

  requests_from : (connected : Bool) (ts : List (List ℕ)) → AreRequests (queued_from connected ts)
  requests_from connected [] = tt
  requests_from connected (t ∷ ts) =
      let x = taken_text connected t in
      one_request connected x (taken_right app number C connected t) (taken_sorted connected t) (queued_from (connects connected x) ts)
      (requests_from (connects connected x) ts)

  -- the message that is handled next is a request with a short id, and the session is connected
  pub next_request : (taken : List (List ℕ)) (items : List Item) (m : ClientMessage) (ms : List ClientMessage) → Answers taken items (m ∷ ms) →
      ((is_request m ≡ true) × IsShort (id_of m)) × (is_connected_by false taken ≡ true)
  next_request taken items m ms a = (first, by (is_connected_by false taken) refl)
    where
      first : (is_request m ≡ true) × IsShort (id_of m)
      first = (requests_last (handled items) (m ∷ ms) (subst AreRequests a.in_turn (requests_from false taken))).0

      some : (xs : List ClientMessage) → xs ++ m ∷ ms ≡ [] → ⊥
      some [] e = cc e
      some (x ∷ xs) e = cc e

      by : (b : Bool) → is_connected_by false taken ≡ b → b ≡ true
      by true e = refl
      by false e = absurd (some (handled items) (sym a.in_turn ∙ none_queued taken e))

-- ---- a request is handled

module _ (app : App) (number : ℕ) (C : List Moment) (st : State) (connected : st.connected ≡ true) (free : st.blocking ≡ None) where
  is_handled : (m : ClientMessage) (i : Item) → IsShort (id_of m) → item_for app number st m ≡ i → IsHandled app number st m i
  is_handled m i short e = record { connected = connected; free = free; short = short; made = e }

  opened_turn : (id name : List ℕ) (params : List Val) (made : Making) → let m = client.sub id name params in IsShort id →
      item_for app number st m ≡ opened_by st.opened m made → IsTurn app number C st m (opened_by st.opened m made)
  opened_turn id name params (Ok cursors) short e =
      let m = client.sub id name params in record { can = is_handled m (item.subscribe st.opened m cursors) short e; answers = refl; later = refl }
  opened_turn id name params (Err x) short e =
      let m = client.sub id name params in record { can = is_handled m (item.nosub m (Some x)) short e; answers = refl; later = refl }

  closed_turn : (id : List ℕ) (o : Option ℕ) → let m = client.unsub id in IsShort id → item_for app number st m ≡ closed_by m o →
      IsTurn app number C st m (closed_by m o)
  closed_turn id None short e = let m = client.unsub id in record { can = is_handled m (item.nosub m None) short e; answers = refl; later = refl }
  closed_turn id (Some s) short e = let m = client.unsub id in record { can = is_handled m (item.close s m) short e; answers = refl; later = refl }

  pub request_turn : (m : ClientMessage) → is_request m ≡ true → IsShort (id_of m) → IsTurn app number C st m (item_for app number st m)
  request_turn (client.sub id name params) r short =
      let m = client.sub id name params in
      let opened = opened_by st.opened m (making app name params) in
      let crowded = item.nosub m (Some fault.TooMany) in
      elim (is_some (sub_named id st.subs)) as
      (λ b. is_some (sub_named id st.subs) ≡ b → IsTurn app number C st m (cond b (item.same m) (cond (is_crowded st.subs) crowded opened))) [
        | true ↦ λ e. record {
          can = is_handled m (item.same m) short (ap (λ b. cond b (item.same m) (cond (is_crowded st.subs) crowded opened)) e);
          answers = refl;
          later = refl;
        }
        | false ↦ λ e. elim (is_crowded st.subs) as (λ b. is_crowded st.subs ≡ b → IsTurn app number C st m (cond b crowded opened)) [
          | true ↦ λ f. record {
            can = is_handled m crowded short (ap (λ b. cond b (item.same m) (cond (is_crowded st.subs) crowded opened)) e
                ∙ ap (λ b. cond b crowded opened) f);
            answers = refl;
            later = refl;
          }
          | false ↦ λ f. opened_turn id name params (making app name params) short
              (ap (λ b. cond b (item.same m) (cond (is_crowded st.subs) crowded opened)) e ∙ ap (λ b. cond b crowded opened) f)
        ] refl
      ] refl
  request_turn (client.unsub id) r short = closed_turn id (sub_named id st.subs) short refl
  request_turn (client.method id name params seed) r short =
      let m = client.method id name params seed in
      let called = item.call (length st.methods) m (seed_or number (length st.methods) seed) in
      elim (is_some (method app name)) as (λ b. is_some (method app name) ≡ b → IsTurn app number C st m (cond b called (item.unknown m))) [
        | true ↦ λ e. record { can = is_handled m called short (ap (λ b. cond b called (item.unknown m)) e); answers = refl; later = refl }
        | false ↦ λ e. record { can = is_handled m (item.unknown m) short (ap (λ b. cond b called (item.unknown m)) e); answers = refl; later = refl }
      ] refl
  request_turn (client.connect version support) r short = cc r
  request_turn (client.ping id) r short = cc r
  request_turn (client.pong id) r short = cc r
