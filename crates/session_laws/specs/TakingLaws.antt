-- Laws: What comes of a text at once, as the journal reads it.
use Rattle.std.specs.Prelude.{◌≡◌, ℕ, List, [], ◌∷◌, ◌++◌, drop, length, not, nat_lt, ◌&&◌, Bool, true, false, cond, codes, Option, Some, None}
use Rattle.std.specs.Prelude.{option_and_then, refl}
use Rattle.std.proofs.Common.{ap, sym, subst, ◌∙◌}
use Rattle.serde_json.specs.Data.{Data}
use Rattle.serde_json.specs.Read as json
use Rattle.value_model.specs.Size.{is_name}
use Rattle.serde_json.specs.Find.{as_str}
use Rattle.ddp_messages.specs.Forms.{texts_of}
use Rattle.ddp_messages.specs.Fields.{name_of, needed, optional, map₂}
use Rattle.ddp_messages.specs.ClientMessage.{ClientMessage, client_named, client_reading}
use Rattle.ddp_messages.specs.ClientMessage as client
use Rattle.app_model.specs.App.{App}
use Rattle.session_model.specs.Items.{Item}
use Rattle.session_model.specs.Items as item
use Rattle.session_model.specs.State.{State, own_after}
use Rattle.session_model.specs.Moments.{Moment}
use Rattle.session_model.specs.Out.{own_messages}
use Rattle.session_model.specs.Taking.{max_text, Taken, at_once, to_queue, refused_for, connected_by, taken_as, taken_named, taken_tree, taken_text}
use Rattle.session_model.specs.Taking.{is_connected_by}
use Rattle.session_model.specs.Answering.{is_at_once}
use Rattle.session_journal_laws.specs.Resolved.{item_or_pong, resolved}
use Rattle.session_journal_laws.specs.ResolvedLaws.{last_taken}
use Rattle.session_laws.specs.Storing.{kept_as}
use Rattle.session_laws.specs.Meaning.{is_request, AreOpen}
use Rattle.session_laws.specs.Taking.{IsNever, IsOnce}

-- ---- what is answered at once is such an item, and what waits such a message

once_if : (b : Bool) (x y : Taken) → IsOnce x → IsOnce y → IsOnce (cond b x y)
once_if true x y p q = p
once_if false x y p q = q

once_version : (version : List ℕ) → is_at_once (connected_by version) ≡ true
once_version version = elim (is_name version (codes "1")) as (λ b. is_at_once (cond b item.connect item.fail) ≡ true) [ true ↦ refl | false ↦ refl ]

once_as : (d : Data) (o : Option ClientMessage) → IsOnce (taken_as d o)
once_as d None = refl
once_as d (Some (client.connect version support)) = once_version version
once_as d (Some (client.ping id)) = refl
once_as d (Some (client.pong id)) = refl
once_as d (Some (client.sub id name params)) = refl
once_as d (Some (client.unsub id)) = refl
once_as d (Some (client.method id name params seed)) = refl

once_named : (connected : Bool) (d : Data) (o : Option (List ℕ)) → IsOnce (taken_named connected d o)
once_named connected d None = refl
once_named connected d (Some name) = once_if (not connected && not (is_name name (codes "connect"))) _ _ refl
    (once_if (connected && is_name name (codes "connect")) _ _ refl (once_as d (client_reading d)))

once_tree : (connected : Bool) (o : Option Data) → IsOnce (taken_tree connected o)
once_tree connected None = refl
once_tree connected (Some d) = once_named connected d (name_of d)

once_text : (connected : Bool) (t : List ℕ) → IsOnce (taken_text connected t)
once_text connected t = once_if (nat_lt max_text (length t)) _ _ refl (once_tree connected (json.read t))

pub answered_once : (connected : Bool) (t : List ℕ) (i : Item) → taken_text connected t ≡ at_once i → is_at_once i ≡ true
answered_once connected t i e = subst IsOnce e (once_text connected t)

pub queued_waits : (connected : Bool) (t : List ℕ) (message : ClientMessage) → taken_text connected t ≡ to_queue message → is_request message ≡ true
queued_waits connected t message e = subst IsOnce e (once_text connected t)

-- ---- a session that isn't connected lets no message wait

never_if : (b : Bool) (x y : Taken) → IsNever x → IsNever y → IsNever (cond b x y)
never_if true x y p q = p
never_if false x y p q = q

never_connect : (d : Data) (version : Option (List ℕ)) (support : Option (Option (List (List ℕ)))) → IsNever (taken_as d (map₂ client.connect version support))
never_connect d None support = tt
never_connect d (Some version) None = tt
never_connect d (Some version) (Some support) = tt

never_named : (d : Data) (o : Option (List ℕ)) → name_of d ≡ o → IsNever (taken_named false d o)
never_named d None e = tt
never_named d (Some name) e =
    elim (is_name name (codes "connect")) as
    (λ b. is_name name (codes "connect") ≡ b → IsNever (cond (not b) (refused_for (codes "Must connect first") d)
    (cond (false && b) (refused_for (codes "Already connected") d) (taken_as d (client_reading d))))) [
      | true ↦ λ is. subst (λ (o : Option (List ℕ)). IsNever (taken_as d (option_and_then (client_named d) o))) (sym e)
          (rw is (never_connect d (needed as_str (codes "version") d) (optional texts_of (codes "support") d)))
      | false ↦ λ is. tt
    ] refl

never_tree : (o : Option Data) → IsNever (taken_tree false o)
never_tree None = tt
never_tree (Some d) = never_named d (name_of d) refl

never_text : (t : List ℕ) → IsNever (taken_text false t)
never_text t = never_if (nat_lt max_text (length t)) _ _ tt (never_tree (json.read t))

pub queued_connected : (connected : Bool) (t : List ℕ) (message : ClientMessage) → taken_text connected t ≡ to_queue message → connected ≡ true
queued_connected true t message e = refl
queued_connected false t message e = absurd (subst IsNever e (never_text t))

-- ---- such an item

-- it says the same over each store
pub once_says : (C : List Moment) (number : ℕ) (st : State) (i : Item) → is_at_once i ≡ true → own_messages [] number st i ≡ own_messages C number st i
once_says C number st item.connect e = refl
once_says C number st item.fail e = refl
once_says C number st (item.ping id) e = refl
once_says C number st item.pong e = refl
once_says C number st (item.bad reason offending) e = refl
once_says C number st i e = cc e

-- it leaves the subscriptions
pub once_subs : (st : State) (i : Item) → is_at_once i ≡ true → (own_after st i).subs ≡ st.subs
once_subs st item.connect e = refl
once_subs st item.fail e = refl
once_subs st (item.ping id) e = refl
once_subs st item.pong e = refl
once_subs st (item.bad reason offending) e = refl
once_subs st i e = cc e

-- what is kept of it reads as the item, by the text that was taken last
pub once_resolved : (app : App) (number : ℕ) (taken : List (List ℕ)) (t : List ℕ) (i : Item) → is_at_once i ≡ true →
    taken_text (is_connected_by false taken) t ≡ at_once i →
    resolved app number (taken ++ t ∷ []) (kept_as (length taken) i) ≡ i
once_resolved app number taken t item.connect e is = refl
once_resolved app number taken t item.fail e is = refl
once_resolved app number taken t (item.ping id) e is = ap item_or_pong (last_taken taken t ∙ is)
once_resolved app number taken t item.pong e is = refl
once_resolved app number taken t (item.bad reason offending) e is = ap item_or_pong (last_taken taken t ∙ is)
once_resolved app number taken t i e is = cc e

-- an item leaves a session connected that is
pub still_connected : (st : State) (i : Item) → st.connected ≡ true → (own_after st i).connected ≡ true
still_connected st item.connect e = refl
still_connected st item.fail e = e
still_connected st (item.ping id) e = e
still_connected st item.pong e = e
still_connected st (item.bad reason offending) e = e
still_connected st (item.subscribe s message cursors) e = e
still_connected st (item.same message) e = e
still_connected st (item.nosub message fault) e = e
still_connected st (item.close s message) e = e
still_connected st (item.call k message seed) e = e
still_connected st (item.unknown message) e = e
still_connected st (item.load s place) e = e
still_connected st (item.advance s count) e = e
still_connected st (item.refused k place) e = e
still_connected st (item.unblocked k) e = e
still_connected st (item.finished k place) e = e

-- where messages wait, the session is connected
pub open_after : (st : State) (i : Item) (b : Bool) (ms : List ClientMessage) → b ≡ (own_after st i).connected → AreOpen st.connected ms → AreOpen b ms
open_after st i b [] e o = tt
open_after st i b (m ∷ ms) e o = e ∙ still_connected st i o

pub open_less : (b : Bool) (ms : List ClientMessage) → AreOpen b ms → AreOpen b (drop 1 ms)
open_less b [] o = tt
open_less b (m ∷ []) o = tt
open_less b (m ∷ n ∷ ms) o = o

pub open_more : (b : Bool) (ms : List ClientMessage) (m : ClientMessage) → b ≡ true → AreOpen b (ms ++ m ∷ [])
open_more b [] m e = e
open_more b (n ∷ ms) m e = e
