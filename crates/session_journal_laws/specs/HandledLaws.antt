-- Laws: What the message of an item says, where the item is made of it.
use Rattle.std.specs.Prelude.{◌≡◌, ℕ, ◌==◌, List, [], ◌∷◌, length, true, false, cond, Option, Some, None, Ok, Err, is_some, refl}
use Rattle.std.proofs.Common.{ap, sym, subst, ◌∙◌}
use Rattle.std.proofs.lemmas.Bool.{eq-eqb}
use Rattle.value_model.specs.Size.{is_name}
use Rattle.ddp_messages.specs.ClientMessage.{ClientMessage}
use Rattle.ddp_messages.specs.ClientMessage as client
use Rattle.publication.specs.Cursors.{ACursors}
use Rattle.app_model.specs.App.{App, method}
use Rattle.session_model.specs.declared.fault.SubFault.TheVariants as fault
use Rattle.session_model.specs.Publication.{Making, making}
use Rattle.session_model.specs.Items.{id_of}
use Rattle.session_model.specs.Items as item
use Rattle.session_model.specs.Subscriptions.{Live, is_live, sub_named, is_crowded}
use Rattle.session_model.specs.State.{State}
use Rattle.session_model.specs.Fits.{seed_or, opened_by, closed_by, item_for}
use Rattle.session_journal_laws.specs.Handled.{IsOpened}

-- ---- a subscription that is opened

opened_made : (m : ClientMessage) (made : Making) (n s : ℕ) (message : ClientMessage) (cursors : ACursors) →
    opened_by n m made ≡ item.subscribe s message cursors → (s ≡ n) × (message ≡ m) × (made ≡ Ok cursors)
opened_made m (Ok x) n s message cursors e = (cc e, cc e, cc e)
opened_made m (Err x) n s message cursors e = cc e

closed_no_open : (m : ClientMessage) (o : Option ℕ) (s : ℕ) (message : ClientMessage) (cursors : ACursors) →
    closed_by m o ≡ item.subscribe s message cursors → ⊥
closed_no_open m None s message cursors e = cc e
closed_no_open m (Some r) s message cursors e = cc e

pub open_is : (app : App) (number : ℕ) (st : State) (m : ClientMessage) (s : ℕ) (message : ClientMessage) (cursors : ACursors) →
    item_for app number st m ≡ item.subscribe s message cursors → IsOpened app st s message cursors
open_is app number st (client.sub id name params) s message cursors e =
    let m = client.sub id name params in
    elim (is_some (sub_named id st.subs)) as
    (λ b. is_some (sub_named id st.subs) ≡ b → cond b (item.same m) (cond (is_crowded st.subs) (item.nosub m (Some fault.TooMany))
    (opened_by st.opened m (making app name params))) ≡ item.subscribe s message cursors → IsOpened app st s message cursors) [
      | true ↦ λ new is. absurd (cc is)
      | false ↦ λ new. elim (is_crowded st.subs) as
          (λ b. is_crowded st.subs ≡ b → cond b (item.nosub m (Some fault.TooMany)) (opened_by st.opened m (making app name params))
          ≡ item.subscribe s message cursors → IsOpened app st s message cursors) [
            | true ↦ λ room is. absurd (cc is)
            | false ↦ λ room is.
                let p = opened_made m (making app name params) st.opened s message cursors is in
                subst (λ x. IsOpened app st s x cursors) (sym p.1) (record { number = p.0; new = new; room = room; made = p.2 })
          ] refl
    ] refl e
open_is app number st (client.unsub id) s message cursors e = absurd (closed_no_open (client.unsub id) (sub_named id st.subs) s message cursors e)
open_is app number st (client.method id name params seed) s message cursors e =
    elim (is_some (method app name)) as
    (λ b. cond b (item.call (length st.methods) (client.method id name params seed) (seed_or number (length st.methods) seed))
    (item.unknown (client.method id name params seed)) ≡ item.subscribe s message cursors → IsOpened app st s message cursors) [
      | true ↦ λ is. absurd (cc is)
      | false ↦ λ is. absurd (cc is)
    ] e
open_is app number st (client.connect version support) s message cursors e = cc e
open_is app number st (client.ping id) s message cursors e = cc e
open_is app number st (client.pong id) s message cursors e = cc e

-- ---- a subscription that is closed

pub named_live : (id : List ℕ) (ls : List Live) (s : ℕ) → sub_named id ls ≡ Some s → is_live s ls ≡ true
named_live id [] s e = cc e
named_live id (l ∷ ls) s e =
    elim (is_name id l.id) as (λ b. cond b (Some l.sub) (sub_named id ls) ≡ Some s → cond (s == l.sub) true (is_live s ls) ≡ true) [
      | true ↦ λ is. let same : s ≡ l.sub = cc is in ap (λ b. cond b true (is_live s ls)) (eq-eqb s l.sub same)
      | false ↦ λ is. ap (cond (s == l.sub) true) (named_live id ls s is) ∙ elim (s == l.sub) as (λ b. cond b true true ≡ true) [ true ↦ refl | false ↦ refl ]
    ] e

closed_is : (m : ClientMessage) (o : Option ℕ) (s : ℕ) (message : ClientMessage) → closed_by m o ≡ item.close s message → (o ≡ Some s) × (message ≡ m)
closed_is m None s message e = cc e
closed_is m (Some r) s message e = (cc e, cc e)

opened_no_close : (m : ClientMessage) (made : Making) (n s : ℕ) (message : ClientMessage) → opened_by n m made ≡ item.close s message → ⊥
opened_no_close m (Ok x) n s message e = cc e
opened_no_close m (Err x) n s message e = cc e

-- it is the live one with the id
pub close_is : (app : App) (number : ℕ) (st : State) (m : ClientMessage) (s : ℕ) (message : ClientMessage) →
    item_for app number st m ≡ item.close s message → sub_named (id_of message) st.subs ≡ Some s
close_is app number st (client.unsub id) s message e =
    let p = closed_is (client.unsub id) (sub_named id st.subs) s message e in subst (λ x. sub_named (id_of x) st.subs ≡ Some s) (sym p.1) p.0
close_is app number st (client.sub id name params) s message e =
    let m = client.sub id name params in
    elim (is_some (sub_named id st.subs)) as
    (λ b. cond b (item.same m) (cond (is_crowded st.subs) (item.nosub m (Some fault.TooMany)) (opened_by st.opened m (making app name params)))
    ≡ item.close s message → sub_named (id_of message) st.subs ≡ Some s) [
      | true ↦ λ is. absurd (cc is)
      | false ↦ elim (is_crowded st.subs) as
          (λ b. cond b (item.nosub m (Some fault.TooMany)) (opened_by st.opened m (making app name params)) ≡ item.close s message →
          sub_named (id_of message) st.subs ≡ Some s) [
            | true ↦ λ is. absurd (cc is)
            | false ↦ λ is. absurd (opened_no_close m (making app name params) st.opened s message is)
          ]
    ] e
close_is app number st (client.method id name params seed) s message e =
    elim (is_some (method app name)) as
    (λ b. cond b (item.call (length st.methods) (client.method id name params seed) (seed_or number (length st.methods) seed))
    (item.unknown (client.method id name params seed)) ≡ item.close s message → sub_named (id_of message) st.subs ≡ Some s) [
      | true ↦ λ is. absurd (cc is)
      | false ↦ λ is. absurd (cc is)
    ] e
close_is app number st (client.connect version support) s message e = cc e
close_is app number st (client.ping id) s message e = cc e
close_is app number st (client.pong id) s message e = cc e

pub close_live : (app : App) (number : ℕ) (st : State) (m : ClientMessage) (s : ℕ) (message : ClientMessage) →
    item_for app number st m ≡ item.close s message → is_live s st.subs ≡ true
close_live app number st m s message e = named_live (id_of message) st.subs s (close_is app number st m s message e)
