-- Laws: Each live subscription of a journal that fits has the cursors that its publication makes with its parameters.
use Rattle.std.specs.Prelude.{◌≡◌, ℕ, ◌==◌, List, [], ◌∷◌, ◌++◌, length, Bool, true, false, cond, not, Option, None, Some, is_some, Ok, Err}
use Rattle.std.proofs.Common.{ap}
use Rattle.app_model.specs.App.{App, method}
use Rattle.connection_laws.specs.publication.Cursors.{ACursors}
use Rattle.ddp_messages.specs.ClientMessage.{ClientMessage}
use Rattle.ddp_messages.specs.ClientMessage as client
use Rattle.connection_laws.specs.session_model.declared.fault.SubFault.TheVariants as fault
use Rattle.connection_laws.specs.session_model.Publication.{Making, making}
use Rattle.connection_laws.specs.session_model.Items.{Item, name_of, params_of}
use Rattle.connection_laws.specs.session_model.Items as item
use Rattle.connection_laws.specs.session_model.Subscriptions.{Live, sub_named, is_crowded, loaded, moved, advanced, closed}
use Rattle.connection_laws.specs.session_model.State.{State, started, opening, after, state_from, state_of}
use Rattle.connection_laws.specs.session_model.Moments.{Moment}
use Rattle.connection_laws.specs.session_model.Fits.{seed_or, opened_by, closed_by, item_for, CanFollow, FitsFrom, Fits}
use Rattle.world_news_laws.specs.Sources.{IsMadeBy, AreMadeBy}
use Rattle.world_news_laws.specs.Made.{cursors_said}

-- ---- a subscription that is opened

opened_is : (s : ℕ) (message : ClientMessage) (t : ℕ) (cursors : ACursors) (r : Making) → opened_by s message r ≡ item.subscribe t message cursors →
    r ≡ Ok cursors
opened_is s message t cursors (Ok made) e = ap (λ (i : Item). let r : Making = Ok (cursors_said i) in r) e
opened_is s message t cursors (Err f) e = cc e

-- an `unsub` opens none
closed_opens : (message : ClientMessage) (t : ℕ) (cursors : ACursors) (X : Type 0) (o : Option ℕ) → closed_by message o ≡ item.subscribe t message cursors → X
closed_opens message t cursors X None e = cc e
closed_opens message t cursors X (Some s) e = cc e

module _ (app : App) (number : ℕ) (st : State) (t : ℕ) (cursors : ACursors) where
  -- the item of a message that opens one has the cursors of its publication
  opens_by : (message : ClientMessage) → item_for app number st message ≡ item.subscribe t message cursors →
      making app (name_of message) (params_of message) ≡ Ok cursors
  opens_by (client.sub id name params) e = sub (is_some (sub_named id st.subs)) (is_crowded st.subs) e
    where
      message : ClientMessage
      message = client.sub id name params

      sub : (a b : Bool) →
          cond a (item.same message)
          (cond b (item.nosub message (Some fault.TooMany)) (opened_by st.opened message (making app name params))) ≡ item.subscribe t message cursors →
          making app name params ≡ Ok cursors
      sub true b e = cc e
      sub false true e = cc e
      sub false false e = opened_is st.opened message t cursors (making app name params) e
  opens_by (client.unsub id) e = closed_opens (client.unsub id) t cursors (making app [] [] ≡ Ok cursors) (sub_named id st.subs) e
  opens_by (client.method id name params seed) e = called (is_some (method app name)) e
    where
      message : ClientMessage
      message = client.method id name params seed

      called : (known : Bool) →
          cond known (item.call (length st.methods) message (seed_or number (length st.methods) seed))
          (item.unknown message) ≡ item.subscribe t message cursors → making app name params ≡ Ok cursors
      called true e = cc e
      called false e = cc e
  opens_by message e = cc e

-- ---- what an item leaves

module _ (app : App) where
  made_more : (ls : List Live) (l : Live) → AreMadeBy app ls → IsMadeBy app l → AreMadeBy app (ls ++ l ∷ [])
  made_more [] l m one = (one, tt)
  made_more (x ∷ ls) l m one = (m.0, made_more ls l m.1 one)

  made_loaded : (s place : ℕ) (ls : List Live) → AreMadeBy app ls → AreMadeBy app (loaded s place ls)
  made_loaded s place [] m = tt
  made_loaded s place (l ∷ ls) m =
      elim (s == l.sub) as
      (λ b. AreMadeBy app (cond b (record l { cursor = Some place } ∷ ls) (l ∷ loaded s place ls)))
      [ true ↦ (m.0, m.1) | false ↦ (m.0, made_loaded s place ls m.1) ]

  made_advanced : (s count : ℕ) (ls : List Live) → AreMadeBy app ls → AreMadeBy app (advanced s count ls)
  made_advanced s count [] m = tt
  made_advanced s count (l ∷ ls) m =
      elim (s == l.sub) as
      (λ b. AreMadeBy app (cond b (record l { cursor = moved count l.cursor } ∷ ls) (l ∷ advanced s count ls)))
      [ true ↦ (m.0, m.1) | false ↦ (m.0, made_advanced s count ls m.1) ]

  made_closed : (s : ℕ) (ls : List Live) → AreMadeBy app ls → AreMadeBy app (closed s ls)
  made_closed s [] m = tt
  made_closed s (l ∷ ls) m = elim (s == l.sub) as
      (λ b. AreMadeBy app (cond (not b) (l ∷ closed s ls) (closed s ls))) [ true ↦ made_closed s ls m.1 | false ↦ (m.0, made_closed s ls m.1) ]

module _ (app : App) (number : ℕ) (C : List Moment) where
  made_after : (st : State) (i : Item) → CanFollow app number C st i → AreMadeBy app st.subs → AreMadeBy app (after st i).subs
  made_after st (item.subscribe s message cursors) f m =
      made_more app st.subs (opening st s message cursors) m (opens_by app number st s cursors message f.made)
  made_after st (item.load s place) f m = made_loaded app s place st.subs m
  made_after st (item.advance s count) f m = made_advanced app s count st.subs m
  made_after st (item.close s message) f m = made_closed app s st.subs m
  made_after st i f m = m

  made_from : (st : State) (items : List Item) → FitsFrom app number C st items → AreMadeBy app st.subs → AreMadeBy app (state_from st items).subs
  made_from st [] f m = m
  made_from st (i ∷ items) f m = made_from (after st i) items f.1 (made_after st i f.0 m)

  pub journal_made : (items : List Item) → Fits app number C items → AreMadeBy app (state_of items).subs
  journal_made items f = made_from started items f tt
