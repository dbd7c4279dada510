-- A session that is connected says so.
use Rattle.std.specs.Prelude.{◌≡◌, ℕ, List, [], ◌∷◌, ◌++◌, map, true, Option, Some, None, is_some, refl}
use Rattle.std.proofs.Common.{ap, ◌∙◌}
use Rattle.ddp_messages.specs.ServerMessage.{ServerMessage}
use Rattle.ddp_messages.specs.ServerMessage as server
use Rattle.client_model.specs.Taking.{session_in}
use Rattle.headline.specs.session_model.Items.{Item}
use Rattle.headline.specs.session_model.Items as item
use Rattle.headline.specs.session_model.State.{State, started, after, state_from, state_of}
use Rattle.headline.specs.session_model.Moments.{Moment}
use Rattle.headline.specs.session_model.Shown.{Calls, call_of, merge_of, difference}
use Rattle.headline.specs.session_model.Out.{session_name, about, updated, told_after, messages_of, out_from, out}
use Rattle.headline.specs.Fitting.{session_after}

after_more : (s : Option (List ℕ)) (xs ys : List ServerMessage) → session_after s (xs ++ ys) ≡ session_after (session_after s xs) ys
after_more s [] ys = refl
after_more s (x ∷ xs) ys = after_more (session_in s x) xs ys

one_stays : (s : Option (List ℕ)) (m : ServerMessage) → is_some s ≡ true → is_some (session_in s m) ≡ true
one_stays s (server.connected name) e = refl
one_stays s m e = e

stays : (s : Option (List ℕ)) (ms : List ServerMessage) → is_some s ≡ true → is_some (session_after s ms) ≡ true
stays s [] e = e
stays s (m ∷ ms) e = stays (session_in s m) ms (one_stays s m e)

-- `connected` is among the messages
there : (s : Option (List ℕ)) (xs : List ServerMessage) (name : List ℕ) (ys : List ServerMessage) →
    is_some (session_after s (xs ++ server.connected name ∷ ys)) ≡ true
there s [] name ys = stays (Some name) ys refl
there s (x ∷ xs) name ys = there (session_in s x) xs name ys

module _ (C : List Moment) (number : ℕ) where
  one_says : (past : Calls) (st : State) (i : Item) (s : Option (List ℕ)) → (st.connected ≡ true → is_some s ≡ true) → (after st i).connected ≡ true →
      is_some (session_after s (messages_of C number past st i)) ≡ true
  one_says past st item.connect s had e = there s (map about (difference (merge_of past) (merge_of (call_of C st item.connect ∷ past))))
      (session_name number) (map updated (told_after st item.connect))
  one_says past st i s had e = stays s (messages_of C number past st i) (had e)

  says : (past : Calls) (st : State) (items : List Item) (s : Option (List ℕ)) → (st.connected ≡ true → is_some s ≡ true) →
      (state_from st items).connected ≡ true → is_some (session_after s (out_from C number past st items)) ≡ true
  says past st [] s had e = had e
  says past st (i ∷ items) s had e =
      let ms = messages_of C number past st i in
      let past2 = call_of C st i ∷ past in
      ap (λ o. is_some o) (after_more s ms (out_from C number past2 (after st i) items))
      ∙ says past2 (after st i) items (session_after s ms) (λ f. one_says past st i s had f) e

-- a client that took all messages of a session that is connected has its name
pub connected_says : (C : List Moment) (number : ℕ) (items : List Item) → (state_of items).connected ≡ true →
    is_some (session_after None (out C number items)) ≡ true
connected_says C number items e = says C number [] started items None (λ f. cc f) e
