-- One more item at the end of a journal.
use Rattle.std.specs.Prelude.{◌≡◌, ℕ, List, [], ◌∷◌, ◌++◌, length, map, refl}
use Rattle.std.proofs.Common.{ap, sym, ◌∙◌, append-nil}
use Rattle.std.proofs.lemmas.List.{append_assoc, map-append}
use Rattle.ddp_messages.specs.ServerMessage.{ServerMessage}
use Rattle.app_model.specs.App.{App}
use Rattle.ddp_messages.specs.Texts.{server_text}
use Rattle.session_model.specs.Items.{Item, handled_by, handled}
use Rattle.session_model.specs.State.{State, started, after, state_from, state_of}
use Rattle.session_model.specs.Moments.{Moment}
use Rattle.session_model.specs.Shown.{Calls, call_of, calls_from, calls_of}
use Rattle.session_model.specs.Out.{messages_of, out_from, counts_from, out, out_texts}
use Rattle.session_model.specs.Fits.{CanFollow, FitsFrom}

pub state-append : (st : State) (items : List Item) (i : Item) → state_from st (items ++ i ∷ []) ≡ after (state_from st items) i
state-append st [] i = refl
state-append st (j ∷ items) i = state-append (after st j) items i

pub calls-append : (C : List Moment) (past : Calls) (st : State) (items : List Item) (i : Item) →
    calls_from C past st (items ++ i ∷ []) ≡ call_of C (state_from st items) i ∷ calls_from C past st items
calls-append C past st [] i = refl
calls-append C past st (j ∷ items) i = calls-append C (call_of C st j ∷ past) (after st j) items i

pub handled-append : (xs ys : List Item) → handled (xs ++ ys) ≡ handled xs ++ handled ys
handled-append [] ys = refl
handled-append (x ∷ xs) ys = ap (λ rest. handled_by x ++ rest) (handled-append xs ys) ∙ sym (append_assoc (handled_by x) (handled xs) (handled ys))

module _ (app : App) (number : ℕ) (C : List Moment) where
  pub fits-append : (st : State) (items : List Item) (i : Item) → FitsFrom app number C st items → CanFollow app number C (state_from st items) i →
      FitsFrom app number C st (items ++ i ∷ [])
  fits-append st [] i f g = (g, tt)
  fits-append st (j ∷ items) i f g = (f.0, fits-append (after st j) items i f.1 g)

  -- the last item follows the journal before it, which fits
  pub fits-before : (st : State) (items : List Item) (i : Item) → FitsFrom app number C st (items ++ i ∷ []) →
      FitsFrom app number C st items × CanFollow app number C (state_from st items) i
  fits-before st [] i f = (tt, f.0)
  fits-before st (j ∷ items) i f = let rest = fits-before (after st j) items i f.1 in ((f.0, rest.0), rest.1)

module _ (number : ℕ) (C : List Moment) where
  pub out_from-append : (past : Calls) (st : State) (items : List Item) (i : Item) →
      out_from C number past st (items ++ i ∷ []) ≡ out_from C number past st items ++ messages_of C number (calls_from C past st items) (state_from st items) i
  out_from-append past st [] i = append-nil (messages_of C number past st i)
  out_from-append past st (j ∷ items) i =
      let past2 = call_of C st j ∷ past in
      let st2 = after st j in
      ap (λ (ms : List ServerMessage). messages_of C number past st j ++ ms) (out_from-append past2 st2 items i)
      ∙ sym (append_assoc (messages_of C number past st j) (out_from C number past2 st2 items)
      (messages_of C number (calls_from C past2 st2 items) (state_from st2 items) i))

  pub out-append : (items : List Item) (i : Item) →
      out C number (items ++ i ∷ []) ≡ out C number items ++ messages_of C number (calls_of C items) (state_of items) i
  out-append items i = out_from-append [] started items i

  pub out_texts-append : (items : List Item) (i : Item) →
      out_texts C number (items ++ i ∷ []) ≡ out_texts C number items ++ map server_text (messages_of C number (calls_of C items) (state_of items) i)
  out_texts-append items i = ap (map server_text) (out-append items i)
      ∙ map-append server_text (out C number items) (messages_of C number (calls_of C items) (state_of items) i)

  pub counts_from-append : (past : Calls) (st : State) (items : List Item) (i : Item) →
      counts_from C number past st (items ++ i ∷ []) ≡ counts_from C number past st items ++ length
      (messages_of C number (calls_from C past st items) (state_from st items) i) ∷ []
  counts_from-append past st [] i = refl
  counts_from-append past st (j ∷ items) i =
      ap (λ (ns : List ℕ). length (messages_of C number past st j) ∷ ns) (counts_from-append (call_of C st j ∷ past) (after st j) items i)
