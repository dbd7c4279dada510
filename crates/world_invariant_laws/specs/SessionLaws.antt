-- Laws: A session in a world: its journal fits what its history was at each place and answers the texts that it took, and what it sent and is to
-- send are the texts of that journal.
use Rattle.std.specs.Prelude.{◌≡◌, ℕ, List, [], ◌∷◌, ◌++◌, map, Bool, true, false, ◌||◌, Option, Some, None, is_some, refl}
use Rattle.std.proofs.Common.{ap, ap₂, sym, subst, ◌∙◌}
use Rattle.std.proofs.lemmas.List.{append_assoc}
use Rattle.std.proofs.lemmas.List.Folds.{list_any-append}
use Rattle.ddp_messages.specs.ClientMessage.{ClientMessage}
use Rattle.app_model.specs.App.{App}
use Rattle.world_model.specs.history_model.declared.entry.Entry.{Entry}
use Rattle.world_model.specs.history_model.declared.entry.Entry.TheVariants as entry
use Rattle.world_model.specs.history_model.History.{held, begins}
use Rattle.world_model.specs.history_model.BegunLaws.{run_where_begun}
use Rattle.ddp_messages.specs.Texts.{server_text}
use Rattle.world_model.specs.session_model.Items.{Item}
use Rattle.world_model.specs.session_model.Items as item
use Rattle.world_model.specs.session_model.Methods.{Blocking}
use Rattle.world_model.specs.session_model.State.{State, started, state_of}
use Rattle.world_model.specs.session_model.Moments.{Moment, moment_at}
use Rattle.world_model.specs.session_model.Shown.{calls_of}
use Rattle.world_model.specs.session_model.Out.{messages_of}
use Rattle.world_model.specs.session_model.Fits.{IsRefusedAt, CanFollow}
use Rattle.world_model.specs.session_model.Answering.{Answers}
use Rattle.session_journal_laws.specs.Appending.{fits-append, out_texts-append}
use Rattle.session_journal_laws.specs.LongerLaws.{can_follow-longer, fits_from-longer, out_texts-longer}
use Rattle.world_model.specs.Store.{programs, moment_of, moments}
use Rattle.world_model.specs.Conn.{Waiting, Refusal, Conn, state_in}
use Rattle.world_invariant_laws.specs.Lift.{is_by}
use Rattle.world_invariant_laws.specs.Moments.{moments-append}
use Rattle.world_invariant_laws.specs.Begun.{runs_of, foreign_begins, same_begun, foreign_kept}
use Rattle.world_invariant_laws.specs.Session.{IsRefusal, IsServed, IsSession}

-- ---- one item more

pub item_session : (app : App) (number : ℕ) (C : List Moment) (received later : List (List ℕ)) (queue next : List ClientMessage) (items : List Item)
    (i : Item) (sent outbox : List (List ℕ)) →
    IsSession app number C received queue items sent outbox → CanFollow app number C (state_of items) i → Answers later (items ++ i ∷ []) next →
    IsSession app number C later next (items ++ i ∷ []) sent (outbox ++ map server_text (messages_of C number (calls_of C items) (state_of items) i))
item_session app number C received later queue next items i sent outbox p f a = record {
  fits = fits-append app number C started items i p.fits f;
  answers = a;
  texts =
      let more = map server_text (messages_of C number (calls_of C items) (state_of items) i) in
      sym (append_assoc sent outbox more) ∙ (ap (λ ts. ts ++ more) p.texts ∙ sym (out_texts-append number C items i));
}

-- a text of the outbox goes
pub sent_session : (app : App) (number : ℕ) (C : List Moment) (received : List (List ℕ)) (queue : List ClientMessage) (items : List Item)
    (sent : List (List ℕ)) (t : List ℕ) (ts : List (List ℕ)) →
    IsSession app number C received queue items sent (t ∷ ts) → IsSession app number C received queue items (sent ++ t ∷ []) ts
sent_session app number C received queue items sent t ts p = record { fits = p.fits; answers = p.answers; texts = append_assoc sent (t ∷ []) ts ∙ p.texts }

-- later moments leave a session
longer_session : (app : App) (number : ℕ) (C more : List Moment) (received : List (List ℕ)) (queue : List ClientMessage) (items : List Item)
    (sent outbox : List (List ℕ)) →
    IsSession app number C received queue items sent outbox → IsSession app number (C ++ more) received queue items sent outbox
longer_session app number C more received queue items sent outbox p = record {
  fits = fits_from-longer app number C more started items p.fits;
  answers = p.answers;
  texts = p.texts ∙ sym (out_texts-longer app number C more items p.fits);
}

-- ---- entries

pub entry_session : (app : App) (h : List Entry) (c : Conn) (e : Entry) → IsServed app h c →
    IsSession app c.number (moments app c.number (h ++ e ∷ [])) c.received (map (λ (w : Waiting). w.message) c.queue) c.items c.sent c.outbox
entry_session app h c e p =
    let C = moments app c.number h in
    let more = moment_of app c.number (held (programs app) (h ++ e ∷ [])) ∷ [] in
    subst (λ (D : List Moment). IsSession app c.number D c.received (map (λ (w : Waiting). w.message) c.queue) c.items c.sent c.outbox)
    (sym (moments-append app c.number h e))
    (longer_session app c.number C more c.received (map (λ (w : Waiting). w.message) c.queue) c.items c.sent c.outbox p.session)

or_false : (b : Bool) → (b || false) ≡ b
or_false true = refl
or_false false = refl

runs-append : (app : App) (number : ℕ) (h : List Entry) (e : Entry) (k : ℕ) →
    is_some (runs_of app number (h ++ e ∷ []) k) ≡ (is_some (runs_of app number h k) || begins (number, k) e)
runs-append app number h e k =
    run_where_begun (programs app) (h ++ e ∷ []) number k
    ∙ (list_any-append (begins (number, k)) h (e ∷ [])
    ∙ ap₂ (λ a b. a || b) (sym (run_where_begun (programs app) h number k)) (or_false (begins (number, k) e)))

entry_refusal : (app : App) (h : List Entry) (number : ℕ) (e : Entry) (blocking : Option Blocking) (kept : Option Refusal) →
    ((k : ℕ) → begins (number, k) e ≡ false) → (st : State) → st.blocking ≡ blocking →
    IsRefusal (moments app number h) (runs_of app number h) kept blocking →
    IsRefusal (moments app number (h ++ e ∷ [])) (runs_of app number (h ++ e ∷ [])) kept blocking
entry_refusal app h number e blocking None apart st b p = tt
entry_refusal app h number e blocking (Some r) apart st b p =
    let more = moment_of app number (held (programs app) (h ++ e ∷ [])) ∷ [] in (
      subst (λ (D : List Moment). IsRefusedAt (moment_at D r.at) r.k blocking) (sym (moments-append app number h e))
          (subst (λ o. IsRefusedAt (moment_at (moments app number h ++ more) r.at) r.k o) b
          (can_follow-longer app number (moments app number h) more st (item.refused r.k r.at)
          (subst (λ o. IsRefusedAt (moment_at (moments app number h) r.at) r.k o) (sym b) p.0))),
      runs-append app number h e r.k ∙ (ap (λ x. is_some (runs_of app number h r.k) || x) (apart r.k) ∙ (or_false (is_some (runs_of app number h r.k)) ∙ p.1)),
    )

pub longer_served : (app : App) (h : List Entry) (c : Conn) (e : Entry) → is_by c.number e ≡ false → IsServed app h c → IsServed app (h ++ e ∷ []) c
longer_served app h c e apart p = record {
  session = entry_session app h c e p;
  begun = foreign_kept app c.number h c.items e apart p.begun;
  refusal = entry_refusal app h c.number e (state_in c).blocking c.kept (λ k. foreign_begins c.number k e apart) (state_in c) refl p.refusal;
}

-- a step of the session's own
pub step_served : (app : App) (h : List Entry) (c : Conn) (k : ℕ) → IsServed app h c → IsServed app (h ++ entry.Step c.number k ∷ []) c
step_served app h c k p = record {
  session = entry_session app h c (entry.Step c.number k) p;
  begun = same_begun app c.number h c.items (entry.Step c.number k) refl (λ j. refl) p.begun;
  refusal = entry_refusal app h c.number (entry.Step c.number k) (state_in c).blocking c.kept (λ j. refl) (state_in c) refl p.refusal;
}
