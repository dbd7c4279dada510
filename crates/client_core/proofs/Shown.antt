-- What a client shows, as its documents and calls change.
use Rattle.std.specs.Prelude.{Option, None, false}
use Rattle.std.proofs.Common.{◌≡◌, ℕ, zero, suc, ◌≤◌, List, [], ◌∷◌, ◌++◌, length, refl, sym, ap, subst, ◌∙◌}
use Rattle.map_model.specs.Changes.{changed}
use Rattle.value_model.specs.Val.{Entries}
use Rattle.view_model.specs.Views.{View, told, simulated, released}
use Rattle.view_model.specs.ViewLaws.{told_view, released_view}
use Rattle.ejson_value.specs.declared.key.Key.{Key}
use Rattle.ejson_value.specs.Changes.{changes_of}
use Rattle.ejson_value.specs.Key.{key_cmp, key_order}
use Rattle.program_steps.specs.Runs.{Outcome}
use Rattle.stub_simulation.specs.declared.simulation.Simulated.{Simulated}
use Rattle.client_model.specs.Client.{Client, Call}
use Rattle.client_model.specs.Taking.{awaits_update, call_changed, number_changed, all_changed, with_outcome, with_update}
use Rattle.client_model.specs.Asking.{call_limit}
use Rattle.client_model.specs.Showing.{IsShown}
use Rattle.client_model.specs.CallLaws.{still_awaits, others_stay, holds_still}
use Rattle.client_core.specs.Asked.{AreOf}
use Rattle.client_core.proofs.Calling.{entered_shown}

-- ---- as many calls

module _ (f : Call → Call) where
  place_length : (place : ℕ) (calls : List Call) → length (call_changed place f calls) ≡ length calls
  place_length place [] = refl
  place_length zero (call ∷ calls) = refl
  place_length (suc place) (call ∷ calls) = ap suc (place_length place calls)

  number_length : (n : ℕ) (calls : List Call) → length (number_changed n f calls) ≡ length calls
  number_length zero calls = refl
  number_length (suc n) calls = place_length n calls

  all_length : (ns : List ℕ) (calls : List Call) → length (all_changed ns f calls) ≡ length calls
  all_length [] calls = refl
  all_length (n ∷ ns) calls = all_length ns (number_changed n f calls) ∙ number_length n calls

within : (n m : ℕ) → n ≡ m → m ≤ call_limit → n ≤ call_limit
within n m e h = subst (λ k. k ≤ call_limit) (sym e) h

-- ---- what is kept

-- a call that came to something
pub finished_shown : (c : Client) (n : ℕ) (outcome : Outcome) (calls : List Call) → calls ≡ number_changed n (with_outcome outcome) c.calls → IsShown c × (length c.calls ≤ call_limit)
    → IsShown (record c { calls = calls }) × (length calls ≤ call_limit)
finished_shown c n outcome calls is w =
    let finished : IsShown (record c { calls = number_changed n (with_outcome outcome) c.calls }) = record {
      view = w.0.view;
      awaited = λ k m h. still_awaits (with_outcome outcome) (λ call. refl) (n ∷ []) c.calls m ∙ w.0.awaited k m h;
    } in
    (subst (λ (cs : List Call). IsShown (record c { calls = cs })) (sym is) finished, within (length calls) (length c.calls) (ap length is ∙ number_length (with_outcome outcome) n c.calls) w.1)

-- calls that are updated, with what they held
pub updated_shown : (c : Client) (ns : List ℕ) (documents : View Key Entries) (calls : List Call) → documents ≡ released key_cmp ns c.documents → calls ≡ all_changed ns with_update c.calls
    → IsShown c × (length c.calls ≤ call_limit) → IsShown (record c { documents = documents; calls = calls }) × (length calls ≤ call_limit)
updated_shown c ns documents calls over is w =
    let updated : IsShown (record c { documents = released key_cmp ns c.documents; calls = all_changed ns with_update c.calls }) = record {
      view = released_view key_order ns c.documents w.0.view;
      awaited = λ k n h. let before = holds_still ns c.documents.pending k n w.0.view.pending h in ap awaits_update (others_stay with_update ns c.calls n before.1) ∙ w.0.awaited k n before.0;
    } in (
      subst (λ (ds : View Key Entries). IsShown (record c { documents = ds; calls = calls })) (sym over)
          (subst (λ (cs : List Call). IsShown (record c { documents = released key_cmp ns c.documents; calls = cs })) (sym is) updated),
      within (length calls) (length c.calls) (ap length is ∙ all_length with_update ns c.calls) w.1,
    )

-- a message about a document
pub told_shown : (c : Client) (k : Key) (d : Option Entries) (documents : View Key Entries) → documents ≡ told key_cmp k d c.documents → IsShown c × (length c.calls ≤ call_limit)
    → IsShown (record c { documents = documents }) × (length c.calls ≤ call_limit)
told_shown c k d documents is w =
    let after : IsShown (record c { documents = told key_cmp k d c.documents }) = record { view = told_view key_order k d c.documents w.0.view; awaited = w.0.awaited } in
    (subst (λ (ds : View Key Entries). IsShown (record c { documents = ds })) (sym is) after, w.1)

-- a call more, with its simulation
pub call_shown : (c : Client) (number : ℕ) (s : Simulated) (waiting : List (List ℕ)) (documents : View Key Entries) (calls : List Call) → number ≡ suc (length c.calls) → number ≤ call_limit
    → documents ≡ simulated key_cmp number (changed key_cmp c.documents.view (changes_of s.changes)) s.touched c.documents → calls ≡ c.calls ++ record { outcome = None; is_updated = false } ∷ []
    → AreOf c.documents.view s → IsShown c → IsShown (record c { waiting = waiting; documents = documents; calls = calls }) × (length calls ≤ call_limit)
call_shown c number s waiting documents calls next few shown more are w =
    let before = entered_shown s [] c are w in
    let after : IsShown (record c { waiting = waiting; documents = simulated key_cmp (suc (length c.calls)) (changed key_cmp c.documents.view (changes_of s.changes)) s.touched c.documents; calls = c.calls ++ record { outcome = None; is_updated = false } ∷ [] }) =
    record { view = before.view; awaited = before.awaited } in
    let is = shown ∙ ap (λ n. simulated key_cmp n (changed key_cmp c.documents.view (changes_of s.changes)) s.touched c.documents) next in (
      subst (λ (ds : View Key Entries). IsShown (record c { waiting = waiting; documents = ds; calls = calls })) (sym is)
          (subst (λ (cs : List Call). IsShown (record c { waiting = waiting; documents = simulated key_cmp (suc (length c.calls)) (changed key_cmp c.documents.view (changes_of s.changes)) s.touched c.documents; calls = cs })) (sym more) after),
      within (length calls) number (ap length more ∙ one_more c.calls ∙ sym next) few,
    )
  where
    one_more : (calls : List Call) → length (calls ++ record { outcome = None; is_updated = false } ∷ []) ≡ suc (length calls)
    one_more [] = refl
    one_more (call ∷ calls) = ap suc (one_more calls)
