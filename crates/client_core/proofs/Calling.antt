-- The next call of a client.
use Rattle.std.specs.Prelude.{decimal, slice_get, All, cond, Some, None, unwrap_or}
use Rattle.std.specs.List.{list_any}
use Rattle.std.specs.Option.{option_or}
use Rattle.std.specs.Ordering.{eq_by_cmp}
use Rattle.std.proofs.Common.{◌≡◌, ℕ, suc, Bool, true, false, true≢false, List, [], ◌∷◌, ◌++◌, length, refl, sym, ap, ◌∙◌}
use Rattle.std.proofs.lemmas.List.Elements.{All-head, All-tail}
use Rattle.map_model.specs.Maps.{at}
use Rattle.map_model.specs.MapLaws.{key_is}
use Rattle.map_model.specs.Changes.{changed, last_at}
use Rattle.map_model.specs.ChangeLaws.{at-changed, sorted-changed}
use Rattle.value_model.specs.Val.{Val}
use Rattle.view_model.specs.Pending.{is_among, holders}
use Rattle.view_model.specs.Views.{simulated}
use Rattle.ejson_value.specs.declared.change.Change.{Change}
use Rattle.ejson_value.specs.declared.key.Key.{Key}
use Rattle.ejson_value.specs.Key.{key_cmp, key_order}
use Rattle.ejson_value.specs.Changes.{changes_of}
use Rattle.program_model.specs.Steps.{Stepped}
use Rattle.ddp_messages.specs.ClientMessage as message
use Rattle.stub_simulation.specs.declared.simulation.Simulated.{Simulated}
use Rattle.stub_simulation.specs.Simulating.{IsSimulated}
use Rattle.ddp_messages.specs.Texts.{client_text}
use Rattle.client_model.specs.Client.{Client, Call}
use Rattle.client_model.specs.Taking.{awaits_update}
use Rattle.client_model.specs.Asking.{seed_of}
use Rattle.client_model.specs.Showing.{IsShown}
use Rattle.client_model.specs.TakingLaws.{called_shown}
use Rattle.client_core.specs.Asked.{called_with, entered, AreOf}

past_end : (calls : List Call) → slice_get calls (length calls) ≡ None
past_end [] = refl
past_end (call ∷ calls) = past_end calls

-- no simulation of the next call's number holds a document
pub next_free : (c : Client) → IsShown c → (k : Key) → is_among (holders key_cmp c.documents.pending k) (suc (length c.calls)) ≡ false
next_free c w k = by (is_among (holders key_cmp c.documents.pending k) (suc (length c.calls))) refl
  where
    by : (b : Bool) → is_among (holders key_cmp c.documents.pending k) (suc (length c.calls)) ≡ b → is_among (holders key_cmp c.documents.pending k) (suc (length c.calls)) ≡ false
    by true e = absurd (true≢false (sym (w.awaited k (suc (length c.calls)) e) ∙ ap awaits_update (past_end c.calls)))
    by false e = e

-- what was entered is the call, with what its stub makes of the view
pub entered_called : (method : List ℕ) (params : List Val) (stub : Stepped) (s : Simulated) (text : List ℕ) (c : Client) → IsSimulated c.documents.view stub s
    → text ≡ client_text (message.method (decimal (suc (length c.calls))) method params (Some (seed_of c.session (suc (length c.calls)))))
    → entered (suc (length c.calls)) text s c ≡ called_with method params stub c
entered_called method params stub s text c w same = λ i. record c {
  waiting = c.waiting ++ same i ∷ [];
  documents = simulated key_cmp (suc (length c.calls)) (w.leads i) (w.touched i) c.documents;
  calls = c.calls ++ record { outcome = None; is_updated = false } ∷ [];
}

-- no change is of a document that isn't touched
outside : (cs : List Change) (touched : List Key) (q : Key) → All (λ (c : Change). list_any (eq_by_cmp key_cmp c.key) touched ≡ true) cs → list_any (eq_by_cmp key_cmp q) touched ≡ false → last_at key_cmp q (changes_of cs) ≡ None
outside [] touched q among none = refl
outside (c ∷ cs) touched q among none =
    let later = outside cs touched q (All-tail (λ (c : Change). list_any (eq_by_cmp key_cmp c.key) touched ≡ true) c cs among) none in
    let here = All-head (λ (c : Change). list_any (eq_by_cmp key_cmp c.key) touched ≡ true) c cs among in
    elim (eq_by_cmp key_cmp q c.key) as (λ b. eq_by_cmp key_cmp q c.key ≡ b → option_or (last_at key_cmp q (changes_of cs)) (cond b (Some c.after) None) ≡ None) [
      | true ↦ λ t. absurd (true≢false (sym here ∙ ap (λ k. list_any (eq_by_cmp key_cmp k) touched) (sym (key_is key_order q c.key t)) ∙ none))
      | false ↦ λ t. ap (λ o. option_or o None) later
    ] refl

-- what was entered keeps what a client shows
pub entered_shown : (s : Simulated) (text : List ℕ) (c : Client) → AreOf c.documents.view s → IsShown c → IsShown (entered (suc (length c.calls)) text s c)
entered_shown s text c are w =
    let view = changed key_cmp c.documents.view (changes_of s.changes) in
    let alone : (q : Key) → list_any (eq_by_cmp key_cmp q) s.touched ≡ false → at key_cmp view q ≡ at key_cmp c.documents.view q = λ q none.
    at-changed key_order c.documents.view (changes_of s.changes) q w.view.view ∙ ap (λ o. unwrap_or o (at key_cmp c.documents.view q)) (outside s.changes s.touched q are.among none) in
    let shown = called_shown c [] [] view s.touched (sorted-changed key_order c.documents.view (changes_of s.changes) w.view.view) alone w in
    record { view = shown.view; awaited = shown.awaited }
