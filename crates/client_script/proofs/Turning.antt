-- What a turn comes to.
use Rattle.std.specs.Prelude.{◌≡◌, ◌≤◌, ℕ, List, [], length, take, slice_get, Bool, true, false, Option, None, option_to_list, Ok, refl}
use Rattle.std.proofs.Common.{ap, sym, ◌∙◌, subst}
use Rattle.duct.specs.Calls.{Call}
use Rattle.client_script.specs.declared.line.Line.{Line}
use Rattle.client_script.specs.declared.end.ConsoleEnd.{ConsoleEnd}
use Rattle.client_script.specs.declared.end.ConsoleEnd.TheVariants as ended
use Rattle.client_script.specs.Speaking.{Look, Deed, goes_on}
use Rattle.client_script.specs.Ends.{refusal_of, is_version, is_closed, IsDone, Cuts, Loses, IsLeft, Ran}
use Rattle.client_script.specs.Moving.{RunsLines, RunsAll, Moves, Stands, Polls, Turns}
use Rattle.std.proofs.lemmas.List.{append-nil}
use Rattle.duct.specs.Told.{CountsFaults}
use Rattle.client_script.proofs.Courses.{as_then, grows_none, stands_by, stands_then}
use Rattle.client_script.proofs.LinesRun.{no_move}
use Rattle.client_script.proofs.Stopping.{still_goes_on, stops, no_poll, by_answer}

module _ {S L : Type 0} (look : S → Look) (does : S → Deed → S → Type 0) (steps_of : L → Call → L → Type 0) (script : List Line) (begin : ℕ) (s : S) (l : L) (held k : Option (List ℕ))
    (line : ℕ) (s₁ : S) (held₁ : Option (List ℕ)) (s₂ : S) (l₂ : L) (k₂ : Option (List ℕ)) (all : Bool) (on : goes_on (look s) ≡ true)
    (r : RunsAll look does script begin s held line s₁ held₁ (Ok all)) (m : Moves look does steps_of s₁ l k s₂ l₂ k₂ [] []) where
  runs : (b : Bool) → RunsAll look does script begin s held line s₁ held₁ (Ok b) → RunsLines look does script begin s held line s₁ held₁
  runs true r = r.0
  runs false r = r

  stands : Stands look does steps_of script begin s l held k line s₂ l₂ held₁ k₂
  stands = stands_by look does steps_of script begin s held line s₁ held₁ l k s₂ l₂ k₂ (runs all r) m

  pub goes_on_still : goes_on (look s₂) ≡ true
  goes_on_still = still_goes_on (look s) (look s₂) (as_then (look s) (look s₁) (look s₂) (runs all r).same m.same) on

  -- it ends by what was offered, or since all is done
  ends_at : (end : ConsoleEnd) → is_closed end ≡ false → refusal_of end ≡ None → is_version end ≡ false → IsLeft end s₂ s₂ → Loses end []
      → ((next : Option Line) → Cuts end next (look s₂) []) → IsDone end (look s₂) script line (option_to_list k₂) → Ran look does steps_of script begin s l held k line s₂ l₂ held₁ end
  ends_at end closed refused failed now loses cuts done =
      stops look does steps_of script begin s l held k line s₂ l₂ held₁ k₂ s₂ l₂ end stands (no_poll look does steps_of script s₂ l₂ k₂ line end goes_on_still closed refused failed now loses (cuts (slice_get script line)) done)

  pub link_failed : Ran look does steps_of script begin s l held k line s₂ l₂ held₁ ended.LinkFault
  link_failed = ends_at ended.LinkFault refl refl refl refl refl (λ next. refl) tt

  pub no_memory : Ran look does steps_of script begin s l held k line s₂ l₂ held₁ ended.Memory
  no_memory = ends_at ended.Memory refl refl refl tt tt (λ next. refl) tt

  pub all_done : all ≡ true → (look s₂).waiting ≡ [] → k₂ ≡ None → (look s₂).is_connected ≡ true → (look s₂).is_settled ≡ true → Ran look does steps_of script begin s l held k line s₂ l₂ held₁ ended.Done
  all_done is waiting none connected settled =
      let P : Bool → Type 0 = λ b. RunsAll look does script begin s held line s₁ held₁ (Ok b) in
      let whole : RunsAll look does script begin s held line s₁ held₁ (Ok true) = subst P is r in
      ends_at ended.Done refl refl refl refl refl (λ next. refl) (whole.1, connected, settled, waiting, ap option_to_list none)

  -- it goes on behind a poll, or ends by it
  pub polled : (s₃ : S) (l₃ : L) (result : Option ConsoleEnd) → Polls look does steps_of s₂ l₂ s₃ l₃ result → Turns look does steps_of script begin s l held k line s₃ l₃ held₁ k₂ result
  polled s₃ l₃ result p = by_answer look does steps_of script begin s l held k line s₂ l₂ held₁ k₂ stands goes_on_still s₃ l₃ p.0 result p.1 p.2

-- ---- turns one after another

module _ {S L : Type 0} (look : S → Look) (does : S → Deed → S → Type 0) (steps_of : L → Call → L → Type 0) where
  pub stands_none : (script : List Line) (begin : ℕ) (s : S) (l : L) (held k : Option (List ℕ)) → begin ≤ length script → Stands look does steps_of script begin s l held k begin s l held k
  stands_none script begin s l held k within = record {
    ran_lines = [];
    bytes = [];
    moves = no_move look does steps_of s l k;
    lines = sym (append-nil (take begin script));
    within = within;
    grows = grows_none held held refl;
  }

  pub turned : (script : List Line) (begin : ℕ) (s : S) (l : L) (held k : Option (List ℕ)) (line₁ : ℕ) (s₁ : S) (l₁ : L) (held₁ k₁ : Option (List ℕ)) (line₂ : ℕ) (s₂ : S) (l₂ : L) (held₂ k₂ : Option (List ℕ)) (result : Option ConsoleEnd)
      → Stands look does steps_of script begin s l held k line₁ s₁ l₁ held₁ k₁ → result ≡ None → Turns look does steps_of script line₁ s₁ l₁ held₁ k₁ line₂ s₂ l₂ held₂ k₂ result
      → Stands look does steps_of script begin s l held k line₂ s₂ l₂ held₂ k₂
  turned script begin s l held k line₁ s₁ l₁ held₁ k₁ line₂ s₂ l₂ held₂ k₂ result a is t =
      let P : Option ConsoleEnd → Type 0 = λ r. Turns look does steps_of script line₁ s₁ l₁ held₁ k₁ line₂ s₂ l₂ held₂ k₂ r in
      stands_then look does steps_of script begin s l held k line₁ s₁ l₁ held₁ k₁ line₂ s₂ l₂ held₂ k₂ a (subst P is t)

-- a count stays where nothing failed
pub counts_on : (failed : Option ConsoleEnd → Bool) (result : Option ConsoleEnd) (first before after : ℕ) → result ≡ None → failed None ≡ false → CountsFaults (failed result) before after → before ≡ first → after ≡ first
counts_on failed result first before after is none counts was =
    let P : Bool → Type 0 = λ b. CountsFaults b before after in
    let same : after ≡ before = subst P (ap failed is ∙ none) counts in
    same ∙ was
