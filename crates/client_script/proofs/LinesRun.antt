-- Lines that were run so far, and texts that were offered.
use Rattle.std.specs.Prelude.{◌≡◌, ◌≤◌, ◌+◌, ◌<◌, ℕ, suc, List, [], ◌∷◌, ◌++◌, length, get_or, take, drop, slice_get, Bool, true, false, Option, Some, None, option_to_list, Ok, Err, refl}
use Rattle.std.proofs.Common.{ap, sym, subst, ◌∙◌, inl, inr, true≢false, add-one, arith}
use Rattle.std.proofs.lemmas.List.{append_assoc, append-nil, take-append-drop}
use mathlib.Core.List.{IsPrefix}
use Rattle.duct.specs.Told.{CountsFaults}
use Rattle.client_script.specs.declared.line.Line.TheVariants as line
use Rattle.std.proofs.lemmas.Option.{slice_get_within, get_or_from_slice_get}
use Rattle.std.proofs.Math.Seq.{take-suc, drop-cons}
use Rattle.io_edge.specs.Outside.{Grows}
use Rattle.duct.specs.declared.link.SendFault.{SendFault}
use Rattle.duct.specs.Calls.{Call}
use Rattle.duct.specs.Calls as call
use Rattle.duct.specs.Polls.{has_closed}
use Rattle.client_script.specs.declared.line.Line.{Line}
use Rattle.client_script.specs.declared.end.ConsoleEnd.{ConsoleEnd}
use Rattle.client_script.specs.declared.end.ConsoleEnd.TheVariants as ended
use Rattle.client_script.specs.declared.offering.Offered.{Offered}
use Rattle.client_script.specs.declared.offering.Offered.TheVariants as offered
use Rattle.client_script.specs.Speaking.{Look, Deed}
use Rattle.client_script.specs.Course.{ran, said, written, written_line, lines_run, texts_heard, texts_said}
use Rattle.client_script.specs.Moving.{Offers, Fetches, RunsOne, RunsLines, StopsAt, Moves}
use Rattle.client_script.proofs.Courses.{texts_heard-append, lines_run-append, texts_said-append, grows_then, grows_none, as_before, as_then, goes_append, moves_then}

-- ---- prints

pub one_line_more : (lines : List (List ℕ)) (i : ℕ) (line bytes after : List ℕ) → i < length lines → line ≡ get_or lines i line → bytes ++ written (drop i lines) ≡ written lines
    → after ≡ bytes ++ written_line line → after ++ written (drop (suc i) lines) ≡ written lines
one_line_more lines i line bytes after within is so_far pushed =
    ap (λ bs. bs ++ written (drop (suc i) lines)) pushed ∙ append_assoc bytes (written_line line) (written (drop (suc i) lines))
    ∙ ap (λ l. bytes ++ (written_line l ++ written (drop (suc i) lines))) is
    ∙ ap (λ ls. bytes ++ written ls) (sym (drop-cons lines i line within)) ∙ so_far

-- a print that was cut short
pub cut_short : (before after : Option (List ℕ)) (n : ℕ) (slice items all : List ℕ) → slice ≡ items → items ≡ all → Grows before after (take n slice) → (cut : List ℕ) × IsPrefix cut all × Grows before after cut
cut_short before after n slice items all is are grows = (take n slice, (drop n slice, take-append-drop n slice ∙ is ∙ are), grows)

-- a count of faults, from before
pub counts_from : (b : Bool) (first before after : ℕ) → before ≡ first → CountsFaults b before after → CountsFaults b first after
counts_from b first before after is counts = subst (λ (n : ℕ). CountsFaults b n after) is counts

-- ---- lines

-- a print is run
pub shows : {S : Type 0} (look : S → Look) (does : S → Deed → S → Type 0) (s : S) (l : Line) (held held' : Option (List ℕ)) → l ≡ line.Show → (look s).is_connected ≡ true → Grows held held' (written (look s).lines)
    → RunsOne look does s l held s held' (Ok true)
shows look does s l held held' is connected grows =
    let P : Line → Type 0 = λ x. RunsOne look does s x held s held' (Ok true) in
    subst P (sym is) (written (look s).lines, (connected, (refl, refl)), grows, as_before (look s))

module _ {S : Type 0} (look : S → Look) (does : S → Deed → S → Type 0) (script : List Line) (begin : ℕ) (s : S) (held : Option (List ℕ)) where
  pub no_line : begin ≤ length script → RunsLines look does script begin s held begin s held
  no_line within = record {
    steps = [];
    bytes = [];
    goes = (refl, refl);
    heard = refl;
    said = refl;
    lines = sym (append-nil (take begin script));
    within = within;
    grows = grows_none held held refl;
    same = as_before (look s);
  }

  one_run : (line : ℕ) (s₁ : S) (held₁ : Option (List ℕ)) (next : Line) (s₂ : S) (held₂ : Option (List ℕ)) → RunsLines look does script begin s held line s₁ held₁
      → slice_get script line ≡ Some next → RunsOne look does s₁ next held₁ s₂ held₂ (Ok true) → RunsLines look does script begin s held (suc line) s₂ held₂
  one_run line s₁ held₁ next s₂ held₂ r there o =
      let steps = ran next ∷ [] in
      let within : line < length script = slice_get_within script line next there in record {
        steps = r.steps ++ steps;
        bytes = r.bytes ++ o.0;
        goes = goes_append look does s s₁ s₂ r.steps steps r.bytes o.0 r.goes (s₂, o.0, [], o.1, (refl, refl), sym (append-nil o.0));
        heard = texts_heard-append r.steps steps ∙ append-nil (texts_heard r.steps) ∙ r.heard;
        said = texts_said-append r.steps steps ∙ append-nil (texts_said r.steps) ∙ r.said;
        lines = take-suc script line next within
            ∙ ap (λ l. take line script ++ l ∷ []) (get_or_from_slice_get script line next next there)
            ∙ ap (λ ls. ls ++ next ∷ []) r.lines
            ∙ append_assoc (take begin script) (lines_run r.steps) (next ∷ [])
            ∙ ap (λ ls. take begin script ++ ls) (sym (lines_run-append r.steps steps));
        within = omega (arith, within);
        grows = grows_then held held₁ held₂ r.bytes o.0 r.grows o.2;
        same = as_then (look s) (look s₁) (look s₂) r.same o.3;
      }

  pub one_more_run : (line line' : ℕ) (s₁ : S) (held₁ : Option (List ℕ)) (next : Line) (s₂ : S) (held₂ : Option (List ℕ)) (went : Bool) → line' ≡ line + 1 → went ≡ true → RunsLines look does script begin s held line s₁ held₁
      → slice_get script line ≡ Some next → RunsOne look does s₁ next held₁ s₂ held₂ (Ok went) → RunsLines look does script begin s held line' s₂ held₂
  one_more_run line line' s₁ held₁ next s₂ held₂ went is on r there o =
      let P : ℕ → Type 0 = λ n. RunsLines look does script begin s held n s₂ held₂ in
      let Q : Bool → Type 0 = λ b. RunsOne look does s₁ next held₁ s₂ held₂ (Ok b) in
      subst P (sym (is ∙ add-one line)) (one_run line s₁ held₁ next s₂ held₂ r there (subst Q on o))

  -- no line is left
  pub all_run : (line : ℕ) (s₁ : S) (held₁ : Option (List ℕ)) → length script ≤ line → RunsLines look does script begin s held line s₁ held₁
      → RunsLines look does script begin s held line s₁ held₁ × (line ≡ length script)
  all_run line s₁ held₁ past r = let within = r.within in (r, omega (arith, past, within))

  pub not_yet : (line : ℕ) (s₁ : S) (held₁ : Option (List ℕ)) (next : Line) (s₂ : S) (held₂ : Option (List ℕ)) → RunsLines look does script begin s held line s₁ held₁
      → RunsOne look does s₁ next held₁ s₂ held₂ (Ok false) → RunsLines look does script begin s held line s₂ held₂
  not_yet line s₁ held₁ next s₂ held₂ r o =
      let P : S → Type 0 = λ x. RunsLines look does script begin s held line x held₂ in
      let Q : Option (List ℕ) → Type 0 = λ h. RunsLines look does script begin s held line s₁ h in
      subst P (sym o.0) (subst Q (sym o.1) r)

  pub stop_at : (line : ℕ) (s₁ : S) (held₁ : Option (List ℕ)) (next : Line) (s₂ : S) (held₂ : Option (List ℕ)) (end : ConsoleEnd) → RunsLines look does script begin s held line s₁ held₁
      → slice_get script line ≡ Some next → RunsOne look does s₁ next held₁ s₂ held₂ (Err end) → StopsAt look does script begin s held line s₂ held₂ end
  stop_at line s₁ held₁ next s₂ held₂ ended.WriteFault r there o = record {
    last = s₁;
    mid = held₁;
    runs = r;
    cut = o.0;
    grows = o.2;
    cuts = (there ∙ o.1.0, o.1.1, o.1.2);
    now = o.3;
    by = inl refl;
  }
  stop_at line s₁ held₁ next s₂ held₂ ended.Memory r there o = record {
    last = s₁;
    mid = held₁;
    runs = r;
    cut = [];
    grows = grows_none held₁ held₂ o;
    cuts = refl;
    now = tt;
    by = inr refl;
  }
  stop_at line s₁ held₁ next s₂ held₂ ended.Done r there o = absurd (true≢false o)
  stop_at line s₁ held₁ next s₂ held₂ (ended.ServerSent n) r there o = absurd (true≢false o)
  stop_at line s₁ held₁ next s₂ held₂ ended.Version r there o = absurd (true≢false o)
  stop_at line s₁ held₁ next s₂ held₂ ended.Closed r there o = absurd (true≢false o)
  stop_at line s₁ held₁ next s₂ held₂ ended.LinkFault r there o = absurd (true≢false o)

-- ---- offers

module _ {S L : Type 0} (look : S → Look) (does : S → Deed → S → Type 0) (steps_of : L → Call → L → Type 0) where
  pub no_move : (s : S) (l : L) (k : Option (List ℕ)) → Moves look does steps_of s l k s l k [] []
  no_move s l k = record {
    calls = [];
    leads = refl;
    steps = [];
    goes = (refl, refl);
    heard = refl;
    said = append-nil (option_to_list k);
    run = refl;
    unclosed = refl;
    same = as_before (look s);
  }

  pub fetched : (s : S) (l : L) (k : Option (List ℕ)) (s' : S) (k' : Option (List ℕ)) → Fetches look does s k s' k' → Moves look does steps_of s l k s' l k' [] []
  fetched s l (Some text) s' k' f =
      let P : S → Type 0 = λ x. Moves look does steps_of s l (Some text) x l k' [] [] in
      let Q : Option (List ℕ) → Type 0 = λ k. Moves look does steps_of s l (Some text) s l k [] [] in
      subst P (sym f.0) (subst Q (sym f.1) (no_move s l (Some text)))
  fetched s l None s' None f =
      let P : S → Type 0 = λ x. Moves look does steps_of s l None x l None [] [] in
      subst P (sym f.1) (no_move s l None)
  fetched s l None s' (Some text) f = record {
    calls = [];
    leads = refl;
    steps = said text ∷ [];
    goes = (s', [], [], (f.0, refl), (refl, refl), refl);
    heard = refl;
    said = refl;
    run = refl;
    unclosed = refl;
    same = f.1;
  }

  -- a text is kept behind it, or none waits
  pub fetched_all : (s : S) (k : Option (List ℕ)) (s' : S) (k' : Option (List ℕ)) → Fetches look does s k s' k' → k' ≡ None → (look s').waiting ≡ []
  fetched_all s (Some text) s' k' f none = cc (sym f.1 ∙ none)
  fetched_all s None s' None f none = ap (λ x. (look x).waiting) f.1 ∙ f.0
  fetched_all s None s' (Some text) f none = cc none

  -- one call that gave no text and says nothing of the peer
  one_send : (s : S) (l l' : L) (k k' : Option (List ℕ)) (c : Call) → steps_of l c l' → call.heard_in (c ∷ []) ≡ [] → call.answers_in (c ∷ []) ≡ [] → option_to_list k ≡ call.said_in (c ∷ []) ++ option_to_list k'
      → Moves look does steps_of s l k s l' k' [] []
  one_send s l l' k k' c step none silent taken = record {
    calls = c ∷ [];
    leads = (l', step, refl);
    steps = [];
    goes = (refl, refl);
    heard = sym none;
    said = append-nil (option_to_list k) ∙ taken;
    run = refl;
    unclosed = ap has_closed silent;
    same = as_before (look s);
  }

  handed : (s : S) (l : L) (k : Option (List ℕ)) (l' : L) (k' : Option (List ℕ)) (text : List ℕ) (fault : SendFault) → k ≡ Some text → k' ≡ Some text → steps_of l (call.handed_back text fault) l'
      → Moves look does steps_of s l k s l' k' [] []
  handed s l k l' k' text fault is stays step = one_send s l l' k k' (call.handed_back text fault) step refl refl (ap option_to_list is ∙ ap option_to_list (sym stays))

  pub offered_one : (s : S) (l : L) (k : Option (List ℕ)) (l' : L) (k' : Option (List ℕ)) (o : Offered) → Offers steps_of l k l' k' o → Moves look does steps_of s l k s l' k' [] []
  offered_one s l k l' k' offered.Nothing f =
      let P : L → Type 0 = λ x. Moves look does steps_of s l k s x k' [] [] in
      let Q : Option (List ℕ) → Type 0 = λ x. Moves look does steps_of s l k s l x [] [] in
      subst P (sym f.2) (subst Q (f.0 ∙ sym f.1) (no_move s l k))
  offered_one s l k l' k' offered.Taken f = one_send s l l' k k' (call.said f.0) f.3 refl refl (ap option_to_list f.1 ∙ ap (λ x. f.0 ∷ option_to_list x) (sym f.2))
  offered_one s l k l' k' offered.Waits f = handed s l k l' k' f.0 f.1 f.2 f.3 f.4
  offered_one s l k l' k' offered.Failed f = handed s l k l' k' f.0 f.1 f.2 f.3 f.4
  offered_one s l k l' k' offered.Memory f = handed s l k l' k' f.0 f.1 f.2 f.3 f.4

  -- a text was fetched and offered
  pub offered_more : (s : S) (l : L) (k : Option (List ℕ)) (s₁ : S) (l₁ : L) (k₁ : Option (List ℕ)) (s₂ : S) (k₂ : Option (List ℕ)) (l₃ : L) (k₃ : Option (List ℕ)) (o : Offered)
      → Moves look does steps_of s l k s₁ l₁ k₁ [] [] → Fetches look does s₁ k₁ s₂ k₂ → Offers steps_of l₁ k₂ l₃ k₃ o → Moves look does steps_of s l k s₂ l₃ k₃ [] []
  offered_more s l k s₁ l₁ k₁ s₂ k₂ l₃ k₃ o m f g =
      moves_then look does steps_of s s₁ s₂ l l₁ l₃ k k₁ k₃ [] [] [] [] m
      (moves_then look does steps_of s₁ s₂ s₂ l₁ l₁ l₃ k₁ k₂ k₃ [] [] [] [] (fetched s₁ l₁ k₁ s₂ k₂ f) (offered_one s₂ l₁ k₂ l₃ k₃ o g))

  pub nothing_left : (s₁ : S) (l₁ : L) (k₁ : Option (List ℕ)) (s₂ : S) (k₂ : Option (List ℕ)) (l₃ : L) (k₃ : Option (List ℕ)) (o : Offered)
      → Fetches look does s₁ k₁ s₂ k₂ → Offers steps_of l₁ k₂ l₃ k₃ o → o ≡ offered.Nothing → ((look s₂).waiting ≡ []) × (k₃ ≡ None)
  nothing_left s₁ l₁ k₁ s₂ k₂ l₃ k₃ o f g is =
      let P : Offered → Type 0 = λ x. Offers steps_of l₁ k₂ l₃ k₃ x in
      let n : Offers steps_of l₁ k₂ l₃ k₃ offered.Nothing = subst P is g in
      (fetched_all s₁ k₁ s₂ k₂ f n.0, n.1)
