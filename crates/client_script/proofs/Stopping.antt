-- How a course ends.
use Rattle.std.specs.Prelude.{◌≡◌, ◌⊎◌, ℕ, List, [], ◌∷◌, ◌++◌, take, slice_get, Bool, true, false, not, ◌&&◌, Option, Some, None, is_none, option_to_list, refl}
use Rattle.std.proofs.Common.{ap, ap₂, sym, subst, ◌∙◌, inl, inr, true≢false}
use Rattle.std.proofs.lemmas.List.{append_assoc, append-nil}
use Rattle.duct.specs.declared.link.Polled.{Polled}
use Rattle.duct.specs.declared.link.Polled.TheVariants as polled
use Rattle.duct.specs.Calls.{Call, Leads, heard_in, said_in, answers_in}
use Rattle.duct.specs.Calls as call
use Rattle.duct.specs.CallLaws.{heard_in-append, said_in-append}
use Rattle.duct.specs.Polls.{has_closed}
use Rattle.client_script.specs.declared.line.Line.{Line}
use Rattle.client_script.specs.declared.end.ConsoleEnd.{ConsoleEnd}
use Rattle.client_script.specs.declared.end.ConsoleEnd.TheVariants as ended
use Rattle.client_script.specs.Speaking.{Look, Deed, goes_on, GoesOnAs}
use Rattle.client_script.specs.Speaking as deed
use Rattle.client_script.specs.Course.{Step, texts_heard, lines_run, texts_said, Goes}
use Rattle.client_script.specs.Course as course
use Rattle.client_script.specs.Ends.{refusal_of, is_version, is_closed, IsDone, Cuts, Loses, IsLeft, Ran}
use Rattle.client_script.specs.Moving.{Takes, Listens, StopsAt, Moves, Stands, Turns}
use Rattle.client_script.proofs.Courses.{texts_heard-append, lines_run-append, texts_said-append, handed_on, grows_then, grows_by, as_before, leads_append, closed-append, goes_append, stands_moved}

-- what goes on was not refused, nor its version
pub not_refused : (l : Look) → goes_on l ≡ true → (l.is_failed ≡ false) × (l.broken ≡ None)
not_refused l g = (by_failed l.is_failed (is_none l.broken) g, by_broken l.is_failed l.broken g)
  where
    by_failed : (f b : Bool) → (not f && b) ≡ true → f ≡ false
    by_failed true b e = cc e
    by_failed false b e = refl

    by_broken : (f : Bool) (b : Option ℕ) → (not f && is_none b) ≡ true → b ≡ None
    by_broken true b e = cc e
    by_broken false (Some n) e = cc e
    by_broken false None e = refl

pub still_goes_on : (l m : Look) → GoesOnAs l m → goes_on l ≡ true → goes_on m ≡ true
still_goes_on l m same g = ap₂ (λ f b. not f && is_none b) same.failed same.broken ∙ g

module _ {S L : Type 0} (look : S → Look) (does : S → Deed → S → Type 0) (steps_of : L → Call → L → Type 0) where
  -- what is done last, and why it is the last
  pub record Last (script : List Line) (s : S) (link : L) (kept : Option (List ℕ)) (line : ℕ) (s' : S) (link' : L) (end : ConsoleEnd) : Type 0 where
    pub calls : List Call
    pub leads : Leads steps_of link calls link'
    pub quiet : said_in calls ≡ []
    pub steps : List Step
    pub last : S
    pub goes : Goes look does s steps last []
    pub idle : lines_run steps ≡ []
    pub silent : texts_said steps ≡ []
    pub lost : List (List ℕ)
    pub heard : texts_heard steps ++ lost ≡ heard_in calls
    pub now : IsLeft end last s'
    pub loses : Loses end lost
    pub cuts : Cuts end (slice_get script line) (look last) []
    pub refused : (look last).broken ≡ refusal_of end
    pub failed : (look last).is_failed ≡ is_version end
    pub closed : has_closed (answers_in calls) ≡ is_closed end
    pub done : IsDone end (look last) script line (option_to_list kept)

  pub stops : (script : List Line) (begin : ℕ) (s : S) (l : L) (held k : Option (List ℕ)) (line : ℕ) (s₁ : S) (l₁ : L) (held₁ k₁ : Option (List ℕ)) (s₂ : S) (l₂ : L) (end : ConsoleEnd)
      → Stands look does steps_of script begin s l held k line s₁ l₁ held₁ k₁ → Last script s₁ l₁ k₁ line s₂ l₂ end
      → Ran look does steps_of script begin s l held k line s₂ l₂ held₁ end
  stops script begin s l held k line s₁ l₁ held₁ k₁ s₂ l₂ end a z =
      let m = a.moves in record {
        calls = m.calls ++ z.calls;
        leads = leads_append steps_of l l₁ l₂ m.calls z.calls m.leads z.leads;
        steps = m.steps ++ z.steps;
        bytes = a.bytes ++ [];
        last = z.last;
        goes = goes_append look does s s₁ z.last m.steps z.steps a.bytes [] m.goes z.goes;
        now = z.now;
        lost = z.lost;
        heard = ap (λ ts. ts ++ z.lost) (texts_heard-append m.steps z.steps) ∙ append_assoc (texts_heard m.steps) (texts_heard z.steps) z.lost
            ∙ ap₂ (λ a b. a ++ b) m.heard z.heard ∙ sym (heard_in-append m.calls z.calls);
        loses = z.loses;
        back = option_to_list k₁;
        said = ap (λ ts. option_to_list k ++ ts) (texts_said-append m.steps z.steps)
            ∙ handed_on (option_to_list k) (texts_said m.steps) (texts_said z.steps) (said_in m.calls) (option_to_list k₁) (said_in z.calls) (option_to_list k₁) m.said
            (ap (λ ts. option_to_list k₁ ++ ts) z.silent ∙ append-nil (option_to_list k₁) ∙ ap (λ ts. ts ++ option_to_list k₁) (sym z.quiet))
            ∙ ap (λ cs. cs ++ option_to_list k₁) (sym (said_in-append m.calls z.calls));
        lines = a.lines ∙ ap (λ ls. take begin script ++ ls)
            (sym m.run ∙ sym (append-nil (lines_run m.steps)) ∙ ap (λ ls. lines_run m.steps ++ ls) (sym z.idle) ∙ sym (lines_run-append m.steps z.steps));
        within = a.within;
        cut = [];
        grows = grows_by held held₁ ((a.bytes ++ []) ++ []) a.bytes (sym (append-nil a.bytes) ∙ sym (append-nil (a.bytes ++ []))) a.grows;
        cuts = z.cuts;
        refused = z.refused;
        failed = z.failed;
        closed = closed-append m.calls z.calls (is_closed end) m.unclosed z.closed;
        done = z.done;
      }

  -- a poll that gave no text
  pub no_text : (s : S) (l l' : L) (k : Option (List ℕ)) (answer : Polled) → steps_of l (call.heard answer) l' → heard_in (call.heard answer ∷ []) ≡ [] → has_closed (answers_in (call.heard answer ∷ [])) ≡ false
      → Moves look does steps_of s l k s l' k [] []
  no_text s l l' k answer step none quiet = record {
    calls = call.heard answer ∷ [];
    leads = (l', step, refl);
    steps = [];
    goes = (refl, refl);
    heard = sym none;
    said = append-nil (option_to_list k);
    run = refl;
    unclosed = quiet;
    same = as_before (look s);
  }

  -- a poll that gave a text, which was taken
  pub one_text : (s s' : S) (l l' : L) (k : Option (List ℕ)) (text : List ℕ) → steps_of l (call.heard (polled.Message text)) l' → does s (deed.heard text) s' → GoesOnAs (look s) (look s')
      → Moves look does steps_of s l k s' l' k [] []
  one_text s s' l l' k text step did same = record {
    calls = call.heard (polled.Message text) ∷ [];
    leads = (l', step, refl);
    steps = course.heard text ∷ [];
    goes = (s', [], [], (did, refl), (refl, refl), refl);
    heard = refl;
    said = append-nil (option_to_list k);
    run = refl;
    unclosed = refl;
    same = same;
  }

  -- a poll that ended the script
  pub last_poll : (script : List Line) (s s' : S) (l l' : L) (k : Option (List ℕ)) (line : ℕ) (answer : Polled) (end : ConsoleEnd) → goes_on (look s) ≡ true → steps_of l (call.heard answer) l'
      → heard_in (call.heard answer ∷ []) ≡ [] → has_closed (answers_in (call.heard answer ∷ [])) ≡ is_closed end → refusal_of end ≡ None → is_version end ≡ false
      → IsLeft end s s' → Loses end [] → Cuts end (slice_get script line) (look s) [] → IsDone end (look s) script line (option_to_list k) → Last script s l k line s' l' end
  last_poll script s s' l l' k line answer end on step none closed refused failed now loses cuts done = record {
    calls = call.heard answer ∷ [];
    leads = (l', step, refl);
    quiet = refl;
    steps = [];
    last = s;
    goes = (refl, refl);
    idle = refl;
    silent = refl;
    lost = [];
    heard = sym none;
    now = now;
    loses = loses;
    cuts = cuts;
    refused = (not_refused (look s) on).1 ∙ sym refused;
    failed = (not_refused (look s) on).0 ∙ sym failed;
    closed = closed;
    done = done;
  }

  -- no call is made any more
  pub no_poll : (script : List Line) (s : S) (l : L) (k : Option (List ℕ)) (line : ℕ) (end : ConsoleEnd) → goes_on (look s) ≡ true → is_closed end ≡ false → refusal_of end ≡ None → is_version end ≡ false
      → IsLeft end s s → Loses end [] → Cuts end (slice_get script line) (look s) [] → IsDone end (look s) script line (option_to_list k) → Last script s l k line s l end
  no_poll script s l k line end on closed refused failed now loses cuts done = record {
    calls = [];
    leads = refl;
    quiet = refl;
    steps = [];
    last = s;
    goes = (refl, refl);
    idle = refl;
    silent = refl;
    lost = [];
    heard = refl;
    now = now;
    loses = loses;
    cuts = cuts;
    refused = (not_refused (look s) on).1 ∙ sym refused;
    failed = (not_refused (look s) on).0 ∙ sym failed;
    closed = sym closed;
    done = done;
  }

  -- the last text was heard, and ended the script
  pub last_text : (script : List Line) (s s' : S) (l l' : L) (k : Option (List ℕ)) (line : ℕ) (text : List ℕ) (end : ConsoleEnd) → steps_of l (call.heard (polled.Message text)) l' → does s (deed.heard text) s'
      → is_closed end ≡ false → (look s').broken ≡ refusal_of end → (look s').is_failed ≡ is_version end
      → IsLeft end s' s' → Loses end [] → Cuts end (slice_get script line) (look s') [] → IsDone end (look s') script line (option_to_list k) → Last script s l k line s' l' end
  last_text script s s' l l' k line text end step did closed refused failed now loses cuts done = record {
    calls = call.heard (polled.Message text) ∷ [];
    leads = (l', step, refl);
    quiet = refl;
    steps = course.heard text ∷ [];
    last = s';
    goes = (s', [], [], (did, refl), (refl, refl), refl);
    idle = refl;
    silent = refl;
    lost = [];
    heard = refl;
    now = now;
    loses = loses;
    cuts = cuts;
    refused = refused;
    failed = failed;
    closed = sym closed;
    done = done;
  }

  -- the last text was lost for want of memory
  pub lost_text : (script : List Line) (s s' : S) (l l' : L) (k : Option (List ℕ)) (line : ℕ) (text : List ℕ) → goes_on (look s) ≡ true → steps_of l (call.heard (polled.Message text)) l' → Last script s l k line s' l' ended.Memory
  lost_text script s s' l l' k line text on step = record {
    calls = call.heard (polled.Message text) ∷ [];
    leads = (l', step, refl);
    quiet = refl;
    steps = [];
    last = s;
    goes = (refl, refl);
    idle = refl;
    silent = refl;
    lost = text ∷ [];
    heard = refl;
    now = tt;
    loses = tt;
    cuts = refl;
    refused = (not_refused (look s) on).1;
    failed = (not_refused (look s) on).0;
    closed = refl;
    done = tt;
  }

  module _ (script : List Line) (begin : ℕ) (s : S) (l : L) (held k : Option (List ℕ)) (line : ℕ) (s₁ : S) (l₁ : L) (held₁ k₁ : Option (List ℕ))
      (a : Stands look does steps_of script begin s l held k line s₁ l₁ held₁ k₁) (on : goes_on (look s₁) ≡ true) (s₂ : S) (l₂ : L) where
    abbrev pub After : Option ConsoleEnd → Type 0
    After result = Turns look does steps_of script begin s l held k line s₂ l₂ held₁ k₁ result

    stops_so : (end : ConsoleEnd) → Last script s₁ l₁ k₁ line s₂ l₂ end → Ran look does steps_of script begin s l held k line s₂ l₂ held₁ end
    stops_so end z = stops script begin s l held k line s₁ l₁ held₁ k₁ s₂ l₂ end a z

    moved : Moves look does steps_of s₁ l₁ k₁ s₂ l₂ k₁ [] [] → Stands look does steps_of script begin s l held k line s₂ l₂ held₁ k₁
    moved m = stands_moved look does steps_of script begin s l held k line s₁ l₁ held₁ k₁ s₂ l₂ k₁ a m

    by_text : (text : List ℕ) (result : Option ConsoleEnd) → steps_of l₁ (call.heard (polled.Message text)) l₂ → Takes look does s₁ text s₂ result → After result
    by_text text None step t =
        let was = not_refused (look s₁) on in
        moved (one_text s₁ s₂ l₁ l₂ k₁ text step t.0 (record { failed = t.2 ∙ sym was.0; broken = t.1 ∙ sym was.1 }))
    by_text text (Some ended.Memory) step t = stops_so ended.Memory (lost_text script s₁ s₂ l₁ l₂ k₁ line text on step)
    by_text text (Some ended.Version) step t = stops_so ended.Version (last_text script s₁ s₂ l₁ l₂ k₁ line text ended.Version step t.0 refl t.1 t.2 refl refl refl tt)
    by_text text (Some (ended.ServerSent n)) step t = stops_so (ended.ServerSent n) (last_text script s₁ s₂ l₁ l₂ k₁ line text (ended.ServerSent n) step t.0 refl t.1 t.2 refl refl refl tt)
    by_text text (Some ended.Done) step t = absurd (true≢false t)
    by_text text (Some ended.Closed) step t = absurd (true≢false t)
    by_text text (Some ended.LinkFault) step t = absurd (true≢false t)
    by_text text (Some ended.WriteFault) step t = absurd (true≢false t)

    pub by_answer : (answer : Polled) (result : Option ConsoleEnd) → steps_of l₁ (call.heard answer) l₂ → Listens look does s₁ answer s₂ result → After result
    by_answer (polled.Message text) result step t = by_text text result step t
    by_answer polled.Quiet result step t =
        let Q : S → Type 0 = λ x. Stands look does steps_of script begin s l held k line x l₂ held₁ k₁ in
        let there : Q s₁ = stands_moved look does steps_of script begin s l held k line s₁ l₁ held₁ k₁ s₁ l₂ k₁ a (no_text s₁ l₁ l₂ k₁ polled.Quiet step refl refl) in
        subst After (sym t.0) (subst Q (sym t.1) there)
    by_answer polled.Closed result step t =
        subst After (sym t.0) (stops_so ended.Closed (last_poll script s₁ s₂ l₁ l₂ k₁ line polled.Closed ended.Closed on step refl refl refl refl t.1 refl refl tt))
    by_answer polled.Failed result step t =
        subst After (sym t.0) (stops_so ended.LinkFault (last_poll script s₁ s₂ l₁ l₂ k₁ line polled.Failed ended.LinkFault on step refl refl refl refl t.1 refl refl tt))
    by_answer polled.Memory result step t =
        subst After (sym t.0) (stops_so ended.Memory (last_poll script s₁ s₂ l₁ l₂ k₁ line polled.Memory ended.Memory on step refl refl refl refl tt tt refl tt))

  -- lines were run up to one at which the script ended
  stopped_by : (script : List Line) (begin : ℕ) (s : S) (l : L) (held k : Option (List ℕ)) (line : ℕ) (s' : S) (held' : Option (List ℕ)) (end : ConsoleEnd) → goes_on (look s) ≡ true
      → (z : StopsAt look does script begin s held line s' held' end) → refusal_of end ≡ None → is_version end ≡ false → is_closed end ≡ false → Loses end [] → IsDone end (look z.last) script line (option_to_list k)
      → Ran look does steps_of script begin s l held k line s' l held' end
  stopped_by script begin s l held k line s' held' end on z refused failed closed loses done =
      let r = z.runs in
      let fine = not_refused (look z.last) (still_goes_on (look s) (look z.last) r.same on) in record {
        calls = [];
        leads = refl;
        steps = r.steps;
        bytes = r.bytes;
        last = z.last;
        goes = r.goes;
        now = z.now;
        lost = [];
        heard = append-nil (texts_heard r.steps) ∙ r.heard;
        loses = loses;
        back = option_to_list k;
        said = ap (λ ts. option_to_list k ++ ts) r.said ∙ append-nil (option_to_list k);
        lines = r.lines;
        within = r.within;
        cut = z.cut;
        grows = grows_then held z.mid held' r.bytes z.cut r.grows z.grows;
        cuts = z.cuts;
        refused = fine.1 ∙ sym refused;
        failed = fine.0 ∙ sym failed;
        closed = sym closed;
        done = done;
      }

  pub stopped : (script : List Line) (begin : ℕ) (s : S) (l : L) (held k : Option (List ℕ)) (line : ℕ) (s' : S) (held' : Option (List ℕ)) (end : ConsoleEnd) → goes_on (look s) ≡ true
      → StopsAt look does script begin s held line s' held' end → Ran look does steps_of script begin s l held k line s' l held' end
  stopped script begin s l held k line s' held' end on z = by z.by
    where
      Is : ConsoleEnd → Type 0
      Is e = StopsAt look does script begin s held line s' held' e

      Gives : ConsoleEnd → Type 0
      Gives e = Ran look does steps_of script begin s l held k line s' l held' e

      by : (end ≡ ended.WriteFault) ⊎ (end ≡ ended.Memory) → Gives end
      by (inl is) = subst Gives (sym is) (stopped_by script begin s l held k line s' held' ended.WriteFault on (subst Is is z) refl refl refl refl tt)
      by (inr is) = subst Gives (sym is) (stopped_by script begin s l held k line s' held' ended.Memory on (subst Is is z) refl refl refl tt tt)

  -- what went before, and the end behind it
  pub stands_then_ran : (script : List Line) (begin : ℕ) (s : S) (l : L) (held k : Option (List ℕ)) (line₁ : ℕ) (s₁ : S) (l₁ : L) (held₁ k₁ : Option (List ℕ)) (line₂ : ℕ) (s₂ : S) (l₂ : L) (held₂ : Option (List ℕ)) (end : ConsoleEnd)
      → Stands look does steps_of script begin s l held k line₁ s₁ l₁ held₁ k₁ → Ran look does steps_of script line₁ s₁ l₁ held₁ k₁ line₂ s₂ l₂ held₂ end
      → Ran look does steps_of script begin s l held k line₂ s₂ l₂ held₂ end
  stands_then_ran script begin s l held k line₁ s₁ l₁ held₁ k₁ line₂ s₂ l₂ held₂ end a z =
      let m = a.moves in record {
        calls = m.calls ++ z.calls;
        leads = leads_append steps_of l l₁ l₂ m.calls z.calls m.leads z.leads;
        steps = m.steps ++ z.steps;
        bytes = a.bytes ++ z.bytes;
        last = z.last;
        goes = goes_append look does s s₁ z.last m.steps z.steps a.bytes z.bytes m.goes z.goes;
        now = z.now;
        lost = z.lost;
        heard = ap (λ ts. ts ++ z.lost) (texts_heard-append m.steps z.steps) ∙ append_assoc (texts_heard m.steps) (texts_heard z.steps) z.lost
            ∙ ap₂ (λ a b. a ++ b) m.heard z.heard ∙ sym (heard_in-append m.calls z.calls);
        loses = z.loses;
        back = z.back;
        said = ap (λ ts. option_to_list k ++ ts) (texts_said-append m.steps z.steps)
            ∙ handed_on (option_to_list k) (texts_said m.steps) (texts_said z.steps) (said_in m.calls) (option_to_list k₁) (said_in z.calls) z.back m.said z.said
            ∙ ap (λ cs. cs ++ z.back) (sym (said_in-append m.calls z.calls));
        lines = z.lines ∙ ap (λ ls. ls ++ lines_run z.steps) a.lines ∙ append_assoc (take begin script) a.ran_lines (lines_run z.steps)
            ∙ ap (λ ls. take begin script ++ ls) (ap (λ ls. ls ++ lines_run z.steps) (sym m.run) ∙ sym (lines_run-append m.steps z.steps));
        within = z.within;
        cut = z.cut;
        grows = grows_by held held₂ ((a.bytes ++ z.bytes) ++ z.cut) (a.bytes ++ (z.bytes ++ z.cut)) (sym (append_assoc a.bytes z.bytes z.cut)) (grows_then held held₁ held₂ a.bytes (z.bytes ++ z.cut) a.grows z.grows);
        cuts = z.cuts;
        refused = z.refused;
        failed = z.failed;
        closed = closed-append m.calls z.calls (is_closed end) m.unclosed z.closed;
        done = z.done;
      }
