-- Courses one after another.
use Rattle.std.specs.Prelude.{◌≡◌, ◌||◌, ℕ, List, [], ◌∷◌, ◌++◌, take, Bool, false, Option, option_to_list, refl}
use Rattle.std.proofs.Common.{ap, ap₂, sym, subst, ◌∙◌}
use Rattle.std.proofs.lemmas.List.{append_assoc, append-nil}
use Rattle.io_edge.specs.Outside.{Grows}
use Rattle.duct.specs.Calls.{Call, Leads, said_in, answers_in}
use Rattle.duct.specs.CallLaws.{heard_in-append, said_in-append, answers_in-append}
use Rattle.duct.specs.Polls.{has_closed}
use Rattle.duct.specs.declared.link.Polled.{Polled}
use Rattle.duct.specs.declared.link.Polled.TheVariants.{Closed}
use Rattle.client_script.specs.declared.line.Line.{Line}
use Rattle.client_script.specs.Speaking.{Look, Deed, GoesOnAs}
use Rattle.client_script.specs.Course.{Step, heard, ran, said, texts_heard, lines_run, texts_said, Goes}
use Rattle.client_script.specs.Moving.{RunsLines, Moves, Stands}

-- ---- lists

pub texts_heard-append : (xs ys : List Step) → texts_heard (xs ++ ys) ≡ texts_heard xs ++ texts_heard ys
texts_heard-append [] ys = refl
texts_heard-append (heard text ∷ xs) ys = ap (λ ts. text ∷ ts) (texts_heard-append xs ys)
texts_heard-append (ran line ∷ xs) ys = texts_heard-append xs ys
texts_heard-append (said text ∷ xs) ys = texts_heard-append xs ys

pub lines_run-append : (xs ys : List Step) → lines_run (xs ++ ys) ≡ lines_run xs ++ lines_run ys
lines_run-append [] ys = refl
lines_run-append (heard text ∷ xs) ys = lines_run-append xs ys
lines_run-append (ran line ∷ xs) ys = ap (λ ls. line ∷ ls) (lines_run-append xs ys)
lines_run-append (said text ∷ xs) ys = lines_run-append xs ys

pub texts_said-append : (xs ys : List Step) → texts_said (xs ++ ys) ≡ texts_said xs ++ texts_said ys
texts_said-append [] ys = refl
texts_said-append (heard text ∷ xs) ys = texts_said-append xs ys
texts_said-append (ran line ∷ xs) ys = texts_said-append xs ys
texts_said-append (said text ∷ xs) ys = ap (λ ts. text ∷ ts) (texts_said-append xs ys)

-- what is kept, then given, is what is handed on and what is kept then; and so on
pub handed_on : {X : Type 0} (k s₁ s₂ c₁ k₁ c₂ k₂ : List X) → k ++ s₁ ≡ c₁ ++ k₁ → k₁ ++ s₂ ≡ c₂ ++ k₂ → k ++ (s₁ ++ s₂) ≡ (c₁ ++ c₂) ++ k₂
handed_on k s₁ s₂ c₁ k₁ c₂ k₂ one two =
    sym (append_assoc k s₁ s₂) ∙ ap (λ xs. xs ++ s₂) one ∙ append_assoc c₁ k₁ s₂ ∙ ap (λ xs. c₁ ++ xs) two ∙ sym (append_assoc c₁ c₂ k₂)

-- ---- sinks

pub grows_then : (a b c : Option (List ℕ)) (p q : List ℕ) → Grows a b p → Grows b c q → Grows a c (p ++ q)
grows_then a b c p q one two now is =
    let t = two now is in
    let o = one t.0 t.1 in
    (o.0, o.1, sym (append_assoc o.0 p q) ∙ ap (λ xs. xs ++ q) o.2 ∙ t.2)

pub grows_none : (a b : Option (List ℕ)) → b ≡ a → Grows a b []
grows_none a b same now is = (now, sym same ∙ is, append-nil now)

pub grows_by : (a b : Option (List ℕ)) (p q : List ℕ) → q ≡ p → Grows a b q → Grows a b p
grows_by a b p q same g = let P : List ℕ → Type 0 = λ xs. Grows a b xs in subst P same g

-- ---- looks

pub as_before : (l : Look) → GoesOnAs l l
as_before l = record { failed = refl; broken = refl }

pub as_then : (l m n : Look) → GoesOnAs l m → GoesOnAs m n → GoesOnAs l n
as_then l m n one two = record { failed = two.failed ∙ one.failed; broken = two.broken ∙ one.broken }

pub as_same : {S : Type 0} (look : S → Look) (s s' : S) → s' ≡ s → GoesOnAs (look s) (look s')
as_same look s s' is = record { failed = ap (λ x. (look x).is_failed) is; broken = ap (λ x. (look x).broken) is }

-- ---- calls

module _ {L : Type 0} (steps_of : L → Call → L → Type 0) where
  pub leads_append : (a b c : L) (xs ys : List Call) → Leads steps_of a xs b → Leads steps_of b ys c → Leads steps_of a (xs ++ ys) c
  leads_append a b c [] ys is next = let P : L → Type 0 = λ x. Leads steps_of x ys c in subst P is next
  leads_append a b c (x ∷ xs) ys q next = (q.0, q.1, leads_append q.0 b c xs ys q.2 next)

answers_closed : (xs ys : List Polled) → has_closed (xs ++ ys) ≡ (has_closed xs || has_closed ys)
answers_closed [] ys = refl
answers_closed (Closed ∷ xs) ys = refl
answers_closed (_ ∷ xs) ys = answers_closed xs ys

-- no poll of both answered that the peer has closed, or the last one did
pub closed-append : (xs ys : List Call) (last : Bool) → has_closed (answers_in xs) ≡ false → has_closed (answers_in ys) ≡ last → has_closed (answers_in (xs ++ ys)) ≡ last
closed-append xs ys last one two =
    ap has_closed (answers_in-append xs ys) ∙ answers_closed (answers_in xs) (answers_in ys) ∙ ap₂ (λ a b. a || b) one two

-- ---- courses

module _ {S : Type 0} (look : S → Look) (does : S → Deed → S → Type 0) where
  pub goes_append : (a b c : S) (xs ys : List Step) (p q : List ℕ) → Goes look does a xs b p → Goes look does b ys c q → Goes look does a (xs ++ ys) c (p ++ q)
  goes_append a b c [] ys p q g next =
      let P : S → Type 0 = λ x. Goes look does x ys c q in
      let Q : List ℕ → Type 0 = λ bs. Goes look does a ys c (bs ++ q) in
      subst Q (sym g.1) (subst P g.0 next)
  goes_append a b c (x ∷ xs) ys p q g next =
      (g.0, g.1, g.2 ++ q, g.3, goes_append g.0 b c xs ys g.2 q g.4 next, ap (λ bs. bs ++ q) g.5 ∙ append_assoc g.1 g.2 q)

  pub goes_by : (a b : S) (xs : List Step) (p q : List ℕ) → q ≡ p → Goes look does a xs b q → Goes look does a xs b p
  goes_by a b xs p q same g = let P : List ℕ → Type 0 = λ bs. Goes look does a xs b bs in subst P same g

module _ {S L : Type 0} (look : S → Look) (does : S → Deed → S → Type 0) (steps_of : L → Call → L → Type 0) where
  pub moves_then : (s s₁ s₂ : S) (l l₁ l₂ : L) (k k₁ k₂ : Option (List ℕ)) (lines more : List Line) (bytes rest : List ℕ)
      → Moves look does steps_of s l k s₁ l₁ k₁ lines bytes → Moves look does steps_of s₁ l₁ k₁ s₂ l₂ k₂ more rest
      → Moves look does steps_of s l k s₂ l₂ k₂ (lines ++ more) (bytes ++ rest)
  moves_then s s₁ s₂ l l₁ l₂ k k₁ k₂ lines more bytes rest m n = record {
    calls = m.calls ++ n.calls;
    leads = leads_append steps_of l l₁ l₂ m.calls n.calls m.leads n.leads;
    steps = m.steps ++ n.steps;
    goes = goes_append look does s s₁ s₂ m.steps n.steps bytes rest m.goes n.goes;
    heard = texts_heard-append m.steps n.steps ∙ ap₂ (λ a b. a ++ b) m.heard n.heard ∙ sym (heard_in-append m.calls n.calls);
    said = ap (λ ts. option_to_list k ++ ts) (texts_said-append m.steps n.steps)
        ∙ handed_on (option_to_list k) (texts_said m.steps) (texts_said n.steps) (said_in m.calls) (option_to_list k₁) (said_in n.calls) (option_to_list k₂) m.said n.said
        ∙ ap (λ cs. cs ++ option_to_list k₂) (sym (said_in-append m.calls n.calls));
    run = lines_run-append m.steps n.steps ∙ ap₂ (λ a b. a ++ b) m.run n.run;
    unclosed = closed-append m.calls n.calls false m.unclosed n.unclosed;
    same = as_then (look s) (look s₁) (look s₂) m.same n.same;
  }

  -- lines that were run, while no call was made of the link
  pub lines_move : (script : List Line) (begin : ℕ) (s : S) (held : Option (List ℕ)) (line : ℕ) (s' : S) (held' : Option (List ℕ)) (l : L) (k : Option (List ℕ))
      (r : RunsLines look does script begin s held line s' held') → Moves look does steps_of s l k s' l k (lines_run r.steps) r.bytes
  lines_move script begin s held line s' held' l k r = record {
    calls = [];
    leads = refl;
    steps = r.steps;
    goes = r.goes;
    heard = r.heard;
    said = ap (λ ts. option_to_list k ++ ts) r.said ∙ append-nil (option_to_list k);
    run = refl;
    unclosed = refl;
    same = r.same;
  }

  -- lines were run, and then the link was called
  pub stands_by : (script : List Line) (begin : ℕ) (s : S) (held : Option (List ℕ)) (line : ℕ) (s₁ : S) (held₁ : Option (List ℕ)) (l : L) (k : Option (List ℕ)) (s' : S) (l' : L) (k' : Option (List ℕ))
      → RunsLines look does script begin s held line s₁ held₁ → Moves look does steps_of s₁ l k s' l' k' [] []
      → Stands look does steps_of script begin s l held k line s' l' held₁ k'
  stands_by script begin s held line s₁ held₁ l k s' l' k' r m = record {
    ran_lines = lines_run r.steps ++ [];
    bytes = r.bytes ++ [];
    moves = moves_then s s₁ s' l l l' k k k' (lines_run r.steps) [] r.bytes [] (lines_move script begin s held line s₁ held₁ l k r) m;
    lines = r.lines ∙ ap (λ ls. take begin script ++ ls) (sym (append-nil (lines_run r.steps)));
    within = r.within;
    grows = grows_by held held₁ (r.bytes ++ []) r.bytes (sym (append-nil r.bytes)) r.grows;
  }

  -- calls of the link alone
  pub stands_moved : (script : List Line) (begin : ℕ) (s : S) (l : L) (held k : Option (List ℕ)) (line : ℕ) (s₁ : S) (l₁ : L) (held₁ k₁ : Option (List ℕ)) (s₂ : S) (l₂ : L) (k₂ : Option (List ℕ))
      → Stands look does steps_of script begin s l held k line s₁ l₁ held₁ k₁ → Moves look does steps_of s₁ l₁ k₁ s₂ l₂ k₂ [] []
      → Stands look does steps_of script begin s l held k line s₂ l₂ held₁ k₂
  stands_moved script begin s l held k line s₁ l₁ held₁ k₁ s₂ l₂ k₂ a m = record {
    ran_lines = a.ran_lines ++ [];
    bytes = a.bytes ++ [];
    moves = moves_then s s₁ s₂ l l₁ l₂ k k₁ k₂ a.ran_lines [] a.bytes [] a.moves m;
    lines = a.lines ∙ ap (λ ls. take begin script ++ ls) (sym (append-nil a.ran_lines));
    within = a.within;
    grows = grows_by held held₁ (a.bytes ++ []) a.bytes (sym (append-nil a.bytes)) a.grows;
  }

  pub stands_then : (script : List Line) (begin : ℕ) (s : S) (l : L) (held k : Option (List ℕ)) (line₁ : ℕ) (s₁ : S) (l₁ : L) (held₁ k₁ : Option (List ℕ)) (line₂ : ℕ) (s₂ : S) (l₂ : L) (held₂ k₂ : Option (List ℕ))
      → Stands look does steps_of script begin s l held k line₁ s₁ l₁ held₁ k₁ → Stands look does steps_of script line₁ s₁ l₁ held₁ k₁ line₂ s₂ l₂ held₂ k₂
      → Stands look does steps_of script begin s l held k line₂ s₂ l₂ held₂ k₂
  stands_then script begin s l held k line₁ s₁ l₁ held₁ k₁ line₂ s₂ l₂ held₂ k₂ a b = record {
    ran_lines = a.ran_lines ++ b.ran_lines;
    bytes = a.bytes ++ b.bytes;
    moves = moves_then s s₁ s₂ l l₁ l₂ k k₁ k₂ a.ran_lines b.ran_lines a.bytes b.bytes a.moves b.moves;
    lines = b.lines ∙ ap (λ ls. ls ++ b.ran_lines) a.lines ∙ append_assoc (take begin script) a.ran_lines b.ran_lines;
    within = b.within;
    grows = grows_then held held₁ held₂ a.bytes b.bytes a.grows b.grows;
  }
