-- What a chain of calls is to a link that tells, and to an end of a ring.
use Rattle.std.specs.Prelude.{◌≡◌, ℕ, List, [], ◌∷◌, ◌++◌, ◌||◌, not, Bool, true, false, Option, Some, drop, refl}
use Rattle.std.proofs.Common.{ap, sym, subst, ◌∙◌, arith}
use Rattle.std.proofs.Math.Bool.{or-false, or_assoc}
use Rattle.std.proofs.lemmas.Bool.{both_ways}
use Rattle.std.proofs.lemmas.List.{append_assoc, append-nil}
use Rattle.duct.specs.declared.link.Polled.{Polled}
use Rattle.duct.specs.declared.link.Polled.TheVariants.{Message, Quiet, Closed, Failed, Memory}
use Rattle.duct.specs.Told.{Told}
use Rattle.duct.specs.Polls.{next_of, has_closed}
use Rattle.duct.specs.Rings.{RingEnd, RingMakes}
use Rattle.duct.specs.Calls.{Call, heard, said, handed_back, Leads, heard_in, answers_in, said_in, has_refusal, blocks, Tells}

module _ {L : Type 0} (steps : L → Call → L → Type 0) where
  -- one call more
  pub leads_then : (a m b : L) (calls : List Call) (call : Call) → Leads steps a calls m → steps m call b → Leads steps a (calls ++ call ∷ []) b
  leads_then a m b [] call is s = (b, subst (λ x. steps x call b) is s, refl)
  leads_then a m b (first ∷ calls) call q s = (q.0, q.1, leads_then q.0 m b calls call q.2 s)

pub heard_in-append : (xs ys : List Call) → heard_in (xs ++ ys) ≡ heard_in xs ++ heard_in ys
heard_in-append [] ys = refl
heard_in-append (heard (Message text) ∷ xs) ys = ap (λ ts. text ∷ ts) (heard_in-append xs ys)
heard_in-append (heard Quiet ∷ xs) ys = heard_in-append xs ys
heard_in-append (heard Closed ∷ xs) ys = heard_in-append xs ys
heard_in-append (heard Failed ∷ xs) ys = heard_in-append xs ys
heard_in-append (heard Memory ∷ xs) ys = heard_in-append xs ys
heard_in-append (said text ∷ xs) ys = heard_in-append xs ys
heard_in-append (handed_back text fault ∷ xs) ys = heard_in-append xs ys

pub answers_in-append : (xs ys : List Call) → answers_in (xs ++ ys) ≡ answers_in xs ++ answers_in ys
answers_in-append [] ys = refl
answers_in-append (heard Memory ∷ xs) ys = answers_in-append xs ys
answers_in-append (heard (Message text) ∷ xs) ys = ap (λ answers. Message text ∷ answers) (answers_in-append xs ys)
answers_in-append (heard Quiet ∷ xs) ys = ap (λ answers. Quiet ∷ answers) (answers_in-append xs ys)
answers_in-append (heard Closed ∷ xs) ys = ap (λ answers. Closed ∷ answers) (answers_in-append xs ys)
answers_in-append (heard Failed ∷ xs) ys = ap (λ answers. Failed ∷ answers) (answers_in-append xs ys)
answers_in-append (said text ∷ xs) ys = answers_in-append xs ys
answers_in-append (handed_back text fault ∷ xs) ys = answers_in-append xs ys

pub said_in-append : (xs ys : List Call) → said_in (xs ++ ys) ≡ said_in xs ++ said_in ys
said_in-append [] ys = refl
said_in-append (said text ∷ xs) ys = ap (λ ts. text ∷ ts) (said_in-append xs ys)
said_in-append (heard answer ∷ xs) ys = said_in-append xs ys
said_in-append (handed_back text fault ∷ xs) ys = said_in-append xs ys

pub has_refusal-append : (xs ys : List Call) → has_refusal (xs ++ ys) ≡ (has_refusal xs || has_refusal ys)
has_refusal-append [] ys = refl
has_refusal-append (handed_back text fault ∷ xs) ys = refl
has_refusal-append (heard answer ∷ xs) ys = has_refusal-append xs ys
has_refusal-append (said text ∷ xs) ys = has_refusal-append xs ys

-- what the option tells, or another
abbrev told_in : Told → Option Told → Told
told_in t (Some u) = u
told_in t _ = t

same_told : (a b : Told) → Some a ≡ Some b → a ≡ b
same_told a b p = ap (told_in a) p

-- one call
step_sent : (a b : Told) (call : Call) → Tells a call b → b.sent ≡ a.sent ++ said_in (call ∷ [])
step_sent a b (heard Memory) p = ap (λ (t : Told). t.sent) (same_told b _ p) ∙ sym (append-nil a.sent)
step_sent a b (heard Failed) p = ap (λ (t : Told). t.sent) (same_told b _ p) ∙ sym (append-nil a.sent)
step_sent a b (heard (Message text)) p = ap (λ (t : Told). t.sent) (same_told b _ p.1) ∙ sym (append-nil a.sent)
step_sent a b (heard Quiet) p = ap (λ (t : Told). t.sent) (same_told b _ p.1) ∙ sym (append-nil a.sent)
step_sent a b (heard Closed) p = ap (λ (t : Told). t.sent) (same_told b _ p.1) ∙ sym (append-nil a.sent)
step_sent a b (said text) p = ap (λ (t : Told). t.sent) (same_told b _ p.2)
step_sent a b (handed_back text fault) p = ap (λ (t : Told). t.sent) (same_told b _ p.1) ∙ sym (append-nil a.sent)

step_polls : (a b : Told) (call : Call) → Tells a call b → b.polls ≡ a.polls ++ answers_in (call ∷ [])
step_polls a b (heard Memory) p = ap (λ (t : Told). t.polls) (same_told b _ p) ∙ sym (append-nil a.polls)
step_polls a b (heard Failed) p = ap (λ (t : Told). t.polls) (same_told b _ p)
step_polls a b (heard (Message text)) p = ap (λ (t : Told). t.polls) (same_told b _ p.1)
step_polls a b (heard Quiet) p = ap (λ (t : Told). t.polls) (same_told b _ p.1)
step_polls a b (heard Closed) p = ap (λ (t : Told). t.polls) (same_told b _ p.1)
step_polls a b (said text) p = ap (λ (t : Told). t.polls) (same_told b _ p.2) ∙ sym (append-nil a.polls)
step_polls a b (handed_back text fault) p = ap (λ (t : Told). t.polls) (same_told b _ p.1) ∙ sym (append-nil a.polls)

pub has_closed-append : (xs : List Polled) (x : Polled) → has_closed (xs ++ x ∷ []) ≡ (has_closed xs || has_closed (x ∷ []))
has_closed-append [] x = refl
has_closed-append (Closed ∷ xs) x = refl
has_closed-append (_ ∷ xs) x = has_closed-append xs x

-- the calls behind a poll whose answer is kept
behind_answer : (a b : Told) (calls : List Call) (answer : Polled) → b.blocked ≡ a.blocked → b.polls ≡ a.polls ++ answer ∷ []
    → (b.blocked || blocks (has_closed b.polls) calls) ≡ (a.blocked || blocks (has_closed a.polls || has_closed (answer ∷ [])) calls)
behind_answer a b calls answer blocked polls = rw (blocked, polls, has_closed-append a.polls answer) refl

step_blocked : (a b : Told) (call : Call) (calls : List Call) → Tells a call b
    → (b.blocked || blocks (has_closed b.polls) calls) ≡ (a.blocked || blocks (has_closed a.polls) (call ∷ calls))
step_blocked a b (heard Memory) calls p = rw (same_told b _ p, or-false (has_closed a.polls)) refl
step_blocked a b (heard Failed) calls p =
    behind_answer a b calls Failed (ap (λ (t : Told). t.blocked) (same_told b _ p)) (ap (λ (t : Told). t.polls) (same_told b _ p))
step_blocked a b (heard (Message text)) calls p =
    behind_answer a b calls (Message text) (ap (λ (t : Told). t.blocked) (same_told b _ p.1)) (ap (λ (t : Told). t.polls) (same_told b _ p.1))
step_blocked a b (heard Quiet) calls p =
    behind_answer a b calls Quiet (ap (λ (t : Told). t.blocked) (same_told b _ p.1)) (ap (λ (t : Told). t.polls) (same_told b _ p.1))
step_blocked a b (heard Closed) calls p =
    behind_answer a b calls Closed (ap (λ (t : Told). t.blocked) (same_told b _ p.1)) (ap (λ (t : Told). t.polls) (same_told b _ p.1))
step_blocked a b (said text) calls p = rw (same_told b _ p.2) refl
step_blocked a b (handed_back text fault) calls p = rw (same_told b _ p.1) (or_assoc a.blocked (not (has_closed a.polls)) (blocks (has_closed a.polls) calls))

-- the texts that were sent, behind those before, are those that were taken
pub sent_told : (a b : Told) (calls : List Call) → Leads Tells a calls b → b.sent ≡ a.sent ++ said_in calls
sent_told a b [] is = ap (λ (t : Told). t.sent) is ∙ sym (append-nil a.sent)
sent_told a b (call ∷ calls) q =
    sent_told q.0 b calls q.2 ∙ ap (λ xs. xs ++ said_in calls) (step_sent a q.0 call q.1)
    ∙ append_assoc a.sent (said_in (call ∷ [])) (said_in calls) ∙ ap (λ xs. a.sent ++ xs) (sym (said_in-append (call ∷ []) calls))

-- the answers of the polls, behind those before, are those that were heard
pub polls_told : (a b : Told) (calls : List Call) → Leads Tells a calls b → b.polls ≡ a.polls ++ answers_in calls
polls_told a b [] is = ap (λ (t : Told). t.polls) is ∙ sym (append-nil a.polls)
polls_told a b (call ∷ calls) q =
    polls_told q.0 b calls q.2 ∙ ap (λ xs. xs ++ answers_in calls) (step_polls a q.0 call q.1)
    ∙ append_assoc a.polls (answers_in (call ∷ [])) (answers_in calls) ∙ ap (λ xs. a.polls ++ xs) (sym (answers_in-append (call ∷ []) calls))

-- it is blocked where it was, or a text was handed back before the peer was known to have closed
pub blocked_told : (a b : Told) (calls : List Call) → Leads Tells a calls b → b.blocked ≡ (a.blocked || blocks (has_closed a.polls) calls)
blocked_told a b [] is = ap (λ (t : Told). t.blocked) is ∙ sym (or-false a.blocked)
blocked_told a b (call ∷ calls) q = blocked_told q.0 b calls q.2 ∙ step_blocked a q.0 call calls q.1

abbrev message_of : List ℕ → Polled → List ℕ
message_of text (Message found) = found
message_of text _ = text

message_text : (t text : List ℕ) → Message text ≡ Message t → text ≡ t
message_text t text is = ap (message_of text) is

-- what was next where a poll gave it
next_text : (texts : List (List ℕ)) (closed : Bool) (text : List ℕ) → Message text ≡ next_of texts closed → texts ≡ text ∷ drop 1 texts
next_text (t ∷ texts) closed text is = ap (λ x. x ∷ texts) (sym (message_text t text is))
next_text [] true text is = absurd (grind (arith, is))
next_text [] false text is = absurd (grind (arith, is))

nothing_next : (texts : List (List ℕ)) (closed : Bool) (answer : Polled) → answer ≡ next_of texts closed → heard_in (heard answer ∷ []) ≡ [] →
    texts ≡ drop 1 texts
nothing_next [] closed answer is none = refl
nothing_next (t ∷ texts) closed answer is none = absurd (grind (arith, none))

step_waiting : (a b : Told) (call : Call) → Tells a call b → a.waiting ≡ heard_in (call ∷ []) ++ b.waiting
step_waiting a b (heard Memory) p = ap (λ (t : Told). t.waiting) (sym (same_told b _ p))
step_waiting a b (heard Failed) p = ap (λ (t : Told). t.waiting) (sym (same_told b _ p))
step_waiting a b (heard (Message text)) p = next_text a.waiting a.closed text p.0 ∙ ap (λ (t : Told). text ∷ t.waiting) (sym (same_told b _ p.1))
step_waiting a b (heard Quiet) p = nothing_next a.waiting a.closed Quiet p.0 refl ∙ ap (λ (t : Told). t.waiting) (sym (same_told b _ p.1))
step_waiting a b (heard Closed) p = nothing_next a.waiting a.closed Closed p.0 refl ∙ ap (λ (t : Told). t.waiting) (sym (same_told b _ p.1))
step_waiting a b (said text) p = ap (λ (t : Told). t.waiting) (sym (same_told b _ p.2))
step_waiting a b (handed_back text fault) p = ap (λ (t : Told). t.waiting) (sym (same_told b _ p.1))

-- the texts that waited are those that were heard, and those that wait still
pub waiting_told : (a b : Told) (calls : List Call) → Leads Tells a calls b → a.waiting ≡ heard_in calls ++ b.waiting
waiting_told a b [] is = ap (λ (t : Told). t.waiting) (sym is)
waiting_told a b (call ∷ calls) q =
    step_waiting a q.0 call q.1 ∙ ap (λ xs. heard_in (call ∷ []) ++ xs) (waiting_told q.0 b calls q.2)
    ∙ sym (append_assoc (heard_in (call ∷ [])) (heard_in calls) b.waiting) ∙ ap (λ xs. xs ++ b.waiting) (sym (heard_in-append (call ∷ []) calls))

-- while no poll answers that the peer has closed, each text that is handed back blocks
pub refusal_blocks : (calls : List Call) → has_closed (answers_in calls) ≡ false → blocks false calls ≡ has_refusal calls
refusal_blocks [] never = refl
refusal_blocks (said text ∷ calls) never = refusal_blocks calls never
refusal_blocks (handed_back text fault ∷ calls) never = refl
refusal_blocks (heard Memory ∷ calls) never = refusal_blocks calls never
refusal_blocks (heard (Message text) ∷ calls) never = refusal_blocks calls never
refusal_blocks (heard Quiet ∷ calls) never = refusal_blocks calls never
refusal_blocks (heard Failed ∷ calls) never = refusal_blocks calls never
refusal_blocks (heard Closed ∷ calls) never = absurd (both_ways true never refl)

step_ring : (a b : RingEnd) (call : Call) → RingMakes a call b → (b.sent ≡ a.sent ++ said_in (call ∷ [])) × (b.taken ≡ a.taken ++ heard_in (call ∷ []))
step_ring a b (heard (Message text)) p = (ap (λ (e : RingEnd). e.sent) p.2 ∙ sym (append-nil a.sent), ap (λ (e : RingEnd). e.taken) p.2)
step_ring a b (heard Quiet) p = (ap (λ (e : RingEnd). e.sent) p.2 ∙ sym (append-nil a.sent), ap (λ (e : RingEnd). e.taken) p.2 ∙ sym (append-nil a.taken))
step_ring a b (heard Closed) p = (ap (λ (e : RingEnd). e.sent) p.1 ∙ sym (append-nil a.sent), ap (λ (e : RingEnd). e.taken) p.1 ∙ sym (append-nil a.taken))
step_ring a b (heard Failed) p = absurd p
step_ring a b (heard Memory) p = absurd p
step_ring a b (said text) p = (ap (λ (e : RingEnd). e.sent) p.2, ap (λ (e : RingEnd). e.taken) p.2 ∙ sym (append-nil a.taken))
step_ring a b (handed_back text fault) p =
    (ap (λ (e : RingEnd). e.sent) p.2 ∙ sym (append-nil a.sent), ap (λ (e : RingEnd). e.taken) p.2 ∙ sym (append-nil a.taken))

-- an end of a ring: the texts sent and the texts taken, behind those before
pub ring_sent : (a b : RingEnd) (calls : List Call) → Leads RingMakes a calls b → b.sent ≡ a.sent ++ said_in calls
ring_sent a b [] is = ap (λ (e : RingEnd). e.sent) is ∙ sym (append-nil a.sent)
ring_sent a b (call ∷ calls) q =
    ring_sent q.0 b calls q.2 ∙ ap (λ xs. xs ++ said_in calls) (step_ring a q.0 call q.1).0
    ∙ append_assoc a.sent (said_in (call ∷ [])) (said_in calls) ∙ ap (λ xs. a.sent ++ xs) (sym (said_in-append (call ∷ []) calls))

pub ring_taken : (a b : RingEnd) (calls : List Call) → Leads RingMakes a calls b → b.taken ≡ a.taken ++ heard_in calls
ring_taken a b [] is = ap (λ (e : RingEnd). e.taken) is ∙ sym (append-nil a.taken)
ring_taken a b (call ∷ calls) q =
    ring_taken q.0 b calls q.2 ∙ ap (λ xs. xs ++ heard_in calls) (step_ring a q.0 call q.1).1
    ∙ append_assoc a.taken (heard_in (call ∷ [])) (heard_in calls) ∙ ap (λ xs. a.taken ++ xs) (sym (heard_in-append (call ∷ []) calls))
