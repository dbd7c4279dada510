-- What one more poll makes of the answers of a link in memory.
use Rattle.std.proofs.Common.{◌≡◌, ℕ, zero, suc, ◌+◌, ◌≤◌, ◌++◌, ◌||◌, Bool, true, false, List, [], ◌∷◌, Some, None, length, drop, slice_get, refl, sym, ap, ◌∙◌, arith, add-one, length-append}
use Rattle.std.proofs.Math.Bool.{or-false}
use Rattle.std.proofs.lemmas.Bool.{both_ways}
use Rattle.std.proofs.lemmas.List.{drop-drop}
use Rattle.duct.specs.declared.link.Polled.{Polled}
use Rattle.duct.specs.declared.link.Polled.TheVariants.{Message, Quiet, Closed, Failed, Memory}
use Rattle.duct.specs.Told.{Told}
use Rattle.duct.specs.Polls.{Polls, poll_failed, next_of, polled, has_closed}
use Rattle.duct.specs.Schedules.{fails_after}
use Rattle.duct.specs.CallLaws.{has_closed-append}
use Rattle.duct.specs.Lines.{Script, Line, given, answer_after, answers, LineAnswers, line_polled}

pub next_of_some : (texts : List (List ℕ)) (at : ℕ) (text : List ℕ) (closed : Bool) → slice_get texts at ≡ Some text
    → Message text ≡ next_of (drop at texts) closed
next_of_some [] at text closed is = grind (arith)
next_of_some (t ∷ texts) zero text closed is = grind (arith)
next_of_some (t ∷ texts) (suc at) text closed is = next_of_some texts at text closed is

pub next_of_none : (texts : List (List ℕ)) (at : ℕ) (closed : Bool) → slice_get texts at ≡ None
    → next_of [] closed ≡ next_of (drop at texts) closed
next_of_none [] zero closed is = refl
next_of_none [] (suc at) closed is = refl
next_of_none (t ∷ texts) zero closed is = grind (arith)
next_of_none (t ∷ texts) (suc at) closed is = next_of_none texts at closed is

pub length-answers : (s : Script) (n : ℕ) → length (answers s n) ≡ n
length-answers s zero = refl
length-answers s (suc n) = omega (arith, length-append (answers s n) (answer_after s n ∷ []), length-answers s n)

pub answers-next : (s : Script) (n call : ℕ) → call ≡ n + 1 → answers s call ≡ answers s n ++ answer_after s n ∷ []
answers-next s n call is = ap (answers s) (is ∙ add-one n)

-- what the fields keep
abbrev pub Keeps : Script → ℕ → ℕ → Bool → Type 0
Keeps s at n ended = (at ≤ n) × (at ≡ given s n) × (ended ≡ has_closed (answers s n))

pub keeps_failed : (s : Script) (at n call : ℕ) (ended : Bool) → call ≡ n + 1 → fails_after s.failing n ≡ true → Keeps s at n ended → Keeps s at call ended
keeps_failed s at n call ended is fails kept = (
  omega (arith, is, kept.0),
  rw (is, add-one n, fails) kept.1,
  rw (answers-next s n call is, has_closed-append (answers s n) (answer_after s n), fails, ← kept.2) (sym (or-false ended)),
)

pub keeps_passed : (s : Script) (at n call : ℕ) (ended ended' : Bool) (answer : Polled) → call ≡ n + 1 → fails_after s.failing n ≡ false
    → answer ≡ next_of (drop at s.texts) s.closed → ended' ≡ (ended || has_closed (answer ∷ [])) → Keeps s at n ended → Keeps s (at + 1) call ended'
keeps_passed s at n call ended ended' answer is passes next ends kept = (
  omega (arith, is, kept.0),
  rw (is, add-one n, passes) (ap (λ k. k + 1) kept.1),
  rw (answers-next s n call is, has_closed-append (answers s n) (answer_after s n), passes, ← kept.1, ← kept.2, ← next) ends,
)

-- whether it is the answer of a poll that takes what is next
abbrev is_taken : Polled → Bool
is_taken Failed = false
is_taken Memory = false
is_taken _ = true

next_is_taken : (texts : List (List ℕ)) (closed : Bool) → is_taken (next_of texts closed) ≡ true
next_is_taken (t ∷ texts) closed = refl
next_is_taken [] true = refl
next_is_taken [] false = refl

taken : (answer : Polled) (texts : List (List ℕ)) (closed : Bool) → answer ≡ next_of texts closed → is_taken answer ≡ false → ⊥
taken answer texts closed is not = both_ways (is_taken answer) not (ap is_taken is ∙ next_is_taken texts closed)

pub never_fails : (texts : List (List ℕ)) (closed : Bool) → poll_failed (next_of texts closed) ≡ false
never_fails (t ∷ texts) closed = refl
never_fails [] true = refl
never_fails [] false = refl

pub polls_next : (before after : Told) (answer : Polled) → answer ≡ next_of before.waiting before.closed → after ≡ polled before answer
    → Polls before answer (Some after)
polls_next before after (Message text) is next = (is, ap Some next)
polls_next before after Quiet is next = (is, ap Some next)
polls_next before after Closed is next = (is, ap Some next)
polls_next before after Failed is next = absurd (taken Failed before.waiting before.closed is refl)
polls_next before after Memory is next = absurd (taken Memory before.waiting before.closed is refl)

pub line_answers : (l : Line) (answer : Polled) → fails_after l.failing_polls (length l.told.polls) ≡ false
    → answer ≡ next_of l.told.waiting l.told.closed → LineAnswers l answer
line_answers l Memory passes is = tt
line_answers l (Message text) passes is = rw passes is
line_answers l Quiet passes is = rw passes is
line_answers l Closed passes is = rw passes is
line_answers l Failed passes is = rw passes is

pub line_next : (l : Line) (answer : Polled) → answer ≡ next_of l.told.waiting l.told.closed
    → record l { told = polled l.told answer } ≡ line_polled l answer
line_next l (Message text) is = refl
line_next l Quiet is = refl
line_next l Closed is = refl
line_next l Failed is = absurd (taken Failed l.told.waiting l.told.closed is refl)
line_next l Memory is = absurd (taken Memory l.told.waiting l.told.closed is refl)

pub told_polled : (s : Script) (sent : List (List ℕ)) (room : ℕ) (blocked : Bool) (at n call : ℕ) (answer : Polled) → call ≡ n + 1
    → fails_after s.failing n ≡ false → at ≡ given s n → answer ≡ next_of (drop at s.texts) s.closed
    → record { waiting = drop (at + 1) s.texts; closed = s.closed; polls = answers s call; sent = sent; room = room; blocked = blocked }
    ≡ polled (record { waiting = drop at s.texts; closed = s.closed; polls = answers s n; sent = sent; room = room; blocked = blocked }) answer
told_polled s sent room blocked at n call answer is passes kept next =
    rw (answers-next s n call is, passes, ← kept, ← next, drop-drop 1 at s.texts) refl
