-- What the contracts of `MethodQueue` cite. A client's messages are handled in the order in which they came, and none while
-- a method blocks: a method that has started and neither ended nor unblocked ("Remote Procedure Calls" of Meteor's DDP
-- specification; `this.unblock()` of Meteor's methods).
use Rattle.std.specs.Prelude.{◌≡◌, ℕ, ◌+◌, ◌≤◌, ◌<◌, ◌⊎◌, Bool, true, false, if◌then◌else◌, ◌==◌, List, [], ◌∷◌, ◌++◌, length, sum_by, drop}
use Rattle.std.specs.Prelude.{slice_get, Option, Some, None, is_some, IsTrue, IfSome}
use Rattle.std.specs.Option.{option_map}
use Rattle.std.specs.Ordering.{nat_cmp}
use Rattle.std.specs.FinSet as set
use Rattle.ddp_messages.specs.ClientMessage.{ClientMessage}

-- a message that waits, and how many bytes its text has
pub record Waiting : Type 0 where
  pub message : ClientMessage
  pub bytes : ℕ

-- how many messages may wait, those that wait, the first to be handled first, the numbers of the methods that run, the one
-- of them that blocks, if one does, and whether room is kept for one more run
pub record Queue : Type 0 where
  pub limit : ℕ
  pub waiting : List Waiting
  pub running : set.FinSet nat_cmp
  pub blocks : Option ℕ
  pub has_room : Bool

-- how many bytes may wait
abbrev pub max_bytes : ℕ
max_bytes = 4194304

abbrev pub waiting_bytes : Queue → ℕ
waiting_bytes q = sum_by (λ w. w.bytes) q.waiting

-- no further message of so many bytes may wait
abbrev pub IsFull : Queue → ℕ → Type 0
IsFull q bytes = (length q.waiting ≡ q.limit) ⊎ (max_bytes < waiting_bytes q + bytes)

-- method k runs
abbrev pub IsRunning : Queue → ℕ → Type 0
IsRunning q k = IsTrue (set.contains q.running k)

-- what waits is within the limits, and the method that blocks runs
pub record IsWithin (q : Queue) : Type 0 where
  pub messages : length q.waiting ≤ q.limit
  pub bytes : waiting_bytes q ≤ max_bytes
  pub blocks : IfSome q.blocks (IsRunning q)

abbrev pub new_queue : ℕ → Queue
new_queue limit = record { limit = limit; waiting = []; running = set.empty; blocks = None; has_room = false }

abbrev pub pushed : Queue → ClientMessage → ℕ → Queue
pushed q message bytes = record q { waiting = q.waiting ++ record { message = message; bytes = bytes } ∷ [] }

-- the message that is handled next: the first, and none while a method blocks
abbrev pub next_message : Queue → Option ClientMessage
next_message q = if is_some q.blocks then None else option_map (λ w. w.message) (slice_get q.waiting 0)

abbrev pub taken : Queue → Queue
taken q = record q { waiting = drop 1 q.waiting }

abbrev pub reserved : Queue → Queue
reserved q = record q { has_room = true }

-- method k runs and blocks, in the room that was kept
abbrev pub started : Queue → ℕ → Queue
started q k = record q { running = set.insert q.running k; blocks = Some k; has_room = false }

abbrev pub unblocked : Queue → Queue
unblocked q = record q { blocks = None }

-- the method that blocks once k does not
abbrev pub other_than : Option ℕ → ℕ → Option ℕ
other_than None k = None
other_than (Some j) k = if j == k then None else Some j

-- method k neither runs nor blocks
abbrev pub ended : Queue → ℕ → Queue
ended q k = record q { running = set.remove q.running k; blocks = other_than q.blocks k }
