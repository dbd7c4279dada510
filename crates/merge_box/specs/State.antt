-- What contracts see of a merge box and of a plan, and what a call does to a box.
use Rattle.std.specs.Prelude.{◌≡◌, ℕ, List, ◌∷◌, filter, length}
use Rattle.map_model.specs.Maps.{IsSorted}
use Rattle.map_model.specs.Differences.{Step, IsDiff, diff}
use Rattle.value_model.specs.Val.{Val, Entries}
use Rattle.value_model.specs.Order.{text_cmp}
use Rattle.merge_model.specs.Merge.{IsMerge}
use Rattle.merge_model.specs.Publishing.{Call, shown, shown_since}
use Rattle.merge_model.specs.Kept.{merged, kept_at, Stands, IsAfter}
use Rattle.ejson_value.specs.declared.key.Key.{Key}
use Rattle.ejson_value.specs.Key.{key_cmp}
use Rattle.kept_document.specs.Held.{KeptDoc, is_shared, same_value, IsHeld}

-- what is kept, by key
abbrev pub KeptDocs : Type 0
KeptDocs = List (Key × KeptDoc)

-- what messages say, by key
abbrev pub Told : Type 0
Told = List (Key × Step (List ℕ) Val)

-- the calls of a box, the newest first
abbrev pub Calls : Type 0
Calls = List (Call Key Entries)

-- what a box keeps of each document that somebody publishes, and what it keeps once the last plan is carried out
pub record BoxState : Type 0 where
  pub kept : KeptDocs
  pub planned : KeptDocs

-- how many documents two or more subscriptions publish
abbrev pub shared_count : KeptDocs → ℕ
shared_count kept = length (filter (λ e. is_shared e.1.publishers) kept)

-- the box stands for the calls
abbrev pub StandsFor : Calls → KeptDocs → Type 0
StandsFor past kept = Stands key_cmp text_cmp (shown key_cmp past) (shown_since key_cmp text_cmp past) kept

-- m is the merge after the calls
abbrev pub IsMergeOf : Calls → List (Key × Entries) → Type 0
IsMergeOf past m = IsMerge key_cmp text_cmp (shown key_cmp past) (shown_since key_cmp text_cmp past) m

-- kept is what was kept, after the call
abbrev pub IsBoxAfter : Call Key Entries → KeptDocs → KeptDocs → Type 0
IsBoxAfter call old new = IsAfter key_cmp text_cmp call old new

-- the messages are the difference of what a client sees of the two
abbrev pub Tells : KeptDocs → KeptDocs → Told → Type 0
Tells old new messages = IsDiff text_cmp same_value key_cmp (merged old) (merged new) messages

-- over every list of calls that the box stood for: it stands for the list with this call, and the messages are the
-- difference of the merge before the call and of the merge after it
pub record Answers (call : Call Key Entries) (old new : KeptDocs) (messages : Told) : Type 0 where
  pub stands : (past : Calls) → StandsFor past old → StandsFor (call ∷ past) new
  pub told : (past : Calls) (before after : List (Key × Entries)) → StandsFor past old → IsMergeOf past before → IsMergeOf (call ∷ past) after
      → messages ≡ diff text_cmp same_value key_cmp before after

-- the plan that the box keeps does what the call says, and the messages are the call's answer
pub record IsPlan (call : Call Key Entries) (box : BoxState) (messages : Told) : Type 0 where
  pub after : IsBoxAfter call box.kept box.planned
  pub told : Tells box.kept box.planned messages
  pub answers : Answers call box.kept box.planned messages

-- the keys are in order, and each document is kept whole
pub record IsBox (kept : KeptDocs) : Type 0 where
  pub by_key : IsSorted key_cmp kept
  pub held : (k : Key) → IsHeld (kept_at key_cmp kept k)
