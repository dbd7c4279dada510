-- A lane's account: which calls of its session a lane has begun, and what its caller made of them.
use Rattle.std.specs.Prelude.{◌≡◌, ◌<◌, ◌+◌, ℕ, List, [], ◌∷◌, ◌++◌, length, map, filter, Bool, true, false, not, Option, None, Some}
use Rattle.session_model.specs.Methods.{Blocking, is_blocked_by}
use Rattle.history_model.specs.History.{Rise}
use Rattle.lane_model.specs.Among.{AreAmong, AllBelow}

-- ---- calls by number

abbrev pub number_of : Blocking → ℕ
number_of call = call.k

-- they stand by rising number
abbrev pub AreInOrder : List Blocking → Type 0
AreInOrder calls = Rise (map number_of calls)

-- these calls stand: some others, and behind them this one, whose number is above theirs
pub record IsLast (call : Blocking) (others calls : List Blocking) : Type 0 where
  pub is : calls ≡ others ++ call ∷ []
  pub below : AllBelow number_of call.k others

-- ---- accounts

pub record Account : Type 0 where
  -- whether the lane has begun the call that blocks, and whether it is marked, since somebody else was found to have begun one
  pub has_begun : Bool
  pub marked : Bool
  -- the call of the session that blocks, and its calls that stand: those that were handled and not refused, in order
  pub blocking : Option Blocking
  pub standing : List Blocking
  -- how many entries the lane's caller made
  pub made : ℕ

-- the calls that stand and that the lane has begun: all of them, or all but the one that blocks
abbrev pub owed_by : Bool → Option Blocking → List Blocking → List Blocking
owed_by true blocking calls = calls
owed_by false blocking calls = filter (λ (call : Blocking). not (is_blocked_by call.k blocking)) calls

abbrev pub owed : Account → List Blocking
owed a = owed_by a.has_begun a.blocking a.standing

-- the account is true to the calls of the session that the history begins, as far as the lane knows it
pub record IsTrueTo (begun : List Blocking) (a : Account) : Type 0 where
  -- it begins each call that the lane has begun, with its method, its parameters and its seed
  pub are_there : AreAmong (owed a) begun
  -- the caller made one entry for each
  pub counted : a.made ≡ length (owed a)
  -- and where the lane is marked, it begins more than the caller made
  pub foreign : a.marked ≡ true → a.made < length begun

-- ---- what becomes of an account

abbrev pub new_account : Account
new_account = record { has_begun = false; marked = false; blocking = None; standing = []; made = 0 }

-- a call is handled, and blocks
abbrev pub handled : Blocking → Account → Account
handled call a = record a { has_begun = false; blocking = Some call; standing = a.standing ++ call ∷ [] }

-- the call that blocked has finished, or lets the next message be handled
abbrev pub freed : Account → Account
freed a = record a { blocking = None }

-- the call that blocked is refused: these still stand
abbrev pub refused : List Blocking → Account → Account
refused others a = record a { blocking = None; standing = others }

-- the lane begins the call that blocks
abbrev pub begins : Account → Account
begins a = record a { has_begun = true; made = a.made + 1 }

-- somebody else was found to have begun it, or a later one
abbrev pub marks : Account → Account
marks a = record a { marked = true }

-- ---- the whole history

-- what a history says that has just as many calls of the session as the caller made: the lane isn't marked, and the history begins those that
-- the lane has begun, in their order, and no others
pub record IsSettled (a : Account) (begun : List Blocking) : Type 0 where
  pub unmarked : a.marked ≡ false
  pub exact : begun ≡ owed a
