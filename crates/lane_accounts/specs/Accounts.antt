-- The account that a lane keeps of its session.
use Rattle.std.specs.Prelude.{ℕ, List, Bool, Option}
use Rattle.session_model.specs.Methods.{Blocking}
use Rattle.session_journal_laws.specs.Stands.{Carried, items_of}
use Rattle.world_model.specs.Headline.{standing}
use Rattle.lane_model.specs.Account.{Account, IsTrueTo}

abbrev pub account : Bool → Bool → ℕ → Option Blocking → List Blocking → Account
account has_begun marked made blocking calls = record { has_begun = has_begun; marked = marked; blocking = blocking; standing = calls; made = made }

-- The account of a session that took these texts: its call that blocks, and its calls that stand. The lane has begun the one that blocks, or
-- hasn't; it is marked, or isn't; and its caller made so many entries.
abbrev pub account_of : Bool → Bool → ℕ → List (List ℕ) → Carried → Account
account_of has_begun marked made taken s = account has_begun marked made s.own.blocking (standing (items_of taken s))

-- From a session that took these texts to one that took those: an account that was true stays so, whatever entries the caller made.
abbrev pub Follows : Bool → List (List ℕ) → Carried → Bool → List (List ℕ) → Carried → Type 0
Follows has_begun taken old has_begun' taken' new = (begun : List Blocking) (marked : Bool) (made : ℕ) →
    IsTrueTo begun (account_of has_begun marked made taken old) → IsTrueTo begun (account_of has_begun' marked made taken' new)
