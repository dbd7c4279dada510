-- A client that goes on with a new session when its link was lost (ours; Meteor's DDP.md says no more than that `connect` may name a
-- session that was there before, which this server and this client don't use). An epoch is what lies between two losses. What an
-- epoch's session sends is held until it has answered each subscription that is still wanted and each method without a result; then
-- the client is given all of it at once, and what it shows never goes through what the new session had only in part.
use Rattle.std.specs.Prelude.{ℕ, List, [], Bool, true, false, Option, None}
use Rattle.ejson_value.specs.Rows.{Rows}

-- a subscription: how many texts the client had queued before its own, and that text
pub record Wanted : Type 0 where
  pub place : ℕ
  pub text : List ℕ

-- the same of a method that has no result yet, or no `updated`, and which of the two the client was given
pub record Called : Type 0 where
  pub place : ℕ
  pub text : List ℕ
  pub is_answered : Bool
  pub is_updated : Bool

-- what the session lacks until its epoch is revived, by rising id: a `ready` or `nosub`, a `result`, an `updated`
pub record Lacking : Type 0 where
  pub subs : List (List ℕ)
  pub results : List (List ℕ)
  pub updates : List (List ℕ)

abbrev pub nothing_lacks : Lacking
nothing_lacks = record { subs = []; results = []; updates = [] }

pub record Revival : Type 0 where
  -- how many texts the client queued, and how many of them before the last loss
  pub queued : ℕ
  pub begun : ℕ
  -- the texts that wait to be said
  pub waiting : List (List ℕ)
  -- by id: the subscriptions that are wanted, the places of each first `unsub` without a `nosub` since, and the methods
  pub subs : List (List ℕ × Wanted)
  pub ended : List (List ℕ × ℕ)
  pub calls : List (List ℕ × Called)
  -- the documents that the client was given, and those that the present session sent
  pub given : Rows
  pub copy : Rows
  -- whether the client was given a `connected`, and whether the present session sent one
  pub is_known : Bool
  pub is_connected : Bool
  pub lacking : Lacking
  pub is_revived : Bool
  -- the texts that are held, but for data
  pub held : List (List ℕ)
  -- the number of the rule that refused a text
  pub broken : Option ℕ

-- at the beginning: the first epoch lacks nothing
abbrev pub new_revival : Revival
new_revival = record {
  queued = 0;
  begun = 0;
  waiting = [];
  subs = [];
  ended = [];
  calls = [];
  given = [];
  copy = [];
  is_known = false;
  is_connected = false;
  lacking = nothing_lacks;
  is_revived = true;
  held = [];
  broken = None;
}
