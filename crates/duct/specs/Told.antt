-- What is known of one end of a link, and counts of calls that failed.
use Rattle.std.specs.Prelude.{◌≡◌, ◌<◌, ℕ, Bool, true, false, List}
use Rattle.duct.specs.declared.link.Polled.{Polled}

pub record Told : Type 0 where
  -- the texts that wait to be taken here, the oldest first
  pub waiting : List (List ℕ)
  -- whether the peer has closed, so that no text will come behind these
  pub closed : Bool
  -- the answers of the polls so far, but for want of memory
  pub polls : List Polled
  -- the texts sent from here so far
  pub sent : List (List ℕ)
  -- how many more texts it takes before it is full
  pub room : ℕ
  -- whether a text was handed back while no poll had answered that the peer has closed
  pub blocked : Bool

-- a count of faults rises where the call failed, and stays where it didn't
abbrev pub CountsFaults : Bool → ℕ → ℕ → Type 0
CountsFaults true before after = before < after
CountsFaults false before after = after ≡ before
