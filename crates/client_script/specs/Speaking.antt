-- Whoever speaks for a client: what is seen of it, and what it does.
use Rattle.std.specs.Prelude.{◌≡◌, ℕ, List, [], Bool, true, false, not, ◌&&◌, Option, Some, None, is_none, Result, Ok, Err}
use Rattle.client_script.specs.declared.line.Ask.{Ask}
use Rattle.client_script.specs.declared.speaker.Heard.{Heard}
use Rattle.client_script.specs.declared.speaker.Heard.TheVariants as answer

pub record Look : Type 0 where
  -- its client is connected; no subscription and no call of it waits
  pub is_connected : Bool
  pub is_settled : Bool
  -- its version was refused; and the number of the rule by which a text was refused
  pub is_failed : Bool
  pub broken : Option ℕ
  -- what it can be asked for
  pub can : Ask → Bool
  -- the texts that wait to be sent, the first one first
  pub waiting : List (List ℕ)
  -- what its client has, in lines
  pub lines : List (List ℕ)

-- a text of the server was taken or refused; it did what it was asked for; it gave the text that waited first
pub data Deed : Type 0 where
  heard : List ℕ → Deed
  asked : Ask → Deed
  said : List ℕ → Deed

-- no text was refused, nor its version
abbrev pub goes_on : Look → Bool
goes_on l = not l.is_failed && is_none l.broken

-- what was refused so far is the same
pub record GoesOnAs (l l' : Look) : Type 0 where
  pub failed : l'.is_failed ≡ l.is_failed
  pub broken : l'.broken ≡ l.broken

-- what is seen behind a text that was heard
abbrev pub IsHeard : Look → Heard → Type 0
IsHeard l answer.Taken = (l.is_failed ≡ false) × (l.broken ≡ None)
IsHeard l answer.Failed = (l.is_failed ≡ true) × (l.broken ≡ None)
IsHeard l (answer.Refused n) = (l.is_failed ≡ false) × (l.broken ≡ Some n)

module _ {S : Type 0} (look : S → Look) (does : S → Deed → S → Type 0) where
  -- what can be done is done, and else nothing
  abbrev pub Asks : {F : Type 0} → S → Ask → S → Result Bool F → Type 0
  Asks old ask new (Ok true) = ((look old).can ask ≡ true) × does old (asked ask) new × GoesOnAs (look old) (look new)
  Asks old ask new (Ok false) = ((look old).can ask ≡ false) × (new ≡ old)
  Asks old ask new (Err e) = Unit {0}

  abbrev pub Hears : {F : Type 0} → S → List ℕ → S → Result Heard F → Type 0
  Hears old text new (Ok answer) = does old (heard text) new × IsHeard (look new) answer
  Hears old text new (Err e) = Unit {0}

  -- the first text that waits is given, where there is one
  abbrev pub Says : S → S → Option (List ℕ) → Type 0
  Says old new None = ((look old).waiting ≡ []) × (new ≡ old)
  Says old new (Some text) = does old (said text) new × GoesOnAs (look old) (look new)
