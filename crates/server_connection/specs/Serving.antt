-- A link that is served: the calls that were made of it, and what is kept beside it meanwhile.
use Rattle.std.specs.Prelude.{◌≡◌, ◌⊎◌, ◌≤◌, ◌||◌, ℕ, List, [], ◌∷◌, ◌++◌, Bool, true, false, Option, None, Some, option_to_list}
use Rattle.duct.specs.declared.link.Polled.TheVariants.{Closed}
use Rattle.duct.specs.declared.link.SendFault.TheVariants as fault
use Rattle.duct.specs.Calls.{Call, heard, said, handed_back, Leads, heard_in, said_in, has_refusal}
use Rattle.server_connection.specs.declared.desk.Desk.{Desk}

abbrev pub Texts : Type 0
Texts = List (List ℕ)

-- ---- texts that were handed back

-- a text that is offered is the one that was handed back, if one was
abbrev pub IsNext : Option (List ℕ) → List ℕ → Type 0
IsNext None text = Unit {0}
IsNext (Some back) text = text ≡ back

-- each text that is handed back is offered again before any other: the one that was handed back before the calls, and the one that is behind them
abbrev pub AreInTurn : Option (List ℕ) → List Call → Option (List ℕ) → Type 0
AreInTurn back [] last = last ≡ back
AreInTurn back (heard answer ∷ calls) last = AreInTurn back calls last
AreInTurn back (said text ∷ calls) last = IsNext back text × AreInTurn None calls last
AreInTurn back (handed_back text fault ∷ calls) last = IsNext back text × AreInTurn (Some text) calls last

-- whether a poll or a send answered that the peer has closed
abbrev pub is_close : Call → Bool
is_close (heard Closed) = true
is_close (handed_back text fault.Closed) = true
is_close call = false

abbrev pub tells_close : List Call → Bool
tells_close [] = false
tells_close (call ∷ calls) = is_close call || tells_close calls

-- ---- what becomes of a text

-- S: what a session is seen as; Means: it stands for these texts that it took and sent
module _ {S : Type 0} (Means : Texts → Texts → S → Type 0) where
  -- the text was taken, or it is held and the session is as it was
  abbrev pub TakesIn : List ℕ → S → S → Option (List ℕ) → Type 0
  TakesIn text s s' None = (taken sent : Texts) → Means taken sent s → Means (taken ++ text ∷ []) sent s'
  TakesIn text s s' (Some held) = (held ≡ text) × (s' ≡ s)

  -- the text goes next: the one that was handed back, or else one that the session sends
  pub record GoesNext (text : List ℕ) (s s' : S) (d d' : Desk) : Type 0 where
    pub means : (taken before : Texts) → Means taken (before ++ option_to_list d.back) s → Means taken (before ++ text ∷ []) s'
    pub next : IsNext d.back text
    pub back : d'.back ≡ None
    pub held : d'.held ≡ d.held
    pub refused : d'.refused ≡ d.refused

  -- what became of the text that was held, if one was
  abbrev pub TakesAgain : Option (List ℕ) → S → S → Option (List ℕ) → Type 0
  TakesAgain None s s' held = (s' ≡ s) × (held ≡ None)
  TakesAgain (Some text) s s' held = TakesIn text s s' held

-- ---- the calls of a link

-- Rests: the session is at rest
module _ {S : Type 0} (Means : Texts → Texts → S → Type 0) (Rests : S → Type 0) where
  -- After these calls all that was heard is taken, and either a text was handed back, or all is sent and the session rests.
  pub record MayPoll (calls : List Call) : Type 0 where
    pub session : S
    pub sent : Texts
    pub means : Means (heard_in calls) sent session
    pub rests : (has_refusal calls ≡ true) ⊎ ((sent ≡ said_in calls) × Rests session)

  -- each poll among the calls, behind those before, was made at such a time
  abbrev pub ArePolls : List Call → List Call → Type 0
  ArePolls before [] = Unit {0}
  ArePolls before (heard answer ∷ calls) = MayPoll before × ArePolls (before ++ heard answer ∷ []) calls
  ArePolls before (call ∷ calls) = ArePolls (before ++ call ∷ []) calls

  module _ {L : Type 0} (steps : L → Call → L → Type 0) (faults : L → ℕ) where
    -- The calls so far. The session stands for the texts that were heard, but for the one that is held, and for those that were said, with the one
    -- that was handed back
    pub record Serving (first link : L) (s : S) (d : Desk) : Type 0 where
      pub calls : List Call
      pub leads : Leads steps first calls link
      pub counts : faults first ≤ faults link
      pub taken : Texts
      pub sent : Texts
      pub means : Means taken sent s
      pub heard_all : heard_in calls ≡ taken ++ option_to_list d.held
      pub said_all : sent ≡ said_in calls ++ option_to_list d.back
      pub turns : AreInTurn None calls d.back
      pub polls : ArePolls [] calls
      pub refusal : has_refusal calls ≡ d.refused

    -- more calls may follow
    abbrev pub Keeps : L → S → Desk → L → S → Desk → Type 0
    Keeps link s d link' s' d' = (first : L) → Serving first link s d → Serving first link' s' d'

    pub record IsClosed (first link : L) (s : S) (d : Desk) : Type 0 where
      pub serving : Serving first link s d
      pub closed : tells_close serving.calls ≡ true

    -- more calls may follow, of which one is answered that the peer has closed
    abbrev pub Closes : L → S → Desk → L → S → Desk → Type 0
    Closes link s d link' s' d' = (first : L) → Serving first link s d → IsClosed first link' s' d'
