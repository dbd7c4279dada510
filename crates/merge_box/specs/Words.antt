-- What a plan tells a client: of each publish that says something, the text that is known of it, or a message.
use Rattle.std.specs.Prelude.{◌≡◌, ℕ, true, List, [], ◌∷◌, ◌++◌, Option, Some, None, IsSome, IfSome, option_map, option_and_then, option_to_list, slice_get}
use Rattle.map_model.specs.Differences.{Step, between}
use Rattle.value_model.specs.Val.{Val, Entries}
use Rattle.value_model.specs.Order.{text_cmp}
use Rattle.merge_model.specs.Kept.{merged_doc, kept_at, publishers_at}
use Rattle.ejson_value.specs.declared.key.Key.{Key}
use Rattle.ejson_value.specs.Key.{key_cmp}
use Rattle.ejson_value.specs.declared.message.DataMsg.{DataMsg}
use Rattle.ejson_value.specs.Messages.{said}
use Rattle.known_texts.specs.Places.{Texts, text_at, is_open}
use Rattle.kept_document.specs.Held.{same_value, IsAlone}
use Rattle.merge_box.specs.declared.plan.Word.{Word}
use Rattle.merge_box.specs.declared.plan.Word.TheVariants.{Known, New}
use Rattle.merge_box.specs.State.{KeptDocs, Told}

-- publishes: keys, each with the document there from now on or none
abbrev pub NewsList : Type 0
NewsList = List (Key × Option Entries)

-- the document at a key, as the client sees it
abbrev pub Seen : Type 0
Seen = Key → Option Entries

abbrev pub seen_in : KeptDocs → Seen
seen_in kept k = merged_doc (kept_at key_cmp kept k)

-- what is said under a key
abbrev pub keyed_step : Key → Option (Step (List ℕ) Val) → Option (Key × Step (List ℕ) Val)
keyed_step key step = option_map (λ s. (key, s)) step

-- what a client is told whose document becomes the one of the publish
abbrev pub told_by : Seen → Key × Option Entries → Option (Key × Step (List ℕ) Val)
told_by seen one = keyed_step one.0 (between text_cmp same_value (seen one.0) one.1)

-- what a word says
abbrev pub said_by : Seen → NewsList → Word → Option (Key × Step (List ℕ) Val)
said_by seen news (Known place) = option_and_then (told_by seen) (slice_get news place)
said_by seen news (New message at) = Some (said message)

abbrev pub said_all : Seen → NewsList → List Word → Told
said_all seen news [] = []
said_all seen news (word ∷ words) = option_to_list (said_by seen news word) ++ said_all seen news words

-- the publish at this place is this one, of a document that no other subscription publishes
abbrev pub IsPlace : ℕ → KeptDocs → NewsList → ℕ → Key × Option Entries → Type 0
IsPlace sub kept news place one = (slice_get news place ≡ Some one) × IsAlone sub (publishers_at key_cmp kept one.0)

-- the message is what the client is told of the publish, of which no text is known
pub record IsOpenFor (sub : ℕ) (kept : KeptDocs) (news : NewsList) (texts : Texts) (says : Key × Step (List ℕ) Val) (place : ℕ) : Type 0 where
  pub one : Key × Option Entries
  pub is : IsPlace sub kept news place one
  pub told : told_by (seen_in kept) one ≡ Some says
  pub free : is_open texts place ≡ true

-- a text is known of the publish at this place
pub record IsKnownOf (sub : ℕ) (kept : KeptDocs) (news : NewsList) (texts : Texts) (place : ℕ) : Type 0 where
  pub one : Key × Option Entries
  pub is : IsPlace sub kept news place one
  pub known : IsSome (text_at texts place)

abbrev pub IsWord : ℕ → KeptDocs → NewsList → Texts → Word → Type 0
IsWord sub kept news texts (Known place) = IsKnownOf sub kept news texts place
IsWord sub kept news texts (New message at) = IfSome at (IsOpenFor sub kept news texts (said message))

-- a text is known, or is to be kept, only of a document that no other subscription publishes
abbrev pub AreWords : ℕ → KeptDocs → NewsList → Texts → List Word → Type 0
AreWords sub kept news texts [] = Unit {0}
AreWords sub kept news texts (word ∷ words) = IsWord sub kept news texts word × AreWords sub kept news texts words

-- ---- the words of one document
-- the message, if there is one
abbrev pub new_words : Option DataMsg → Option ℕ → List Word
new_words None at = []
new_words (Some message) at = New message at ∷ []

-- the message that says this, if there is one, is added
pub record HasSaid (at : Option ℕ) (key : Key) (step : Option (Step (List ℕ) Val)) (before after : List Word) : Type 0 where
  pub message : Option DataMsg
  pub says : option_map said message ≡ keyed_step key step
  pub more : after ≡ before ++ new_words message at

-- a text of it may be kept at this place
pub record IsOpenAt (sub : ℕ) (texts : Texts) (place : ℕ) (publishers : List ℕ) (at : ℕ) : Type 0 where
  pub here : at ≡ place
  pub alone : IsAlone sub publishers
  pub free : is_open texts place ≡ true

-- the word is of the publish at this place, and a message says what the change does
abbrev pub IsOneTold : ℕ → Texts → ℕ → Key → List ℕ → Option (Step (List ℕ) Val) → Word → Type 0
IsOneTold sub texts place key publishers step (Known at) = (at ≡ place) × IsAlone sub publishers × IsSome (text_at texts place)
IsOneTold sub texts place key publishers step (New message at) = (Some (said message) ≡ keyed_step key step) × IfSome at (IsOpenAt sub texts place publishers)

-- one word, or none of a change that says nothing
abbrev pub IsToldBy : ℕ → Texts → ℕ → Key → List ℕ → Option (Step (List ℕ) Val) → List Word → Type 0
IsToldBy sub texts place key publishers step [] = step ≡ None
IsToldBy sub texts place key publishers step (word ∷ []) = IsOneTold sub texts place key publishers step word
IsToldBy sub texts place key publishers step (word ∷ next ∷ words) = ⊥

-- what is told of the document with these publishers, where a change says this, is added
pub record HasTold (sub : ℕ) (texts : Texts) (place : ℕ) (key : Key) (publishers : List ℕ) (step : Option (Step (List ℕ) Val))
    (before after : List Word) : Type 0 where
  pub words : List Word
  pub more : after ≡ before ++ words
  pub told : IsToldBy sub texts place key publishers step words
