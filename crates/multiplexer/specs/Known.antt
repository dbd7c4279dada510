-- The texts that are known of publishes: what each client is told that sees the document as the publication showed it before.
use Rattle.std.specs.Prelude.{◌≡◌, ℕ, List, [], ◌∷◌, Option, Some, None, option_map, option_and_then, is_some, IfSome}
use Rattle.std.specs.Ordering.{eq_by_cmp}
use Rattle.map_model.specs.Maps.{at, IsSorted}
use Rattle.map_model.specs.Differences.{Step, between}
use Rattle.value_model.specs.Val.{Val, Entries}
use Rattle.value_model.specs.Order.{text_cmp, compare}
use Rattle.ejson_value.specs.declared.key.Key.{Key}
use Rattle.known_texts.specs.Places.{Texts}
use Rattle.session_model.specs.Texts.{server_text}
use Rattle.session_model.specs.Out.{about}
use Rattle.multiplexer.specs.Leading.{News}

-- the value of a field of a document, if there is one
abbrev pub value_of : Option Entries → List ℕ → Option Val
value_of doc name = option_and_then (λ fields. at text_cmp fields name) doc

-- the document that is seen has the fields of the one that is shown, by name
pub record IsSeenAs (seen shown : Option Entries) : Type 0 where
  pub there : is_some seen ≡ is_some shown
  pub fields : (name : List ℕ) → value_of seen name ≡ value_of shown name
  pub by_name : IfSome seen (IsSorted text_cmp)

-- the text that a client is told whose document becomes the one of the publish, if there is anything to say
abbrev pub text_of : Key × Option Entries → Option Entries → Option (List ℕ)
text_of one seen = option_map (λ (step : Step (List ℕ) Val). server_text (about (one.0, step))) (between text_cmp (eq_by_cmp compare) seen one.1)

-- a text that is known is what each client is told that sees the document as it was shown
abbrev pub IsKnown : (Key → Option Entries) → Key × Option Entries → Option (List ℕ) → Type 0
IsKnown before one None = Unit {0}
IsKnown before one (Some text) = (seen : Option Entries) → IsSeenAs seen (before one.0) → text_of one seen ≡ Some text

-- of each publish, where its text is known
abbrev pub AreKnown : (Key → Option Entries) → News → Texts → Type 0
AreKnown before news [] = Unit {0}
AreKnown before [] (text ∷ texts) = ⊥
AreKnown before (one ∷ news) (text ∷ texts) = IsKnown before one text × AreKnown before news texts
