-- The entry of a span that alone names a key.
use Rattle.std.specs.Prelude.{◌≡◌, ℕ, zero, suc, List, [], ◌∷◌, map, slice_get, Option, Some, None}
use Rattle.std.specs.List.{AllByRecursion}
use Rattle.map_model.specs.Maps.{at, IsSorted}
use Rattle.value_model.specs.Val.{Entries}
use Rattle.ejson_value.specs.declared.key.Key.{Key}
use Rattle.ejson_value.specs.Key.{key_cmp}
use Rattle.ejson_value.specs.Rows.{Rows}
use Rattle.publication.specs.Cursors.{ACursors}
use Rattle.multiplexer.specs.declared.origins.Origin.{Origin}
use Rattle.multiplexer.specs.Joining.{key_at}
use Rattle.multiplexer.specs.Leading.{News, last_said, AreDifferences}
use Rattle.multiplexer.specs.Known.{IsKnown}
use Rattle.multiplexer.specs.Telling.{AnEntry, news_in, AreKnownFrom}

-- what is told of each stands by key
abbrev pub AreByKey : List AnEntry → Type 0
AreByKey ones = AllByRecursion (λ (one : AnEntry). IsSorted key_cmp (news_in one)) ones

-- the entry names the key at the place, and no other does
abbrev pub IsSole : List AnEntry → Key → ℕ → ℕ → Type 0
IsSole [] key entry place = ⊥
IsSole (one ∷ ones) key zero place = (key_at (news_in one) place ≡ Some key) × (last_said (map news_in ones) key ≡ None)
IsSole (one ∷ ones) key (suc entry) place = (at key_cmp (news_in one) key ≡ None) × IsSole ones key entry place

-- the one that alone does so far, if there is one; where there is none, none names it
abbrev pub IsSoleIn : List AnEntry → Key → Option Origin → Type 0
IsSoleIn ones key None = last_said (map news_in ones) key ≡ None
IsSoleIn ones key (Some o) = IsSole ones key o.entry o.place

-- the text is known of the publish at this place
pub record IsKnownAt (before : Key → Option Entries) (news : News) (place : ℕ) (text : List ℕ) : Type 0 where
  pub one : Key × Option Entries
  pub at : slice_get news place ≡ Some one
  pub known : IsKnown before one (Some text)

-- what is told of each is the difference that it makes, and a text that is known of one is what each client is told that sees what is published before it
pub record AreTaught (cursors : ACursors) (C : ℕ → Rows) (first : ℕ) (ones : List AnEntry) : Type 0 where
  pub each : AreDifferences cursors C first (map news_in ones)
  pub known : AreKnownFrom cursors C first ones
