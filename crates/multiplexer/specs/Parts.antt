-- Publishes, each with the text that is known of it.
use Rattle.std.specs.Prelude.{◌≡◌, ℕ, List, [], ◌∷◌, map, slice_get, Option, None, Some}
use Rattle.std.specs.List.{AllByRecursion}
use Rattle.map_model.specs.Maps.{at}
use Rattle.value_model.specs.Val.{Entries}
use Rattle.ejson_value.specs.declared.key.Key.{Key}
use Rattle.ejson_value.specs.Key.{key_cmp}
use Rattle.known_texts.specs.Places.{Texts, text_at}
use Rattle.multiplexer.specs.declared.joining.Part.{Part}
use Rattle.multiplexer.specs.Joining.{put_news}
use Rattle.multiplexer.specs.Known.{IsKnown}
use Rattle.multiplexer.specs.Leading.{News}
use Rattle.multiplexer.specs.Telling.{AnEntry, news_in}

abbrev pub news_of_part : Part → Key × Option Entries
news_of_part part = (part.one.key, part.one.new)

abbrev pub news_of_parts : List Part → News
news_of_parts parts = map news_of_part parts

-- each text is what a client is told that sees what is published before
abbrev pub IsKnownPart : (Key → Option Entries) → Part → Type 0
IsKnownPart before part = IsKnown before (news_of_part part) part.text

abbrev pub AreKnownParts : (Key → Option Entries) → List Part → Type 0
AreKnownParts before parts = AllByRecursion (IsKnownPart before) parts

-- so is that of each publish whose key is not named already
abbrev pub IsNewKnown : (Key → Option Entries) → News → News → Texts → Type 0
IsNewKnown before named news texts = (place : ℕ) (one : Key × Option Entries) → slice_get news place ≡ Some one → at key_cmp named one.0 ≡ None →
    IsKnown before one (text_at texts place)

-- and that of each publish of an entry whose key neither these name nor an earlier entry
abbrev pub AreNewKnown : (Key → Option Entries) → News → List AnEntry → Type 0
AreNewKnown before named [] = Unit {0}
AreNewKnown before named (one ∷ ones) = IsNewKnown before named (news_in one) one.texts × AreNewKnown before (put_news named (news_in one)) ones
