-- What is told of entries, one after another, put together: by key, what is said last of each key.
use Rattle.std.specs.Prelude.{◌≡◌, ℕ, suc, List, [], ◌∷◌, Option, None, unwrap_or}
use Rattle.std.specs.Option.{option_or}
use Rattle.map_model.specs.Maps.{at, IsSorted}
use Rattle.value_model.specs.Val.{Entries}
use Rattle.ejson_value.specs.declared.key.Key.{Key}
use Rattle.ejson_value.specs.Key.{key_cmp}
use Rattle.ejson_value.specs.Rows.{Rows}
use Rattle.publication.specs.Cursors.{ACursors}
use Rattle.publication.specs.Published.{published}
use Rattle.live_observer.specs.Observing.{IsDifference}

-- keys, each with the document there from now on or none
abbrev pub News : Type 0
News = List (Key × Option Entries)

-- what the last of them that names the key says of it
abbrev pub last_said : List News → Key → Option (Option Entries)
last_said [] key = None
last_said (one ∷ all) key = option_or (last_said all key) (at key_cmp one key)

-- by key, what is said last of each key
pub record IsJoined (all : List News) (told : News) : Type 0 where
  pub by_key : IsSorted key_cmp told
  pub each : (key : Key) → at key_cmp told key ≡ last_said all key

-- By key, and with each key's news put into what was published before there is what is published then. A key may be named that is published so already
pub record IsLead (before after : Key → Option Entries) (told : News) : Type 0 where
  pub by_key : IsSorted key_cmp told
  pub leads : (key : Key) → unwrap_or (at key_cmp told key) (before key) ≡ after key

-- of each entry from a place on, the difference that it makes
abbrev pub AreDifferences : ACursors → (ℕ → Rows) → ℕ → List News → Type 0
AreDifferences cursors C from [] = Unit {0}
AreDifferences cursors C from (one ∷ all) =
    IsDifference (published cursors (C from)) (published cursors (C (suc from))) one × AreDifferences cursors C (suc from) all
