-- What the places for an object's members say: the value at each key.
use Rattle.std.specs.Prelude.{◌≡◌, ℕ, List, Option, Some, option_map, codes, if◌then◌else◌, ◌≢◌}
use Rattle.std.specs.Borrow.{Bor}
use Rattle.json.specs.Token.{Token}
use Rattle.value_model.specs.Val.{Val, text, list, object, vals_of, Entries, fields_of}
use Rattle.value_model.specs.Doc.{get, put}
use Rattle.value_model.specs.Size.{is_name}
use Rattle.ejson_codec.specs.Plain.{ValueRead, MembersRead, IsObjectText}
use Rattle.ejson_codec.specs.Reading.{max_levels}
use Rattle.ddp_messages.specs.declared.told.Told.{Told}
use Rattle.ddp_messages.specs.Plain.{Lookup}

-- this is found at the key, and the rest at all others
abbrev pub place : List ℕ → Option Val → Lookup → Lookup
place key here rest q = if is_name q key then here else rest q

abbrev pub text_there : Option (Bor (List ℕ)) → Option Val
text_there o = option_map (λ s. text s.now) o

abbrev pub document_there : Option Entries → Option Val
document_there o = option_map (λ es. object (fields_of es)) o

abbrev pub list_there : Option (List Val) → Option Val
list_there o = option_map (λ vs. list (vals_of vs)) o

-- what the places say, from the last to the first
abbrev pub found_from_params : Told → Lookup
found_from_params told = place (codes "params") (list_there told.params) (get told.others)

abbrev pub found_from_fields : Told → Lookup
found_from_fields told = place (codes "fields") (document_there told.fields) (found_from_params told)

abbrev pub found_from_method : Told → Lookup
found_from_method told = place (codes "method") (text_there told.method) (found_from_fields told)

abbrev pub found_from_collection : Told → Lookup
found_from_collection told = place (codes "collection") (text_there told.collection) (found_from_method told)

abbrev pub found_from_id : Told → Lookup
found_from_id told = place (codes "id") (text_there told.id) (found_from_collection told)

abbrev pub found : Told → Lookup
found told = place (codes "msg") (text_there told.msg) (found_from_id told)

-- they say what the object has
abbrev pub Says : Told → Entries → Type 0
Says told es = (key : List ℕ) → found told key ≡ get es key

-- the value is found at the key afterwards, and all else as before
abbrev pub Sets : List ℕ → Val → Lookup → Lookup → Type 0
Sets key v before after = (q : List ℕ) → after q ≡ (if is_name q key then Some v else before q)

-- a value was read, and is what stands in the place
abbrev pub StandsRead : List Token → List Token → Option Val → Type 0
StandsRead tokens rest there = (v : Val) × ValueRead max_levels tokens v rest × (there ≡ Some v)

-- a value was read, and is what the key has among the others
abbrev pub OtherRead : List ℕ → List Token → List Token → Entries → Entries → Type 0
OtherRead key tokens rest before after = (v : Val) × ValueRead max_levels tokens v rest × (after ≡ put before key v)

-- a value was read, and is found at the key
abbrev pub MemberRead : List ℕ → List Token → List Token → Told → Told → Type 0
MemberRead key tokens rest before after = (v : Val) × ValueRead max_levels tokens v rest × Sets key v (found before) (found after)

-- the key has no place for a text
abbrev pub IsNoTextKey : List ℕ → Type 0
IsNoTextKey key = (key ≢ codes "msg") × (key ≢ codes "id") × (key ≢ codes "collection") × (key ≢ codes "method")

-- members were read to the brace behind them, and the places say what they are
abbrev pub MembersSaid : List Token → List Token → Told → Type 0
MembersSaid tokens rest told = (es : Entries) × MembersRead max_levels tokens es rest × Says told es

-- the text is the object that the places tell
abbrev pub TextSaid : List ℕ → Told → Type 0
TextSaid input told = (es : Entries) × IsObjectText input es × Says told es
