-- Sources: the entries that are told, and those that are kept.
use Rattle.std.specs.Prelude.{◌≡◌, ℕ, ◌+◌, ◌-◌, ◌≤◌, List, [], ◌∷◌, ◌++◌, length, drop, nat_le, nat_lt, ◌||◌, if◌then◌else◌, slice_get, replicate}
use Rattle.std.specs.Prelude.{None, Some, IfSome}
use Rattle.ejson_value.specs.declared.change.Publish.{Publish}
use Rattle.ejson_value.specs.Changes.{news_of}
use Rattle.publication.specs.Cursors.{ACursors}
use Rattle.publication.specs.Published.{published}
use Rattle.value_model.specs.Val.{Val}
use Rattle.store_machine.specs.State.{MachineState, programs, held_after}
use Rattle.multiplexer.specs.Telling.{AnEntry, ASpan, ASource, news_in, IsTold}
use Rattle.multiplexer.specs.Bounds.{max_entries}
use Rattle.multiplexer.specs.Known.{AreKnown}
use Rattle.multiplexer.specs.Leading.{IsLead}

-- how many entries a span has at most that is put together of them
abbrev pub max_span : ℕ
max_span = 64

-- nothing is told yet
abbrev pub source_of : List ℕ → List Val → ℕ → ASource
source_of name params first = record { name = name; params = params; first = first; ones = []; last = None }

-- how many entries stand before the next one
abbrev pub next_of : ASource → ℕ
next_of s = s.first + length s.ones

-- begun anew so far on that nothing told before would be kept, or that an entry between can't be asked for, since there are none before the place `begins`
abbrev pub reached : ASource → ℕ → ℕ → ASource
reached s begins from = if nat_lt (next_of s) begins || nat_le max_entries (from - next_of s) then record s { first = from; ones = [] } else s

-- the first entry goes
abbrev pub without_first : ASource → ASource
without_first s = record s { first = s.first + 1; ones = drop 1 s.ones }

-- with room for one entry more
abbrev pub trimmed : ASource → ASource
trimmed s = if nat_le max_entries (length s.ones) then without_first s else s

-- no text of it is known
abbrev pub entry_of : List Publish → AnEntry
entry_of told = record { told = told; texts = replicate (length told) None }

abbrev pub with_one : ASource → AnEntry → ASource
with_one s one = record s { ones = s.ones ++ one ∷ [] }

-- the span is kept
abbrev pub with_last : ASource → ASpan → ASource
with_last s span = record s { last = Some span }

-- no span is kept
abbrev pub without_last : ASource → ASource
without_last s = record s { last = None }

-- it is of the same publication with the same parameters
pub record IsAlike (old new : ASource) : Type 0 where
  pub name : new.name ≡ old.name
  pub params : new.params ≡ old.params

-- it is of the publication of this name with these parameters
pub record IsOf (name : List ℕ) (params : List Val) (s : ASource) : Type 0 where
  pub name_is : s.name ≡ name
  pub params_are : s.params ≡ params

-- the one at this place is, if there is one
abbrev pub IsPlaceOf : List ASource → List ℕ → List Val → ℕ → Type 0
IsPlaceOf sources name params place = IfSome (slice_get sources place) (IsOf name params)

-- what is told of each entry is the difference that it makes in what these cursors publish
abbrev pub IsToldBy : ACursors → MachineState → ASource → Type 0
IsToldBy cursors m s = IsTold (λ name params. cursors) (programs m.app) m.history s

-- what is told leads from what they publish at the one place to what they publish at the other
abbrev pub LeadsBy : ACursors → MachineState → ℕ → ℕ → List Publish → Type 0
LeadsBy cursors m from until told = IsLead (published cursors (held_after m from).rows) (published cursors (held_after m until).rows) (news_of told)

-- and a text that is known is what each client is told that sees what they publish at the first place
pub record TellsBy (cursors : ACursors) (m : MachineState) (from until : ℕ) (one : AnEntry) : Type 0 where
  pub leads : LeadsBy cursors m from until one.told
  pub known : AreKnown (published cursors (held_after m from).rows) (news_in one) one.texts

-- the entries between the places are kept
pub record HasAll (s : ASource) (from until : ℕ) : Type 0 where
  pub begins : s.first ≤ from
  pub order : from ≤ until
  pub ends : until ≤ next_of s
