-- How often documents are looked at, and what need not be looked at any more.
use Rattle.std.specs.Prelude.{◌≡◌, ℕ, ◌-◌, ◌*◌, List, [], ◌∷◌, length, Bool, true, false, cond, nat_le, nat_lt, ◌==◌, ◌&&◌, ◌||◌, Option, None, Some, is_some}
use Rattle.std.specs.List.{list_any}
use Rattle.std.specs.Ordering.{is_eq}
use Rattle.value_model.specs.Val.{Val}
use Rattle.value_model.specs.Size.{is_name}
use Rattle.history_model.specs.History.{changes_between}
use Rattle.store_machine.specs.State.{MachineState, programs}
use Rattle.multiplexer.specs.Bounds.{max_sources, max_entries}
use Rattle.multiplexer.specs.Params.{params_cmp}
use Rattle.multiplexer.specs.Telling.{ASpan, ASource}
use Rattle.multiplexer.specs.Sources.{max_span, next_of}

-- two looks for each of so many cursors at each change of the entries between the places
abbrev pub looks : ℕ → MachineState → ℕ → ℕ → ℕ
looks cursors m from until = cursors * (2 * length (changes_between (programs m.app) m.history from (until - from)))

-- the span that is kept is the one between the places
abbrev pub is_last : Option ASpan → ℕ → ℕ → Bool
is_last None from until = false
is_last (Some span) from until = span.from == from && span.until == until

-- a short span that begins among the entries that are kept, or right behind them
abbrev pub is_near : ASource → ℕ → ℕ → Bool
is_near s from until = nat_le s.first from && nat_le (until - from) max_span

-- the place up to which the entries of a span are known, put together of those that are kept
abbrev pub told_until : ASource → ℕ → ℕ → ℕ
told_until s from until = cond (is_near s from until) (next_of s) from

-- or all of it, where the span is kept
abbrev pub known_until : ASource → ℕ → ℕ → ℕ
known_until s from until = cond (is_last s.last from until) until (told_until s from until)

-- it is of the publication of this name with these parameters
abbrev pub is_for : List ℕ → List Val → ASource → Bool
is_for name params s = is_name s.name name && is_eq (params_cmp s.params params)

-- the first that is
abbrev pub source_for : List ℕ → List Val → List ASource → Option ASource
source_for name params [] = None
source_for name params (s ∷ sources) = cond (is_for name params s) (Some s) (source_for name params sources)

abbrev pub known_by : Option ASource → ℕ → ℕ → ℕ
known_by None from until = from
known_by (Some s) from until = known_until s from until

-- there is a source of the publication of this name with these parameters
abbrev pub HasSource : List ASource → List ℕ → List Val → Type 0
HasSource sources name params = is_some (source_for name params sources) ≡ true

-- the place up to which the entries between the places need not be looked at
abbrev pub known_in : List ASource → List ℕ → List Val → ℕ → ℕ → ℕ
known_in sources name params from until = known_by (source_for name params sources) from until

-- ---- room for one more source

-- it is so far behind that nothing that it was told would be kept for an entry at this place
abbrev pub is_behind : ℕ → ASource → Bool
is_behind from s = nat_le max_entries (from - next_of s)

-- the publication has a source, or one may begin at this place while no other goes but one that is far behind
abbrev pub has_room : List ASource → List ℕ → List Val → ℕ → Bool
has_room sources name params from = is_some (source_for name params sources) || (nat_lt (length sources) max_sources || list_any (is_behind from) sources)
