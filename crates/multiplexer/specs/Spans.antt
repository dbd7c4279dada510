-- Spans that are asked for, and put back with the texts that are known then.
use Rattle.std.specs.Prelude.{◌≡◌, ℕ, List}
use Rattle.std.specs.Arc.{arc_value}
use Rattle.publication.specs.Cursors.{ACursors}
use Rattle.session_state.specs.declared.subs.Sub.{Sub}
use Rattle.store_machine.specs.State.{MachineState, programs}
use Rattle.multiplexer.specs.declared.source.Span.{Span}
use Rattle.multiplexer.specs.declared.news.Lent.{Lent}
use Rattle.multiplexer.specs.Telling.{ASource, IsSpan}
use Rattle.multiplexer.specs.Inside.{seen_span}
use Rattle.multiplexer.specs.Looks.{HasSource, known_in}

-- the span is of the entries between these places
pub record IsAsked (cursors : ACursors) (m : MachineState) (from until : ℕ) (span : Span) : Type 0 where
  pub begins : span.from ≡ from
  pub ends : span.until ≡ until
  pub is : IsSpan cursors (programs m.app) m.history (seen_span span)

-- and it is of the subscription's publication, called with its parameters
pub record IsLent (m : MachineState) (sub : Sub) (from until : ℕ) (lent : Lent) : Type 0 where
  pub name : lent.name ≡ sub.name
  pub params : arc_value lent.params ≡ sub.params
  pub asked : IsAsked sub.cursors m from until lent.span

-- its publication has a source
abbrev pub HasItsSource : List ASource → Lent → Type 0
HasItsSource sources lent = HasSource sources lent.name (arc_value lent.params)

-- no entry of it need be looked at
abbrev pub IsKnownWhole : List ASource → Lent → Type 0
IsKnownWhole sources lent = known_in sources lent.name (arc_value lent.params) lent.span.from lent.span.until ≡ lent.span.until
