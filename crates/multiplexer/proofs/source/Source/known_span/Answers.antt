use Rattle.std.specs.Prelude.{◌≡◌, ℕ, Option, None, Some, IfSome}
use Rattle.std.proofs.Common.{subst}
use Rattle.publication.specs.Cursors.{ACursors}
use Rattle.store_machine.specs.State.{MachineState, programs}
use Rattle.multiplexer.specs.declared.source.Span.{Span}
use Rattle.multiplexer.specs.Inside.{seen_span}
use Rattle.multiplexer.specs.Sources.{IsToldBy}
use Rattle.multiplexer.specs.Spans.{IsAsked}
use Rattle.multiplexer.specs.Telling.{ASpan, ASource, IsSpan}
use Rattle.multiplexer.proofs.source.Source.known_span.Goals as goal

-- the span that is kept is of these places, and of the history
last_asked : (cursors : ACursors) (m : MachineState) (s : ASource) (from until : ℕ) (o : Option Span) → IsToldBy cursors m s →
    IfSome o (λ (span : Span). (s.last ≡ Some (seen_span span)) × (span.from ≡ from) × (span.until ≡ until)) → IfSome o (IsAsked cursors m from until)
last_asked cursors m s from until None told known = tt
last_asked cursors m s from until (Some span) told known = record {
  begins = known.1;
  ends = known.2;
  is = subst (λ (last : Option ASpan). IfSome last (IsSpan cursors (programs m.app) m.history)) known.0 told.last;
}

pub returns-then-has_last-clause-told : goal.returns-then-has_last-clause-told
returns-then-has_last-clause-told c = λ cursors m told. last_asked cursors m c.args.self.now c.args.from c.args.until c.known.result told c.known.ensures.known
