-- The batch that is kept.
use Rattle.std.specs.Prelude.{◌≡◌, ℕ, ◌+◌, ◌≤◌, OnErr, length, Option, Some, IfSome, Result, Ok, Err, IfOk, refl}
use Rattle.std.proofs.Common.{ap₂, sym, subst, ◌∙◌}
use Rattle.history_log.specs.declared.batch.Batch.{Batch}
use Rattle.store_machine.specs.State.{MachineState}
use Rattle.multiplexer.specs.Telling.{CursorsAt, ANews, batch_of, IsKept, AreTold}

-- the batch of a span is kept
pub told_by : {X E : Type 0} (value : X → Batch) (cursors_at : CursorsAt) (m : MachineState) (old new : ANews) (from count : ℕ) (result : Result X E) → from + count ≤ length m.history →
    IfOk result (λ b. value b ≡ batch_of m from count) → IfOk result (λ b. new ≡ record old { batch = Some (value b) }) → OnErr result (new ≡ old) → AreTold cursors_at m old → AreTold cursors_at m new
told_by value cursors_at m old new from count (Ok x) fits is to same told =
    subst (AreTold cursors_at m) (sym to) (record { sources = told.sources; batch = subst (IsKept m) (sym is) (fits, refl) })
told_by value cursors_at m old new from count (Err e) fits is to same told = subst (AreTold cursors_at m) (sym same) told

-- the batch that is kept is the one of its span
pub kept_is : (cursors_at : CursorsAt) (m : MachineState) (news : ANews) (b : Batch) (from count : ℕ) → AreTold cursors_at m news → news.batch ≡ Some b → b.from ≡ from → b.count ≡ count → b ≡ batch_of m from count
kept_is cursors_at m news b from count told is at many =
    let both = subst (λ (o : Option Batch). IfSome o (IsKept m)) is told.batch in
    both.1 ∙ ap₂ (batch_of m) at many
