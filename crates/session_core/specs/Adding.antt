-- What one more item makes of what a session keeps.
use Rattle.std.specs.Prelude.{◌≡◌, ℕ, length, Some}
use Rattle.merge_model.specs.Publishing.{Call}
use Rattle.value_model.specs.Val.{Entries}
use Rattle.ejson_value.specs.declared.key.Key.{Key}
use Rattle.session_core.specs.session_model.Methods.{running, phase_at}
use Rattle.session_core.specs.session_model.State.{State}
use Rattle.session_core.specs.session_texts.declared.taking.Answer.{Answer}
use Rattle.session_core.specs.session_texts.declared.taking.Answer.TheVariants as answer
use Rattle.session_core.specs.session_state.declared.own.Step.{Step}
use Rattle.session_core.specs.session_state.declared.own.Step.TheVariants as step
use Rattle.session_core.specs.session_state.Own.{as_state, stepped}
use Rattle.method_queue.specs.Queue.{Queue, IsFull}
use Rattle.method_queue.specs.declared.fault.PushFault.{PushFault}
use Rattle.method_queue.specs.declared.fault.PushFault.TheVariants.{Full, Memory}
use Rattle.session_core.specs.session_laws.declared.fault.EventFault.{EventFault}
use Rattle.session_core.specs.session_laws.declared.fault.EventFault.TheVariants as fault
use Rattle.session_core.specs.declared.adding.Addition.{Addition}
use Rattle.session_core.specs.Parts.{HasGained}
use Rattle.session_core.specs.session_laws.Adding.{HasAddedTexts}
use Rattle.session_core.specs.declared.inner.Inner.{Inner}
use Rattle.session_core.specs.Kept.{seen, IsCounted, IsKept}

-- What isn't of the journal, what is shown, and subscriptions and calls stays
pub record StaysElse (old new : Inner) : Type 0 where
  pub app : new.app ≡ old.app
  pub number : new.number ≡ old.number
  pub taken : new.taken ≡ old.taken
  pub queue : new.queue ≡ old.queue
  pub places : new.places.items ≡ old.places.items
  pub dropped : new.dropped ≡ old.dropped

-- a call that is handled has the next number; one that has finished or is refused runs
abbrev pub Follows : Step → State → Type 0
Follows (step.Handle id call) st = call.k ≡ length st.methods
Follows (step.Finish k place) st = phase_at k st.methods ≡ Some running
Follows (step.Refuse k) st = phase_at k st.methods ≡ Some running
Follows s st = Unit {0}

-- what an answer does to subscriptions and calls
abbrev pub step_by : Answer → Step
step_by answer.Connect = step.Connect
step_by answer.Fail = step.Fail
step_by a = step.Stay

-- why a message can't wait
abbrev pub fault_of : PushFault → EventFault
fault_of (Full limit) = fault.QueueFull
fault_of Memory = fault.Memory

-- the queue is full, or memory was wanting
abbrev pub IsPushCause : Queue → ℕ → EventFault → Type 0
IsPushCause q bytes fault.Idle = ⊥
IsPushCause q bytes fault.JournalFull = ⊥
IsPushCause q bytes fault.QueueFull = IsFull q bytes
IsPushCause q bytes fault.Memory = Unit {0}

-- ---- one item more

pub record IsAddedTo (a : Addition) (call : Call Key Entries) (old new : Inner) : Type 0 where
  pub gained : HasGained a call (stepped a.step (as_state old.parts.own)) old.parts new.parts
  pub stays : StaysElse old new
  pub added : HasAddedTexts a.item a.id call (stepped a.step (as_state old.parts.own)) a.words.items (seen old) (seen new)
  pub counted : IsCounted (length new.parts.journal.lines) (as_state new.parts.own) new.parts.fences

-- the same, in other memory perhaps
pub record AreAlike (old new : Inner) : Type 0 where
  pub same : seen new ≡ seen old
  pub kept : IsKept old → IsKept new
