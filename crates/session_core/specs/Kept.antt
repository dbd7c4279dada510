-- What a `Session` keeps.
use Rattle.std.specs.Prelude.{◌≡◌, ℕ, ◌+◌, ◌≤◌, List, map, length, Some, option_map, IfSome}
use Rattle.method_queue.specs.Queue.{Waiting}
use Rattle.session_core.specs.session_model.Methods.{Blocking, running, phase_at}
use Rattle.session_core.specs.session_model.State.{State}
use Rattle.session_core.specs.session_journal_laws.Stands.{armed_at}
use Rattle.std.specs.Ordering.{nat_cmp}
use Rattle.map_model.specs.Maps.{at}
use Rattle.session_state.specs.declared.journal.Line.{Line}
use Rattle.session_state.specs.Journal.{items_of}
use Rattle.session_core.specs.session_state.Own.{as_state}
use Rattle.session_core.specs.session_state.Subs.{observers_of}
use Rattle.session_core.specs.session_laws.Session.{ASession, max_items, max_waiting}
use Rattle.session_core.specs.declared.inner.Inner.{Inner}

-- as contracts see it
abbrev pub seen : Inner → ASession
seen a = record {
  carried = record {
    app = a.app;
    number = a.number;
    taken = a.taken;
    journal = items_of a.parts.journal.lines;
    counts = a.parts.journal.counts;
    outbox = a.parts.outbox.items;
    waiting = map (λ (w : Waiting). w.message) a.queue.waiting;
    own = as_state a.parts.own;
    fences = a.parts.fences;
    box = a.parts.shown.kept;
  };
  ids = map (λ (l : Line). l.id) a.parts.journal.lines;
  places = a.places.items;
  bytes = map (λ (w : Waiting). w.bytes) a.queue.waiting;
  observers = observers_of a.parts.own.subs.items;
  dropped = a.dropped;
}

-- After so many items no more subscriptions were opened and no more calls handled; the call that blocks runs; and a fence is armed for each call
-- that has finished and is to be told.
pub record IsCounted (items : ℕ) (st : State) (fences : List (ℕ × ℕ)) : Type 0 where
  pub opened : st.opened ≤ items
  pub calls : length st.methods ≤ items
  pub runs : IfSome st.blocking (λ b. phase_at b.k st.methods ≡ Some running)
  pub armed : (k : ℕ) → at nat_cmp fences k ≡ armed_at k st.methods

-- Nothing that is counted passes what there are items and texts for; each message that waits has its text's place; and the queue and the calls agree
-- on what blocks.
pub record IsKept (a : Inner) : Type 0 where
  pub limit : a.queue.limit ≡ max_waiting
  pub items : length a.parts.journal.lines ≤ max_items
  pub taken : a.taken ≤ length a.parts.journal.lines + length a.queue.waiting
  pub places : length a.places.items ≡ length a.queue.waiting
  pub blocks : a.queue.blocks ≡ option_map (λ (b : Blocking). b.k) (as_state a.parts.own).blocking
  pub counted : IsCounted (length a.parts.journal.lines) (as_state a.parts.own) a.parts.fences
