use Rattle.std.proofs.Common.{◌≡◌, List, [], ◌∷◌, map, false, ap, refl}
use Rattle.method_queue.specs.Queue.{Waiting}
use Rattle.session_state.specs.declared.journal.Line.{Line}
use Rattle.session_state.specs.Journal.{items_of}
use Rattle.session_core.specs.session_state.declared.subs.Sub.{Sub}
use Rattle.session_core.specs.session_state.Subs.{as_live, observers_of}
use Rattle.session_core.proofs.inner.new_inner.Goals as goal

no_observers : (subs : List Sub) → map as_live subs ≡ [] → observers_of subs ≡ []
no_observers [] none = refl
no_observers (s ∷ subs) none = cc none

pub returns-clause-seen : goal.returns-clause-seen
returns-clause-seen c =
    let parts = c.new.ensures in
    let queue = c.new-2.ensures in
    λ i. record {
      carried = record {
        app = c.args.app;
        number = c.args.number;
        taken = 0;
        journal = items_of (parts.journal i).lines;
        counts = (parts.journal i).counts;
        outbox = parts.outbox i;
        waiting = map (λ (w : Waiting). w.message) (queue i).waiting;
        own = parts.own i;
        fences = parts.fences i;
        box = parts.shown i;
      };
      ids = map (λ (l : Line). l.id) (parts.journal i).lines;
      places = c.new-3.ensures.items i;
      bytes = map (λ (w : Waiting). w.bytes) (queue i).waiting;
      observers = no_observers c.new.result.own.subs.items (ap (λ st. st.subs) parts.own) i;
      dropped = false;
    }
