-- No place that a subscription may not show less than is behind the pass's list.
use Rattle.std.specs.Prelude.{ℕ, List, length}
use Rattle.std.proofs.Common.{sym, subst, arith}
use Rattle.session_model.specs.State.{State, started}
use Rattle.shared_session.specs.Reached.{AreReached}
use Rattle.shared_session.specs.ReachedLaws.{reached_from}
use Rattle.world_model.specs.Store.{moments}
use Rattle.world_invariant_laws.specs.Moments.{moments_length}
use Rattle.session_journal_laws.specs.Stands.{items_of}
use Rattle.shared_session.specs.Held.{AHeld, StandsFor}

pub reached : (h : AHeld) (taken sent : List (List ℕ)) → StandsFor taken sent h → AreReached (length h.list) h.session.carried.own.subs
reached h taken sent m =
    let app = h.session.carried.app in
    let number = h.session.carried.number in
    let w = reached_from app number (moments app number h.list) (length h.list) (moments_length app number h.list) started (items_of taken h.session.carried) m.stands.fits (omega arith, tt) in
    subst (λ (st : State). AreReached (length h.list) st.subs) (sym m.stands.own) w.1
