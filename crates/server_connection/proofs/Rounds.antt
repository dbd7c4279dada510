-- One round after another, how they begin, and how they end.
use Rattle.std.specs.Prelude.{◌≡◌, ◌⊎◌, ℕ, ◌+◌, ◌<◌, ◌≤◌, List, [], length, Bool, true, false, Option, None, Some, Result, Ok, Err, IfErr, OnOk, is_err, is_some, refl}
use Rattle.std.proofs.Common.{ap, sym, subst, ◌∙◌, arith, inl, inr, length-append}
use mathlib.Core.List.{IsPrefix}
use Rattle.app_model.specs.App.{App}
use Rattle.history_model.specs.declared.entry.Entry.{Entry}
use Rattle.ejson_value.specs.declared.memory.Mem.{Mem}
use Rattle.world_model.specs.Store.{moments}
use Rattle.session_state.specs.Work.{running_from}
use Rattle.world_invariant_laws.specs.Moments.{moments_in_order}
use Rattle.session_laws.specs.Session.{ASession}
use Rattle.session_laws.specs.Meaning.{Means}
use Rattle.session_laws.specs.Longer.{new_means}
use Rattle.shared_store.specs.Callers.{ACaller}
use Rattle.shared_session.specs.Held.{AHeld, StandsFor}
use Rattle.duct.specs.Told.{CountsFaults}
use Rattle.duct.specs.Calls.{Call, has_refusal}
use Rattle.server_connection.specs.declared.desk.Desk.{Desk}
use Rattle.server_connection.specs.declared.ended.Ended.{Ended}
use Rattle.server_connection.specs.declared.ended.Ended.TheVariants as ended
use Rattle.server_connection.specs.Serving.{Serving, Keeps, IsClosed, Closes}
use Rattle.server_connection.specs.AtRest.{IsAtRest}
use Rattle.server_connection.specs.Looks.{IsServed, Works, StopsEvent, StopsLook, StopsOffer, StopsPoll, StopsHear, RestsAsItStands, IsRestful, IsDue}
use Rattle.server_connection.specs.Ends.{Leaves, Serves, IsCause, AreOver, RunsAreOver, GoesOn, IsNew}
use Rattle.server_connection.proofs.Counts.{prefix_same, prefix_then, foreign_longer}

pub prefix_length : (xs ys : List Entry) → IsPrefix xs ys → length xs ≤ length ys
prefix_length xs ys p = let split : length ys ≡ length xs + length p.0 = ap length (sym p.1) ∙ length-append xs p.0 in omega (arith, split)

-- ---- it begins

pub new_stands : (app : App) (caller : ACaller) (h : AHeld) → IsNew app caller h → StandsFor [] [] h
new_stands app caller h n =
    subst (λ (s : ASession). Means [] (moments s.carried.app s.carried.number h.list) [] s) (sym n.new)
    (new_means app caller.number (moments app caller.number h.list) (moments_in_order app caller.number h.list))

pub new_served : (app : App) (caller : ACaller) (pass : List Entry) (h : AHeld) → IsNew app caller h → IsPrefix h.list pass → IsServed app caller pass h
new_served app caller pass h n p = record {
  of_app = ap (λ (s : ASession). s.carried.app) n.new;
  number = ap (λ (s : ASession). s.carried.number) n.new;
  some = n.some;
  alive = ap (λ (s : ASession). s.dropped) n.new;
  within = p;
  made = let none = n.made in omega (arith, none);
  stands = record { taken = []; sent = []; for = new_stands app caller h n };
}

-- ---- causes

pub hear_cause : (caller : ACaller) (list : List Entry) (h : AHeld) (f f' : ℕ) (end : Ended) → StopsHear f f' h.session end → IsCause caller list h end
hear_cause caller list h f f' ended.PeerClosed c = tt
hear_cause caller list h f f' ended.VersionRefused c = c
hear_cause caller list h f f' ended.LinkFault c = tt
hear_cause caller list h f f' ended.JournalFull c = c
hear_cause caller list h f f' (ended.Foreign last) c = absurd c
hear_cause caller list h f f' ended.Memory c = tt

pub look_cause : (caller : ACaller) (list : List Entry) (h : AHeld) (end : Ended) → StopsLook caller list h end → IsCause caller list h end
look_cause caller list h ended.PeerClosed c = tt
look_cause caller list h ended.VersionRefused c = absurd c
look_cause caller list h ended.LinkFault c = tt
look_cause caller list h ended.JournalFull c = c
look_cause caller list h (ended.Foreign last) c = c
look_cause caller list h ended.Memory c = tt

pub event_look : (caller : ACaller) (list : List Entry) (h : AHeld) (end : Ended) → StopsEvent h.session end → StopsLook caller list h end
event_look caller list h ended.PeerClosed c = c
event_look caller list h ended.VersionRefused c = c
event_look caller list h ended.LinkFault c = c
event_look caller list h ended.JournalFull c = c
event_look caller list h (ended.Foreign last) c = absurd c
event_look caller list h ended.Memory c = c

pub ends_look : (r : Result (Unit {0}) Ended) (caller : ACaller) (list : List Entry) (h : AHeld) → IfErr r (StopsEvent h.session) → IfErr r (StopsLook caller list h)
ends_look (Ok u) caller list h c = tt
ends_look (Err end) caller list h c = event_look caller list h end c

pub event_poll : (f f' : ℕ) (s : ASession) (end : Ended) → StopsEvent s end → StopsPoll f f' s end
event_poll f f' s ended.PeerClosed c = absurd c
event_poll f f' s ended.VersionRefused c = c
event_poll f f' s ended.LinkFault c = absurd c
event_poll f f' s ended.JournalFull c = c
event_poll f f' s (ended.Foreign last) c = c
event_poll f f' s ended.Memory c = c

pub poll_hear : (f f' : ℕ) (s : ASession) (end : Ended) → StopsPoll f f' s end → StopsHear f f' s end
poll_hear f f' s ended.PeerClosed c = c
poll_hear f f' s ended.VersionRefused c = absurd c
poll_hear f f' s ended.LinkFault c = c
poll_hear f f' s ended.JournalFull c = c
poll_hear f f' s (ended.Foreign last) c = c
poll_hear f f' s ended.Memory c = c

pub offer_hear : (f f' : ℕ) (s : ASession) (end : Ended) → StopsOffer f f' end → StopsHear f f' s end
offer_hear f f' s ended.PeerClosed c = tt
offer_hear f f' s ended.VersionRefused c = absurd c
offer_hear f f' s ended.LinkFault c = c
offer_hear f f' s ended.JournalFull c = absurd c
offer_hear f f' s (ended.Foreign last) c = absurd c
offer_hear f f' s ended.Memory c = tt

-- a cause with an earlier count is one with a count that is no greater
pub earlier_hear : (f g f' : ℕ) (s : ASession) (end : Ended) → f ≤ g → StopsHear g f' s end → StopsHear f f' s end
earlier_hear f g f' s ended.PeerClosed le c = tt
earlier_hear f g f' s ended.VersionRefused le c = c
earlier_hear f g f' s ended.LinkFault le c = omega (arith, le, c)
earlier_hear f g f' s ended.JournalFull le c = c
earlier_hear f g f' s (ended.Foreign last) le c = c
earlier_hear f g f' s ended.Memory le c = tt

pub cause_longer : (caller : ACaller) (xs ys : List Entry) (h : AHeld) (end : Ended) → IsPrefix xs ys → IsCause caller xs h end → IsCause caller ys h end
cause_longer caller xs ys h ended.PeerClosed p c = tt
cause_longer caller xs ys h ended.VersionRefused p c = c
cause_longer caller xs ys h ended.LinkFault p c = tt
cause_longer caller xs ys h ended.JournalFull p c = c
cause_longer caller xs ys h (ended.Foreign last) p c = foreign_longer last caller xs ys p c
cause_longer caller xs ys h ended.Memory p c = tt

-- an event ends nothing of itself
pub event_stays : (s : ASession) (end : Ended) → StopsEvent s end → Leaves end → ⊥
event_stays s ended.PeerClosed c l = c
event_stays s ended.VersionRefused c l = c
event_stays s ended.LinkFault c l = l
event_stays s ended.JournalFull c l = l
event_stays s (ended.Foreign last) c l = l
event_stays s ended.Memory c l = l

pub look_stays : (caller : ACaller) (list : List Entry) (h : AHeld) (end : Ended) → StopsLook caller list h end → Leaves end → ⊥
look_stays caller list h ended.PeerClosed c l = c
look_stays caller list h ended.VersionRefused c l = c
look_stays caller list h ended.LinkFault c l = l
look_stays caller list h ended.JournalFull c l = l
look_stays caller list h (ended.Foreign last) c l = l
look_stays caller list h ended.Memory c l = l

-- ---- pass and caller

pub goes_same : (caller : ACaller) (pass : List Entry) → GoesOn caller caller pass pass
goes_same caller pass = record { grows = prefix_same pass; number = refl; list = prefix_same caller.list }

pub goes_grows : (caller : ACaller) (pass pass' : List Entry) → IsPrefix pass pass' → GoesOn caller caller pass pass'
goes_grows caller pass pass' p = record { grows = p; number = refl; list = prefix_same caller.list }

pub goes_then : (a b c : ACaller) (p q r : List Entry) → GoesOn a b p q → GoesOn b c q r → GoesOn a c p r
goes_then a b c p q r v w = record { grows = prefix_then p q r v.grows w.grows; number = w.number ∙ v.number; list = prefix_then a.list b.list c.list v.list w.list }

pub goes_works : (app : App) (a b : ACaller) (p q : List Entry) (x y : AHeld) → Works app a b p q x y → GoesOn a b p q
goes_works app a b p q x y w = record { grows = w.grows; number = w.number; list = w.list }

-- ---- the calls of the link

module _ {L : Type 0} (steps : L → Call → L → Type 0) (faults : L → ℕ) where
  abbrev pub ServesDesk : L → L → AHeld → Desk → Type 0
  ServesDesk = Serving StandsFor IsAtRest steps faults

  pub keeps_then : (a b c : L) (x y z : AHeld) (d e f : Desk) → Keeps StandsFor IsAtRest steps faults a x d b y e → Keeps StandsFor IsAtRest steps faults b y e c z f → Keeps StandsFor IsAtRest steps faults a x d c z f
  keeps_then a b c x y z d e f p q first m = q first (p first m)

  pub closes_then : (a b c : L) (x y z : AHeld) (d e f : Desk) → Keeps StandsFor IsAtRest steps faults a x d b y e → Closes StandsFor IsAtRest steps faults b y e c z f → Closes StandsFor IsAtRest steps faults a x d c z f
  closes_then a b c x y z d e f p q first m = q first (p first m)

  pub new_serving : (first : L) (h : AHeld) → StandsFor [] [] h → ServesDesk first first h (record { back = None; held = None; refused = false })
  new_serving first h m = record { calls = []; leads = refl; counts = omega arith; taken = []; sent = []; means = m; heard_all = refl; said_all = refl; turns = refl; polls = tt; refusal = refl }

  rest_of : (first link : L) (h : AHeld) (d : Desk) (m : ServesDesk first link h d) → IsRestful h d → has_refusal m.calls ≡ false → (d.held ≡ None) × (d.back ≡ None) × IsAtRest h
  rest_of first link h d m (inl refused) none = let differ : true ≡ false = sym refused ∙ (sym m.refusal ∙ none) in absurd (cc differ)
  rest_of first link h d m (inr all) none = (all.0, all.1, all.2 m.taken m.sent m.means)

  pub ends : (first link : L) (h : AHeld) (d : Desk) (end : Ended) → ServesDesk first link h d → (Leaves end → IsRestful h d) → (end ≡ ended.PeerClosed → IsClosed StandsFor IsAtRest steps faults first link h d)
      → (end ≡ ended.LinkFault → faults first < faults link) → Serves steps faults first link h end
  ends first link h d ended.PeerClosed m rest closed fault =
      let c = closed refl in
      record { desk = d; serving = c.serving; rest = λ l none. rest_of first link h d c.serving (rest tt) none; closed = λ e. c.closed; fault = λ e. cc e }
  ends first link h d ended.VersionRefused m rest closed fault = record { desk = d; serving = m; rest = λ l none. rest_of first link h d m (rest tt) none; closed = λ e. cc e; fault = λ e. cc e }
  ends first link h d ended.LinkFault m rest closed fault = record { desk = d; serving = m; rest = λ l. absurd l; closed = λ e. cc e; fault = fault }
  ends first link h d ended.JournalFull m rest closed fault = record { desk = d; serving = m; rest = λ l. absurd l; closed = λ e. cc e; fault = λ e. cc e }
  ends first link h d (ended.Foreign last) m rest closed fault = record { desk = d; serving = m; rest = λ l. absurd l; closed = λ e. cc e; fault = λ e. cc e }
  ends first link h d ended.Memory m rest closed fault = record { desk = d; serving = m; rest = λ l. absurd l; closed = λ e. cc e; fault = λ e. cc e }

  -- where memory is refused in the end
  pub ends_without : (first link : L) (h : AHeld) (end : Ended) → Serves steps faults first link h end → Serves steps faults first link h ended.Memory
  ends_without first link h end s = record { desk = s.desk; serving = s.serving; rest = λ l. absurd l; closed = λ e. cc e; fault = λ e. cc e }

  pub no_calls : (first : L) (h : AHeld) → StandsFor [] [] h → Serves steps faults first first h ended.Memory
  no_calls first h m = record { desk = record { back = None; held = None; refused = false }; serving = new_serving first h m; rest = λ l. absurd l; closed = λ e. cc e; fault = λ e. cc e }

-- ---- a poll

-- the session rests, since it stands for these texts
pub due_now : (h : AHeld) (d : Desk) → IsDue h d → (taken sent : List (List ℕ)) → StandsFor taken sent h → (d.held ≡ None) × ((d.refused ≡ true) ⊎ ((d.back ≡ None) × IsAtRest h))
due_now h d due taken sent m = (due.0, by due.1)
  where
    by : (d.refused ≡ true) ⊎ ((d.back ≡ None) × RestsAsItStands h) → (d.refused ≡ true) ⊎ ((d.back ≡ None) × IsAtRest h)
    by (inl refused) = inl refused
    by (inr all) = inr (all.0, all.1 taken sent m)

pub due_restful : (h : AHeld) (d : Desk) → IsDue h d → IsRestful h d
due_restful h d due = by due.1
  where
    by : (d.refused ≡ true) ⊎ ((d.back ≡ None) × RestsAsItStands h) → IsRestful h d
    by (inl refused) = inl refused
    by (inr all) = inr (due.0, all.0, all.1)

pub counts_least : (failed : Bool) (f f' : ℕ) → CountsFaults failed f f' → f ≤ f'
counts_least true f f' c = omega (arith, c)
counts_least false f f' c = omega (arith, c)

-- ---- the same of a call's answer

abbrev pub Answer : Type 0
Answer = Result (Unit {0}) Ended

pub hear_causes : (r : Answer) (caller : ACaller) (list : List Entry) (h : AHeld) (f f' : ℕ) → IfErr r (StopsHear f f' h.session) → IfErr r (IsCause caller list h)
hear_causes (Ok u) caller list h f f' c = tt
hear_causes (Err end) caller list h f f' c = hear_cause caller list h f f' end c

pub hear_faults : (r : Answer) (f f' : ℕ) (s : ASession) → IfErr r (StopsHear f f' s) → r ≡ Err ended.LinkFault → f < f'
hear_faults r f f' s c is = subst (λ (x : Answer). IfErr x (StopsHear f f' s)) is c

pub earlier_hears : (r : Answer) (f g f' : ℕ) (s : ASession) → f ≤ g → IfErr r (StopsHear g f' s) → IfErr r (StopsHear f f' s)
earlier_hears (Ok u) f g f' s le c = tt
earlier_hears (Err end) f g f' s le c = earlier_hear f g f' s end le c

pub events_hear : (r : Answer) (f f' : ℕ) (s : ASession) → IfErr r (StopsEvent s) → IfErr r (StopsHear f f' s)
events_hear (Ok u) f f' s c = tt
events_hear (Err end) f f' s c = poll_hear f f' s end (event_poll f f' s end c)

pub events_poll : (r : Answer) (f f' : ℕ) (s : ASession) → IfErr r (StopsEvent s) → IfErr r (StopsPoll f f' s)
events_poll (Ok u) f f' s c = tt
events_poll (Err end) f f' s c = event_poll f f' s end c

pub polls_hear : (r : Answer) (f f' : ℕ) (s : ASession) → IfErr r (StopsPoll f f' s) → IfErr r (StopsHear f f' s)
polls_hear (Ok u) f f' s c = tt
polls_hear (Err end) f f' s c = poll_hear f f' s end c

pub events_open : (r : Answer) (s : ASession) → IfErr r (StopsEvent s) → r ≡ Err ended.PeerClosed → ⊥
events_open r s c is = subst (λ (x : Answer). IfErr x (StopsEvent s)) is c

pub events_never : (X : Type 0) (r : Answer) (s : ASession) → IfErr r (StopsEvent s) → IfErr r (λ (end : Ended). Leaves end → X)
events_never X (Ok u) s c = tt
events_never X (Err end) s c = λ l. absurd (event_stays s end c l)

-- where a poll ends it of itself, it is as restful as before
pub polls_restful : (r : Answer) (f f' : ℕ) (s : ASession) (X : Type 0) → (r ≡ Err ended.PeerClosed → X) → IfErr r (StopsPoll f f' s) → IfErr r (λ (end : Ended). Leaves end → X)
polls_restful (Ok u) f f' s X x c = tt
polls_restful (Err ended.PeerClosed) f f' s X x c = λ l. x refl
polls_restful (Err ended.VersionRefused) f f' s X x c = absurd c
polls_restful (Err ended.LinkFault) f f' s X x c = λ l. absurd l
polls_restful (Err ended.JournalFull) f f' s X x c = λ l. absurd l
polls_restful (Err (ended.Foreign last)) f f' s X x c = λ l. absurd l
polls_restful (Err ended.Memory) f f' s X x c = λ l. absurd l

-- ---- the end

pub runs_over : (app : App) (list : List Entry) (h : AHeld) (end : Ended) → AreOver app list h.session.carried.number (running_from 0 h.session.carried.own.methods) → RunsAreOver app list h end
runs_over app list h ended.PeerClosed over = over
runs_over app list h ended.VersionRefused over = over
runs_over app list h ended.LinkFault over = over
runs_over app list h ended.JournalFull over = over
runs_over app list h (ended.Foreign last) over = over
runs_over app list h ended.Memory over = tt

pub not_err : (X : Type 0) (r : Result (Unit {0}) Mem) → is_err r ≡ false → OnOk r X → X
not_err X (Ok u) is x = x
not_err X (Err e) is x = cc is

pub no_text : (o : Option (List ℕ)) → is_some o ≡ false → o ≡ None
no_text None is = refl
no_text (Some text) is = cc is
