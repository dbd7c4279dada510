-- Each act keeps what is so of a session.
use Rattle.std.specs.Prelude.{◌≡◌, ℕ, suc, ◌+◌, ◌≤◌, nat_lt, nat_le, List, [], ◌∷◌, ◌++◌, length, map, take, drop, Bool, true, false, cond, not, ◌&&◌}
use Rattle.std.specs.Prelude.{◌||◌, Option, Some, None, is_some, is_none, option_map, if◌then◌else◌, refl}
use Rattle.std.specs.List.{list_any}
use Rattle.std.proofs.Common.{ap, sym, subst, ◌∙◌, arith, append-nil}
use Rattle.std.proofs.lemmas.List.{map-append, take-append-drop}
use Rattle.std.proofs.lemmas.List.Folds.{list_any-append}
use Rattle.std.proofs.lemmas.Bool.{and_parts, leb-true, ltb-true, eqb-true, eq-eqb}
use Rattle.ddp_messages.specs.ClientMessage.{ClientMessage}
use Rattle.program_steps.specs.declared.outcome.Status.{Status}
use Rattle.program_steps.specs.Runs.{End}
use Rattle.app_model.specs.App.{App}
use Rattle.world_model.specs.history_model.declared.entry.Entry.{Entry}
use Rattle.world_model.specs.history_model.History.{held, status_in, status_at, begins}
use Rattle.world_model.specs.history_model.BegunLaws.{run_where_begun}
use Rattle.world_model.specs.session_model.Items.{Item, handled_by}
use Rattle.world_model.specs.session_model.Items as item
use Rattle.world_model.specs.session_model.Subscriptions.{may_load, cursor_of}
use Rattle.world_model.specs.session_model.Methods.{Phase, running, Blocking, is_blocked_by, freed, phase_at}
use Rattle.world_model.specs.session_model.State.{State, started, after}
use Rattle.world_model.specs.session_model.Moments.{Moment, moment_at}
use Rattle.world_model.specs.session_model.Fits.{item_for, IsRefusedAt, MayAdvance, CanFollow}
use Rattle.world_model.specs.session_model.Taking.{Taken, at_once, to_queue, taken_text}
use Rattle.world_model.specs.session_model.Answering.{is_at_once, Answers}
use Rattle.session_journal_laws.specs.Appending.{state-append}
use Rattle.session_journal_laws.specs.Takes.{IsRight, taken_right, answers_at_once, answers_later, answers_in_turn}
use Rattle.world_model.specs.Store.{programs, held_in, moment_of, moments}
use Rattle.world_model.specs.Conn.{Waiting, Refusal, Conn, state_in, is_at_work, outbox_limit}
use Rattle.world_model.specs.Acts.{goes_up, received_as, receives, handles, with_item, is_kept, without_run, unbegun, is_refused, begin_entry, begun}
use Rattle.world_model.specs.Acts.{refusal_kept, is_running, news_of, news_by, learns_item, learns, may_advance, sends, takes}
use Rattle.world_invariant_laws.specs.PlacesLaws.{ended_there}
use Rattle.world_invariant_laws.specs.Moments.{moments_length, moment_now, run_there, end_there}
use Rattle.world_invariant_laws.specs.Begun.{Runs, runs_of, IsOfRuns, begin_kept, item_kept}
use Rattle.world_invariant_laws.specs.Requests.{IsSorted}
use Rattle.world_invariant_laws.specs.RequestsLaws.{taken_sorted, next_request, request_turn}
use Rattle.world_invariant_laws.specs.Session.{IsSession, IsRefusal, IsServed}
use Rattle.world_invariant_laws.specs.SessionLaws.{item_session, sent_session, entry_session}

abbrev messages : List Waiting → List ClientMessage
messages ws = map (λ (w : Waiting). w.message) ws

-- ---- one item more

-- an item that may follow, with the texts that are taken then, the messages that wait and the refusal that is kept
item_served : (app : App) (h : List Entry) (c : Conn) (upward received : List (List ℕ)) (queue : List Waiting) (kept : Option Refusal) (i : Item) →
    IsServed app h c →
    CanFollow app c.number (moments app c.number h) (state_in c) i → IsOfRuns app c.number (runs_of app c.number h) i →
    Answers received (c.items ++ i ∷ []) (messages queue) →
    IsRefusal (moments app c.number h) (runs_of app c.number h) kept (after (state_in c) i).blocking →
    IsServed app h (with_item app h (record c { upward = upward; received = received; queue = queue; kept = kept }) i)
item_served app h c upward received queue kept i p f r a k =
    let C = moments app c.number h in
    let more = item_session app c.number C c.received received (messages c.queue) (messages queue) c.items i c.sent c.outbox p.session f a in
    record {
      session = more;
      begun = item_kept app c.number C h c.items i more.fits f r p.begun;
      refusal = subst (λ (st : State). IsRefusal C (runs_of app c.number h) kept st.blocking) (sym (state-append started c.items i)) k;
    }

-- ---- recv

once_runs : (app : App) (number : ℕ) (run : Runs) (i : Item) → is_at_once i ≡ true → IsOfRuns app number run i
once_runs app number run item.connect e = tt
once_runs app number run item.fail e = tt
once_runs app number run (item.ping id) e = tt
once_runs app number run item.pong e = tt
once_runs app number run (item.bad reason offending) e = tt
once_runs app number run i e = cc e

once_blocking : (st : State) (i : Item) → is_at_once i ≡ true → (after st i).blocking ≡ st.blocking
once_blocking st item.connect e = refl
once_blocking st item.fail e = refl
once_blocking st (item.ping id) e = refl
once_blocking st item.pong e = refl
once_blocking st (item.bad reason offending) e = refl
once_blocking st i e = cc e

not_true : (b : Bool) → not b ≡ true → b ≡ false
not_true true e = cc e
not_true false e = refl

works : (c : Conn) → is_at_work c ≡ true → (state_in c).failed ≡ false
works c e = not_true (state_in c).failed
    (and_parts (not c.is_dropped) (not (state_in c).failed)
    (and_parts (not c.is_dropped && not (state_in c).failed) (nat_lt (length c.outbox) outbox_limit) e).0).1

received_served : (app : App) (h : List Entry) (c : Conn) (t : List ℕ) (ts : List (List ℕ)) (x : Taken) → taken_text (state_in c).connected t ≡ x →
    (state_in c).failed ≡ false →
    IsRight app c.number (moments app c.number h) (state_in c).connected x → IsSorted x → IsServed app h c →
    IsServed app h (received_as app h (record c { upward = ts; received = c.received ++ t ∷ [] }) (length t) x)
received_served app h c t ts (at_once i) e unfailed right once p =
    item_served app h c ts (c.received ++ t ∷ []) c.queue c.kept i p (right (state_in c) refl unfailed) (once_runs app c.number (runs_of app c.number h) i once)
    (answers_at_once c.received c.items (messages c.queue) t i p.session.answers e once)
    (subst (λ o. IsRefusal (moments app c.number h) (runs_of app c.number h) c.kept o) (sym (once_blocking (state_in c) i once)) p.refusal)
received_served app h c t ts (to_queue m) e unfailed right asked p = record {
  session = record {
    fits = p.session.fits;
    answers = subst (λ ms. Answers (c.received ++ t ∷ []) c.items ms)
        (sym (map-append (λ (w : Waiting). w.message) c.queue (record { message = m; bytes = length t } ∷ [])))
        (answers_later c.received c.items (messages c.queue) t m p.session.answers e);
    texts = p.session.texts;
  };
  begun = p.begun;
  refusal = p.refusal;
}

pub recv_served : (app : App) (h : List Entry) (c : Conn) (ts : List (List ℕ)) → c.upward ≡ ts → is_at_work c ≡ true → IsServed app h c →
    IsServed app h (receives app h c ts)
recv_served app h c [] e work p = p
recv_served app h c (t ∷ ts) e work p =
    received_served app h c t ts (taken_text (state_in c).connected t) refl (works c work)
    (taken_right app c.number (moments app c.number h) (state_in c).connected t) (taken_sorted (state_in c).connected t) p

-- ---- handle

turn_runs : (app : App) (number : ℕ) (C : List Moment) (st : State) (run : Runs) (m : ClientMessage) (i : Item) → handled_by i ≡ m ∷ [] →
    IsOfRuns app number run i
turn_runs app number C st run m (item.refused k place) e = cc e
turn_runs app number C st run m (item.unblocked k) e = cc e
turn_runs app number C st run m (item.finished k place) e = cc e
turn_runs app number C st run m i e = tt

-- with no call that blocks no refusal is kept
none_kept : (C : List Moment) (run : Runs) (kept : Option Refusal) (o : Option Blocking) → o ≡ None → IsRefusal C run kept o → kept ≡ None
none_kept C run None o e k = refl
none_kept C run (Some r) o e k = absurd (never (moment_at C r.at) (subst (λ x. IsRefusedAt (moment_at C r.at) r.k x) e k.0))
  where
    never : (m : Option Moment) → IsRefusedAt m r.k None → ⊥
    never None x = x
    never (Some m) x = x

is_none_is : {A : Type 0} (o : Option A) → is_none o ≡ true → o ≡ None
is_none_is None e = refl
is_none_is (Some x) e = cc e

pub handle_served : (app : App) (h : List Entry) (c : Conn) (ws : List Waiting) → c.queue ≡ ws → is_none (state_in c).blocking ≡ true →
    IsServed app h c → IsServed app h (handles app h c ws)
handle_served app h c [] e free p = p
handle_served app h c (w ∷ ws) e free p =
    let C = moments app c.number h in
    let st = state_in c in
    let answers : Answers c.received c.items (w.message ∷ messages ws) =
    subst (λ (q : List Waiting). Answers c.received c.items (messages q)) e p.session.answers in
    let next = next_request app c.number C c.received c.items w.message (messages ws) answers in
    let blocking : st.blocking ≡ None = is_none_is st.blocking free in
    let turn = request_turn app c.number C st (sym answers.connected ∙ next.1) blocking w.message next.0.0 next.0.1 in
    let i = item_for app c.number st w.message in
    item_served app h c c.upward c.received ws c.kept i p turn.can (turn_runs app c.number C st (runs_of app c.number h) w.message i turn.answers)
    (answers_in_turn c.received c.items (messages ws) i (subst (λ ms. Answers c.received c.items (ms ++ messages ws)) (sym turn.answers) answers) turn.later)
    (subst (λ (k : Option Refusal). IsRefusal C (runs_of app c.number h) k (after st i).blocking)
    (sym (none_kept C (runs_of app c.number h) c.kept st.blocking blocking p.refusal)) tt)

-- ---- load and advance

plain_answers : (c : Conn) (i : Item) → handled_by i ≡ [] → is_at_once i ≡ false → Answers c.received c.items (messages c.queue) →
    Answers c.received (c.items ++ i ∷ []) (messages c.queue)
plain_answers c i none later a =
    answers_in_turn c.received c.items (messages c.queue) i (subst (λ ms. Answers c.received c.items (ms ++ messages c.queue)) (sym none) a) later

pub load_served : (app : App) (h : List Entry) (c : Conn) (s place : ℕ) → nat_le place (length h) ≡ true → may_load s place (state_in c).subs ≡ true →
    IsServed app h c → IsServed app h (with_item app h c (item.load s place))
load_served app h c s place le may p =
    item_served app h c c.upward c.received c.queue c.kept (item.load s place) p
    (may, omega (arith, leb-true place (length h) le, moments_length app c.number h)) tt
    (plain_answers c (item.load s place) refl refl p.session.answers) p.refusal

advance_may : (n count : ℕ) (o : Option ℕ) → may_advance n count o ≡ true → MayAdvance (suc n) count o
advance_may n count None e = cc e
advance_may n count (Some cursor) e =
    let parts = and_parts (nat_lt 0 count) (nat_le (cursor + count) n) e in
    let le = leb-true (cursor + count) n parts.1 in (ltb-true 0 count parts.0, omega (arith, le))

pub advance_served : (app : App) (h : List Entry) (c : Conn) (s count : ℕ) → may_advance (length h) count (cursor_of s (state_in c).subs) ≡ true →
    IsServed app h c → IsServed app h (with_item app h c (item.advance s count))
advance_served app h c s count may p =
    item_served app h c c.upward c.received c.queue c.kept (item.advance s count) p
    (subst (λ n. MayAdvance n count (cursor_of s (state_in c).subs)) (sym (moments_length app c.number h))
    (advance_may (length h) count (cursor_of s (state_in c).subs) may)) tt
    (plain_answers c (item.advance s count) refl refl p.session.answers) p.refusal

-- ---- learn

kept_is : (k : ℕ) (r : Refusal) → is_kept k (Some r) ≡ true → k ≡ r.k
kept_is k r e = eqb-true k r.k e

-- a refusal that is kept is learnt
refusal_served : (app : App) (h : List Entry) (c : Conn) (k : ℕ) (o : Option Refusal) → c.kept ≡ o → is_kept k o ≡ true → IsServed app h c →
    IsServed app h (learns_item app h (record c { kept = None }) (option_map (λ (r : Refusal). item.refused k r.at) o))
refusal_served app h c k None e t p = cc t
refusal_served app h c k (Some r) e t p =
    let C = moments app c.number h in
    let same : k ≡ r.k = kept_is k r t in
    let known : IsRefusal C (runs_of app c.number h) (Some r) (state_in c).blocking =
    subst (λ x. IsRefusal C (runs_of app c.number h) x (state_in c).blocking) e p.refusal in
    item_served app h c c.upward c.received c.queue None (item.refused k r.at) p
    (subst (λ n. IsRefusedAt (moment_at C r.at) n (state_in c).blocking) (sym same) known.0)
    (ap (λ n. is_some (runs_of app c.number h n)) same ∙ known.1)
    (plain_answers c (item.refused k r.at) refl refl p.session.answers) tt

refused_here : (o : Option Moment) (j k : ℕ) (b : Option Blocking) → IsRefusedAt o j b → is_blocked_by k b ≡ true → k ≡ j
refused_here None j k b r t = absurd r
refused_here (Some m) j k None r t = absurd r
refused_here (Some m) j k (Some b) r t = eqb-true k b.k t ∙ r.number

-- where it isn't this call's refusal that is kept, this call doesn't block while one is
freed_refusal : (C : List Moment) (run : Runs) (kept : Option Refusal) (k : ℕ) (o : Option Blocking) → is_kept k kept ≡ false → IsRefusal C run kept o →
    IsRefusal C run kept (freed k o)
freed_refusal C run None k o e p = tt
freed_refusal C run (Some r) k o e p =
    elim (is_blocked_by k o) as (λ b. is_blocked_by k o ≡ b → IsRefusal C run (Some r) (cond b None o)) [
      | true ↦ λ t. let differ : true ≡ false = sym (eq-eqb k r.k (refused_here (moment_at C r.at) r.k k o p.0 t)) ∙ e in absurd (cc differ)
      | false ↦ λ t. p
    ] refl

or_true : (a b : Bool) → a ≡ true → (a || b) ≡ true
or_true true b e = refl
or_true false b e = cc e

-- a run that there was at some place is there now
run_now : (app : App) (number : ℕ) (h : List Entry) (place k : ℕ) (status : Status) → status_at (programs app) h place number k ≡ Some status →
    is_some (runs_of app number h k) ≡ true
run_now app number h place k status e =
    run_where_begun (programs app) h number k
    ∙ (ap (list_any (begins (number, k))) (sym (take-append-drop place h))
    ∙ (list_any-append (begins (number, k)) (take place h) (drop place h)
    ∙ or_true (list_any (begins (number, k)) (take place h)) (list_any (begins (number, k)) (drop place h))
    (sym (run_where_begun (programs app) (take place h) number k) ∙ ap is_some e)))

running_is : (o : Option Phase) → is_running o ≡ true → o ≡ Some running
running_is (Some running) e = refl
running_is None e = cc e
running_is (Some p) e = cc e

module _ (app : App) (h : List Entry) (c : Conn) (k place : ℕ) (status : Status) (is : status_at (programs app) h place c.number k ≡ Some status)
    (le : place ≤ length h) (runs : phase_at k (state_in c).methods ≡ Some running)
    (other : is_kept k c.kept ≡ false) (p : IsServed app h c) where
  ends_served : (o : Option End) → status.ended ≡ o → IsServed app h (learns_item app h c (news_of (state_in c) k status.unblocked o))
  ends_served (Some end) e =
      let C = moments app c.number h in
      let there = ended_there (programs app) h place c.number k status end is e in
      item_served app h c c.upward c.received c.queue c.kept (item.finished k end.at) p
      (runs, record { end = end; is = end_there app c.number h end.at k status end there.0 there.1 e; there = refl })
      (run_now app c.number h place k status is)
      (plain_answers c (item.finished k end.at) refl refl p.session.answers)
      (freed_refusal C (runs_of app c.number h) c.kept k (state_in c).blocking other p.refusal)
  ends_served None e =
      elim (status.unblocked && is_blocked_by k (state_in c).blocking) as
      (λ b. (status.unblocked && is_blocked_by k (state_in c).blocking) ≡ b → IsServed app h (learns_item app h c (cond b (Some (item.unblocked k)) None))) [
        | true ↦ λ t.
            let C = moments app c.number h in
            let both = and_parts status.unblocked (is_blocked_by k (state_in c).blocking) t in
            item_served app h c c.upward c.received c.queue c.kept (item.unblocked k) p
            (both.1, record { place = place; status = status; is = run_there app c.number h place k le ∙ is; unblocked = both.0; ended = e })
            (run_now app c.number h place k status is)
            (plain_answers c (item.unblocked k) refl refl p.session.answers)
            (freed_refusal C (runs_of app c.number h) c.kept k (state_in c).blocking other p.refusal)
        | false ↦ λ t. p
      ] refl

news_served : (app : App) (h : List Entry) (c : Conn) (k place : ℕ) (o : Option Status) → status_at (programs app) h place c.number k ≡ o →
    place ≤ length h → is_kept k c.kept ≡ false → IsServed app h c →
    IsServed app h (learns_item app h c (news_by (state_in c) k o))
news_served app h c k place None e le other p = p
news_served app h c k place (Some status) e le other p =
    elim (is_running (phase_at k (state_in c).methods)) as
    (λ b. is_running (phase_at k (state_in c).methods) ≡ b →
    IsServed app h (learns_item app h c (cond b (news_of (state_in c) k status.unblocked status.ended) None))) [
      | true ↦ λ t. ends_served app h c k place status e le (running_is (phase_at k (state_in c).methods) t) other p status.ended refl
      | false ↦ λ t. p
    ] refl

told_served : (app : App) (h : List Entry) (c : Conn) (k place : ℕ) → is_kept k c.kept ≡ false → IsServed app h c →
    IsServed app h (learns_item app h c (if nat_le place (length h) then news_by (state_in c) k (status_at (programs app) h place c.number k) else None))
told_served app h c k place other p =
    elim (nat_le place (length h)) as
    (λ b. nat_le place (length h) ≡ b →
    IsServed app h (learns_item app h c (cond b (news_by (state_in c) k (status_at (programs app) h place c.number k)) None))) [
      | true ↦ λ t. news_served app h c k place (status_at (programs app) h place c.number k) refl (leb-true place (length h) t) other p
      | false ↦ λ t. p
    ] refl

pub learn_served : (app : App) (h : List Entry) (c : Conn) (k place : ℕ) → IsServed app h c → IsServed app h (learns app h c k place)
learn_served app h c k place p =
    elim (is_kept k c.kept) as (λ b. is_kept k c.kept ≡ b → IsServed app h (learns_item app h (record c { kept = cond b None c.kept })
    (cond b (option_map (λ (r : Refusal). item.refused k r.at) c.kept)
    (if nat_le place (length h) then news_by (state_in c) k (status_at (programs app) h place c.number k) else None)))) [
      | true ↦ λ t. refusal_served app h c k c.kept refl t p
      | false ↦ λ t. told_served app h c k place t p
    ] refl

-- ---- begin

refused_now : (app : App) (h : List Entry) (c : Conn) (b : Blocking) → (state_in c).blocking ≡ Some b → is_some (runs_of app c.number h b.k) ≡ false →
    is_refused app h b ≡ true →
    IsRefusal (moments app c.number h) (runs_of app c.number h) (Some (record { k = b.k; at = length h })) (state_in c).blocking
refused_now app h c b blocks none full = (
  subst (λ (o : Option Moment). IsRefusedAt o b.k (state_in c).blocking) (sym (moment_now app c.number h))
      (subst (λ (o : Option Blocking). IsRefusedAt (Some (moment_of app c.number (held (programs app) h))) b.k o) (sym blocks)
      (record { number = refl; begun = without (runs_of app c.number h b.k) none; full = full })),
  none,
)
  where
    without : (o : Option Status) → is_some o ≡ false → o ≡ None
    without None e = refl
    without (Some s) e = cc e

pub begin_served : (app : App) (h : List Entry) (c : Conn) → IsServed app h c →
    IsServed app (h ++ begun app h c.number (unbegun app h c)) (record c { kept = refusal_kept app h (unbegun app h c) c.kept })
begin_served app h c p = by (state_in c).blocking refl
  where
    C : List Moment
    C = moments app c.number h

    idle : IsServed app (h ++ []) c
    idle = subst (λ (x : List Entry). IsServed app x c) (sym (append-nil h)) p

    -- with an entry to make no refusal is kept
    free : (b : Blocking) (kept : Option Refusal) → (state_in c).blocking ≡ Some b → is_kept b.k kept ≡ false →
        IsRefusal C (runs_of app c.number h) kept (state_in c).blocking → kept ≡ None
    free b None e f k = refl
    free b (Some r) e f k =
        let same : b.k ≡ r.k =
        refused_here (moment_at C r.at) r.k b.k (Some b) (subst (λ o. IsRefusedAt (moment_at C r.at) r.k o) e k.0) (eq-eqb b.k b.k refl) in
        let differ : true ≡ false = sym (eq-eqb b.k r.k same) ∙ f in absurd (cc differ)

    or_parts : (a b : Bool) → (a || b) ≡ false → (a ≡ false) × (b ≡ false)
    or_parts true b e = cc e
    or_parts false b e = (refl, e)

    here : (b : Blocking) → (state_in c).blocking ≡ Some b → (x : Bool) → (is_some (status_in (held_in app h) c.number b.k) || is_kept b.k c.kept) ≡ x →
        IsServed app (h ++ begun app h c.number (cond x None (Some b))) (record c { kept = refusal_kept app h (cond x None (Some b)) c.kept })
    here b e true t = idle
    here b e false t =
        let parts = or_parts (is_some (status_in (held_in app h) c.number b.k)) (is_kept b.k c.kept) t in
        elim (is_refused app h b) as
        (λ y. is_refused app h b ≡ y → IsServed app (h ++ cond y [] (begin_entry c.number b ∷ []))
        (record c { kept = cond y (Some (record { k = b.k; at = length h })) c.kept })) [
          | true ↦ λ full. subst (λ (x : List Entry). IsServed app x (record c { kept = Some (record { k = b.k; at = length h }) })) (sym (append-nil h))
              (record { session = p.session; begun = p.begun; refusal = refused_now app h c b e parts.0 full })
          | false ↦ λ full. record {
            session = entry_session app h c (begin_entry c.number b) p;
            begun = begin_kept app c.number h c.items b e parts.0 p.begun;
            refusal = subst
                (λ (k : Option Refusal). IsRefusal (moments app c.number (h ++ begin_entry c.number b ∷ []))
                (runs_of app c.number (h ++ begin_entry c.number b ∷ [])) k (state_in c).blocking) (sym (free b c.kept e parts.1 p.refusal)) tt;
          }
        ] refl

    by : (o : Option Blocking) → (state_in c).blocking ≡ o →
        IsServed app (h ++ begun app h c.number (without_run (held_in app h) c o))
        (record c { kept = refusal_kept app h (without_run (held_in app h) c o) c.kept })
    by None e = idle
    by (Some b) e = here b e (is_some (status_in (held_in app h) c.number b.k) || is_kept b.k c.kept) refl

-- ---- links

pub up_served : (app : App) (h : List Entry) (c : Conn) (ts : List (List ℕ)) → IsServed app h c → IsServed app h (goes_up c ts)
up_served app h c [] p = p
up_served app h c (t ∷ ts) p = record { session = p.session; begun = p.begun; refusal = p.refusal }

pub send_served : (app : App) (h : List Entry) (c : Conn) (ts : List (List ℕ)) → c.outbox ≡ ts → IsServed app h c → IsServed app h (sends c ts)
send_served app h c [] e p = p
send_served app h c (t ∷ ts) e p = record {
  session = sent_session app c.number (moments app c.number h) c.received (messages c.queue) c.items c.sent t ts
      (subst (λ (xs : List (List ℕ)). IsSession app c.number (moments app c.number h) c.received (messages c.queue) c.items c.sent xs) e p.session);
  begun = p.begun;
  refusal = p.refusal;
}

pub take_served : (app : App) (h : List Entry) (c : Conn) (ts : List (List ℕ)) → IsServed app h c → IsServed app h (takes c ts)
take_served app h c [] p = p
take_served app h c (t ∷ ts) p = record { session = p.session; begun = p.begun; refusal = p.refusal }
