-- Each call of a session with a pass keeps what the session stands for.
use Rattle.std.specs.Prelude.{◌≡◌, ℕ, List, [], ◌∷◌, ◌++◌, ◌&&◌, Bool, true, false, Option, None, Some, IfSome, Result, Ok, Err, OnOk, ◌==◌, refl}
use Rattle.std.proofs.Common.{◌⊎◌, ap, sym, subst, ◌∙◌, arith, inl, inr, ⊎_elim}
use Rattle.std.proofs.lemmas.Bool.{and_parts, eqb-true, eq-eqb}
use mathlib.Core.List.{IsPrefix}
use Rattle.ejson_value.specs.declared.change.Change.{Change}
use Rattle.ejson_value.specs.declared.change.Publish.{Publish}
use Rattle.ejson_value.specs.Rows.{Rows}
use Rattle.ddp_messages.specs.ClientMessage.{ClientMessage}
use Rattle.app_model.specs.App.{App}
use Rattle.program_steps.specs.declared.outcome.Status.{Status}
use Rattle.program_steps.specs.Runs.{End}
use Rattle.history_model.specs.declared.entry.Entry.{Entry}
use Rattle.session_model.specs.Moments.{Moment, moment_at}
use Rattle.session_model.specs.Methods.{Blocking, is_blocked_by}
use Rattle.session_model.specs.Subscriptions.{cursor_of}
use Rattle.session_model.specs.Taking.{Taken, at_once, to_queue, taken_text}
use Rattle.session_model.specs.Fits.{IsRefusedAt}
use Rattle.session_journal_laws.specs.Shows.{AreInOrder}
use Rattle.world_model.specs.Store.{held_in, moments}
use Rattle.world_model.specs.StoreLaws.{later_moments, moments-append}
use Rattle.world_invariant_laws.specs.Moments.{moments_in_order}
use Rattle.session_laws.specs.Session.{ASession, new_session, is_at_work}
use Rattle.session_laws.specs.Meaning.{Means}
use Rattle.session_laws.specs.Longer.{new_means, longer_means}
use Rattle.shared_session.proofs.Still.{IsStill, still_same, takes_still, handles_still, loads_still, advances_still, feeds_still, learns_still, refuses_still, sends_still}
use Rattle.session_laws.specs.Events.{Outcome, IsTakenAs, Takes, HasHandled, Handles, Loads, Advances, Feeds, IsLearnt, Learns, Refuses, Sends, Closes, cursors_at}
use Rattle.shared_session.specs.Held.{AHeld, StandsFor, Stands, IsKept}
use Rattle.shared_session.specs.Standing.{WereThere, WereMade, WasSo, HadNoRoom, WereTold}
use Rattle.shared_session.specs.Events.{Keeps, StandsWith, TakesHeld, HandlesHeld, SendsHeld, ClosesHeld, IsElsewhere, AdvancesFrom, FeedsFrom}
use Rattle.shared_session.proofs.Places.{there_longer, made_longer, so_longer, full_longer, told_longer, snapshot_at, batch_at, status_at_moment, refused_at, feed_at}

-- ---- moments

abbrev with_list : AHeld → List Entry → AHeld
with_list h list = record h { list = list }

abbrev with_session : AHeld → ASession → AHeld
with_session h s = record h { session = s }

-- later entries keep it
longer_stands : (h : AHeld) (list : List Entry) → IsPrefix h.list list → Keeps h (with_list h list)
longer_stands h list p taken sent m =
    let app = h.session.carried.app in
    let n = h.session.carried.number in
    let same = moments-append app n h.list p.0 in
    subst (λ (es : List Entry). Means taken (moments app n es) sent h.session) p.1
    (subst (λ (C : List Moment). Means taken C sent h.session) (sym same)
    (longer_means taken (moments app n h.list) (later_moments app n (held_in app h.list) p.0) sent h.session (subst AreInOrder same (moments_in_order app n (h.list ++ p.0))) m))

-- it is said over the moments of the session that it still is
still_stands : (h : AHeld) (s : ASession) (taken sent : List (List ℕ)) → IsStill h.session s → Means taken (moments h.session.carried.app h.session.carried.number h.list) sent s → StandsFor taken sent (with_session h s)
still_stands h s taken sent i m =
    subst (λ (app : App). Means taken (moments app s.carried.number h.list) sent s) (sym i.app)
    (subst (λ (n : ℕ). Means taken (moments h.session.carried.app n h.list) sent s) (sym i.number) m)

same_stands : (h : AHeld) (s : ASession) → s ≡ h.session → Keeps h (with_session h s)
same_stands h s e taken sent m = subst (λ (x : ASession). StandsFor taken sent (with_session h x)) (sym e) m

-- what keeps each text that it stands for keeps that it stands for some
pub kept_by : (app : App) (h : AHeld) (s : ASession) (list : List Entry) → s.carried.app ≡ h.session.carried.app → IsKept app h → Keeps h (record { session = s; list = list }) → IsKept app (record { session = s; list = list })
kept_by app h s list same k keeps = record { served = same ∙ k.served; stands = record { taken = k.stands.taken; sent = k.stands.sent; for = keeps k.stands.taken k.stands.sent k.stands.for } }

pub new_kept : (app : App) (number : ℕ) (list : List Entry) → IsKept app (record { session = new_session app number; list = list })
new_kept app number list = record { served = refl; stands = record { taken = []; sent = []; for = new_means app number (moments app number list) (moments_in_order app number list) } }

-- ---- the pass meets a note

module _ (app : App) (h : AHeld) (list : List Entry) (p : IsPrefix h.list list) where
  pub meet_keeps : Keeps h (record { session = h.session; list = list })
  meet_keeps = longer_stands h list p

  pub meet_kept : IsKept app h → IsKept app (record { session = h.session; list = list })
  meet_kept k = kept_by app h h.session list refl k meet_keeps

-- ---- a text is taken

module _ (app : App) (h : AHeld) (t : List ℕ) (s : ASession) where
  take_stands : (r : Outcome) → Takes t h.session s r → OnOk r ((taken sent : List (List ℕ)) → StandsFor taken sent h → StandsFor (taken ++ t ∷ []) sent (with_session h s))
  take_stands (Ok u) a = λ taken sent m. still_stands h s (taken ++ t ∷ []) sent (takes_still t h.session s (Ok u) a) (a.keeps taken (moments h.session.carried.app h.session.carried.number h.list) sent m)
  take_stands (Err e) a = tt

  pub take_held : (r : Outcome) → Takes t h.session s r → TakesHeld t h (record { session = s; list = h.list }) r
  take_held r a = record { takes = a; list = refl; stands = take_stands r a }

  pub take_kept : (r : Outcome) → Takes t h.session s r → IsKept app h → IsKept app (record { session = s; list = h.list })
  take_kept (Ok u) a k = record {
    served = (takes_still t h.session s (Ok u) a).app ∙ k.served;
    stands = record { taken = k.stands.taken ++ t ∷ []; sent = k.stands.sent; for = take_stands (Ok u) a k.stands.taken k.stands.sent k.stands.for };
  }
  take_kept (Err e) a k = kept_by app h s h.list (ap (λ (x : ASession). x.carried.app) a.same) k (same_stands h s a.same)

-- ---- a message is handled

module _ (app : App) (h : AHeld) (s : ASession) where
  handle_keeps : (r : Outcome) → Handles h.session s r → Keeps h (with_session h s)
  handle_keeps (Ok u) a = λ taken sent m. still_stands h s taken sent (handles_still h.session s (Ok u) a) (a.keeps taken (moments h.session.carried.app h.session.carried.number h.list) sent m)
  handle_keeps (Err e) a = same_stands h s a.same

  pub handle_held : (r : Outcome) → Handles h.session s r → HandlesHeld h (record { session = s; list = h.list }) r
  handle_held r a = record { handles = a; list = refl; keeps = handle_keeps r a }

  pub handle_kept : (r : Outcome) → Handles h.session s r → IsKept app h → IsKept app (record { session = s; list = h.list })
  handle_kept r a k = kept_by app h s h.list (handles_still h.session s r a).app k (handle_keeps r a)

-- ---- a text is sent

module _ (app : App) (h : AHeld) (s : ASession) where
  send_stands : (r : Option (List ℕ)) → Sends h.session s r → StandsWith r h (with_session h s)
  send_stands None a = same_stands h s a.same
  send_stands (Some t) a = λ taken sent m. still_stands h s taken (sent ++ t ∷ []) (sends_still h.session s (Some t) a) (a.0.keeps taken (moments h.session.carried.app h.session.carried.number h.list) sent m)

  pub send_held : (r : Option (List ℕ)) → Sends h.session s r → SendsHeld h (record { session = s; list = h.list }) r
  send_held r a = record { sends = a; list = refl; stands = send_stands r a }

  pub send_kept : (r : Option (List ℕ)) → Sends h.session s r → IsKept app h → IsKept app (record { session = s; list = h.list })
  send_kept None a k = kept_by app h s h.list (ap (λ (x : ASession). x.carried.app) a.same) k (same_stands h s a.same)
  send_kept (Some t) a k = record {
    served = (sends_still h.session s (Some t) a).app ∙ k.served;
    stands = record { taken = k.stands.taken; sent = k.stands.sent ++ t ∷ []; for = send_stands (Some t) a k.stands.taken k.stands.sent k.stands.for };
  }

-- ---- it is closed

module _ (app : App) (h : AHeld) (s : ASession) (a : Closes h.session s) where
  closed_still : IsStill h.session s
  closed_still = record { app = ap (λ (x : ASession). x.carried.app) a.done; number = ap (λ (x : ASession). x.carried.number) a.done }

  close_keeps : Keeps h (with_session h s)
  close_keeps taken sent m = still_stands h s taken sent closed_still (a.keeps taken (moments h.session.carried.app h.session.carried.number h.list) sent m)

  pub close_held : ClosesHeld h (record { session = s; list = h.list })
  close_held = record { closes = a; list = refl; keeps = close_keeps }

  pub close_kept : IsKept app h → IsKept app (record { session = s; list = h.list })
  close_kept k = kept_by app h s h.list closed_still.app k close_keeps

-- ---- events with something of the store, over the list that the pass has then

module _ (app : App) (h : AHeld) (note list : List Entry) (own : IsPrefix h.list list) (theirs : IsPrefix note list) (s : ASession) where
  abbrev C : List Moment
  C = moments h.session.carried.app h.session.carried.number list

  by_event : IsStill h.session s → ((taken sent : List (List ℕ)) → Means taken C sent h.session → Means taken C sent s) → Keeps h (record { session = s; list = list })
  by_event i keeps taken sent m = still_stands (with_list h list) s taken sent i (keeps taken sent (longer_stands h list own taken sent m))

  by_refusal : s ≡ h.session → Keeps h (record { session = s; list = list })
  by_refusal e taken sent m = same_stands (with_list h list) s e taken sent (longer_stands h list own taken sent m)

  module _ (served : h.session.carried.app ≡ app) where
    pub load_keeps : (sub place : ℕ) (rows : Rows) (r : Outcome) → Loads sub place rows h.session s r → WereThere app note place rows → Keeps h (record { session = s; list = list })
    load_keeps sub place rows (Ok u) a w =
        by_event (loads_still sub place rows h.session s (Ok u) a)
        (λ taken sent m. a.keeps taken C sent m
        (snapshot_at h.session.carried.app h.session.carried.number list place rows (subst (λ (x : App). WereThere x list place rows) (sym served) (there_longer app note list theirs place rows w))))
    load_keeps sub place rows (Err e) a w = by_refusal a.same

    pub advance_keeps : (sub from count : ℕ) (changes : List Change) (r : Outcome) → Advances sub from count changes h.session s r → cursor_of sub h.session.carried.own.subs ≡ Some from → WereMade app note from count changes
        → Keeps h (record { session = s; list = list })
    advance_keeps sub from count changes (Ok u) a is w =
        by_event (advances_still sub from count changes h.session s (Ok u) a)
        (λ taken sent m. a.keeps taken C sent m
        (batch_at h.session.carried.app h.session.carried.number list (cursor_of sub h.session.carried.own.subs) from count changes is
        (subst (λ (x : App). WereMade x list from count changes) (sym served) (made_longer app note list theirs from count changes w))))
    advance_keeps sub from count changes (Err e) a is w = by_refusal a.same

    pub feed_keeps : (sub from count : ℕ) (news : List Publish) (r : Outcome) → Feeds sub count news h.session s r → cursor_of sub h.session.carried.own.subs ≡ Some from → WereTold app note (cursors_at sub h.session) from count news
        → Keeps h (record { session = s; list = list })
    feed_keeps sub from count news (Ok u) a is w =
        by_event (feeds_still sub count news h.session s (Ok u) a)
        (λ taken sent m. a.keeps taken C sent m
        (feed_at h.session.carried.app h.session.carried.number list sub from count news h.session is
        (subst (λ (x : App). WereTold x list (cursors_at sub h.session) from count news) (sym served) (told_longer app note list theirs (cursors_at sub h.session) from count news w))))
    feed_keeps sub from count news (Err e) a is w = by_refusal a.same

    pub learn_keeps : (k : ℕ) (status : Status) (r : Outcome) → Learns k status h.session s r → WasSo app h.session.carried.number note k status → Keeps h (record { session = s; list = list })
    learn_keeps k status (Ok u) a w =
        by_event (learns_still k status h.session s (Ok u) a)
        (λ taken sent m. a.keeps taken C sent m
        (status_at_moment h.session.carried.app h.session.carried.number list k status
        (subst (λ (x : App). WasSo x h.session.carried.number list k status) (sym served) (so_longer app note list theirs h.session.carried.number k status w))))
    learn_keeps k status (Err e) a w = by_refusal a.same

    abbrev WasFull : ℕ → ℕ → Option Blocking → Type 0
    WasFull k place o = IfSome o (λ call. call.k ≡ k → HadNoRoom app h.session.carried.number note place k call)

    turned_away : (k place : ℕ) (o : Option Blocking) → is_blocked_by k o ≡ true → WasFull k place o → IsRefusedAt (moment_at C place) k o
    turned_away k place None blocks w = cc blocks
    turned_away k place (Some call) blocks w =
        let is : call.k ≡ k = grind arith in
        refused_at h.session.carried.app h.session.carried.number list place k call is
        (subst (λ (x : App). HadNoRoom x h.session.carried.number list place k call) (sym served) (full_longer app note list theirs h.session.carried.number place k call (w is)))

    pub refuse_keeps : (k place : ℕ) (r : Outcome) → Refuses k place h.session s r → WasFull k place h.session.carried.own.blocking → Keeps h (record { session = s; list = list })
    refuse_keeps k place (Ok u) a w =
        let blocks = (and_parts (is_at_work h.session) (is_blocked_by k h.session.carried.own.blocking) a.enabled.enabled).1 in
        by_event (refuses_still k place h.session s (Ok u) a) (λ taken sent m. a.keeps taken C sent m (turned_away k place h.session.carried.own.blocking blocks w))
    refuse_keeps k place (Err e) a w = by_refusal a.same

    pub load_kept : (sub place : ℕ) (rows : Rows) (r : Outcome) → Loads sub place rows h.session s r → WereThere app note place rows → IsKept app h → IsKept app (record { session = s; list = list })
    load_kept sub place rows r a w k = kept_by app h s list (loads_still sub place rows h.session s r a).app k (load_keeps sub place rows r a w)

    pub learn_kept : (k : ℕ) (status : Status) (r : Outcome) → Learns k status h.session s r → WasSo app h.session.carried.number note k status → IsKept app h → IsKept app (record { session = s; list = list })
    learn_kept k status r a w kept = kept_by app h s list (learns_still k status h.session s r a).app kept (learn_keeps k status r a w)

    pub refuse_kept : (k place : ℕ) (r : Outcome) → Refuses k place h.session s r → WasFull k place h.session.carried.own.blocking → IsKept app h → IsKept app (record { session = s; list = list })
    refuse_kept k place r a w kept = kept_by app h s list (refuses_still k place h.session s r a).app kept (refuse_keeps k place r a w)

-- ---- a batch or news that may begin elsewhere

is_there : (from : ℕ) (o : Option ℕ) → (o ≡ Some from) ⊎ (o ≡ Some from → ⊥)
is_there from None = inr (λ e. cc e)
is_there from (Some n) = elim (n == from) as (λ b. (n == from) ≡ b → (Some n ≡ Some from) ⊎ (Some n ≡ Some from → ⊥)) [
  | true ↦ λ is. inl (ap (λ (k : ℕ). Some k) (eqb-true n from is))
  | false ↦ λ is. inr (λ e. let same : n ≡ from = cc e in cc (is, eq-eqb n from same))
] refl

module _ (app : App) (h : AHeld) (note list : List Entry) (own : IsPrefix h.list list) (theirs : IsPrefix note list) (s : ASession) (served : h.session.carried.app ≡ app) where
  elsewhere : (r : Outcome) → IsElsewhere h.session s r → IsStill h.session s × Keeps h (record { session = s; list = list })
  elsewhere r e = (still_same h.session s e.same, by_refusal app h note list own theirs s e.same)

  advance_both : (sub from count : ℕ) (changes : List Change) (r : Outcome) → AdvancesFrom sub from count changes h.session s r → WereMade app note from count changes → IsStill h.session s × Keeps h (record { session = s; list = list })
  advance_both sub from count changes r a w =
      ⊎_elim
      (λ (is : cursor_of sub h.session.carried.own.subs ≡ Some from). (advances_still sub from count changes h.session s r (a.0 is), advance_keeps app h note list own theirs s served sub from count changes r (a.0 is) is w))
      (λ (not : cursor_of sub h.session.carried.own.subs ≡ Some from → ⊥). elsewhere r (a.1 not))
      (is_there from (cursor_of sub h.session.carried.own.subs))

  pub advance_from_keeps : (sub from count : ℕ) (changes : List Change) (r : Outcome) → AdvancesFrom sub from count changes h.session s r → WereMade app note from count changes → Keeps h (record { session = s; list = list })
  advance_from_keeps sub from count changes r a w = (advance_both sub from count changes r a w).1

  pub advance_kept : (sub from count : ℕ) (changes : List Change) (r : Outcome) → AdvancesFrom sub from count changes h.session s r → WereMade app note from count changes → IsKept app h → IsKept app (record { session = s; list = list })
  advance_kept sub from count changes r a w k = kept_by app h s list (advance_both sub from count changes r a w).0.app k (advance_both sub from count changes r a w).1

  feed_both : (sub from count : ℕ) (news : List Publish) (r : Outcome) → FeedsFrom sub from count news h.session s r → WereTold app note (cursors_at sub h.session) from count news → IsStill h.session s × Keeps h (record { session = s; list = list })
  feed_both sub from count news r a w =
      ⊎_elim
      (λ (is : cursor_of sub h.session.carried.own.subs ≡ Some from). (feeds_still sub count news h.session s r (a.0 is), feed_keeps app h note list own theirs s served sub from count news r (a.0 is) is w))
      (λ (not : cursor_of sub h.session.carried.own.subs ≡ Some from → ⊥). elsewhere r (a.1 not))
      (is_there from (cursor_of sub h.session.carried.own.subs))

  pub feed_from_keeps : (sub from count : ℕ) (news : List Publish) (r : Outcome) → FeedsFrom sub from count news h.session s r → WereTold app note (cursors_at sub h.session) from count news → Keeps h (record { session = s; list = list })
  feed_from_keeps sub from count news r a w = (feed_both sub from count news r a w).1

  pub feed_kept : (sub from count : ℕ) (news : List Publish) (r : Outcome) → FeedsFrom sub from count news h.session s r → WereTold app note (cursors_at sub h.session) from count news → IsKept app h → IsKept app (record { session = s; list = list })
  feed_kept sub from count news r a w k = kept_by app h s list (feed_both sub from count news r a w).0.app k (feed_both sub from count news r a w).1
