-- Laws: the account of a session stays true, event by event.
use Rattle.std.specs.Prelude.{◌≡◌, ◌==◌, ℕ, List, [], ◌∷◌, ◌++◌, length, cond, Bool, true, false, not, ◌&&◌, Option, Some, None, is_none, Ok, refl}
use Rattle.std.proofs.Common.{ap, ap₂, sym, subst, ◌∙◌}
use Rattle.std.proofs.lemmas.Bool.{eqb-true, and_parts}
use Rattle.value_model.specs.Val.{Val, Entries}
use Rattle.merge_model.specs.Publishing.{Call}
use Rattle.ejson_value.specs.declared.key.Key.{Key}
use Rattle.ejson_value.specs.declared.change.Change.{Change}
use Rattle.ejson_value.specs.declared.change.Publish.{Publish}
use Rattle.ejson_value.specs.Rows.{Rows}
use Rattle.ddp_messages.specs.ClientMessage.{ClientMessage}
use Rattle.ddp_messages.specs.ServerMessage.{ServerMessage}
use Rattle.program_steps.specs.declared.outcome.Status.{Status}
use Rattle.program_steps.specs.Runs.{End}
use Rattle.session_model.specs.Items.{Item}
use Rattle.session_model.specs.Items as item
use Rattle.session_model.specs.Methods.{Blocking, is_blocked_by, freed}
use Rattle.session_model.specs.State.{State, calling, own_after, state_of}
use Rattle.session_model.specs.Moments.{Moment}
use Rattle.session_model.specs.Taking.{Taken, at_once, to_queue, taken_text, is_connected_by}
use Rattle.session_model.specs.Fits.{seed_or, item_for}
use Rattle.session_model.specs.Answering.{is_at_once}
use Rattle.session_journal_laws.specs.declared.stored.Stored.{Stored}
use Rattle.session_journal_laws.specs.Resolved.{resolved, seed_in}
use Rattle.session_journal_laws.specs.ResolvedLaws.{items-more}
use Rattle.session_journal_laws.specs.Stands.{Carried, items_of}
use Rattle.session_laws.specs.Session.{ASession, is_at_work, can_handle}
use Rattle.session_laws.specs.Adding.{HasAdded}
use Rattle.session_laws.specs.Storing.{kept_as}
use Rattle.session_laws.specs.Meaning.{is_request, AreFrom, Means}
use Rattle.session_laws.specs.TakingLaws.{answered_once, once_resolved}
use Rattle.session_laws.specs.Keeping.{items_added}
use Rattle.session_laws.specs.Handled.{item_cases, read_back}
use Rattle.session_laws.specs.Events.{Takes, IsTakenAs, queued, Handles, HasHandled, IsHandledAs, Loads, Advances, Feeds, IsLearnt, Learns, Refuses, Sends}
use Rattle.world_model.specs.Headline.{standing}
use Rattle.world_invariant_laws.specs.Standing.{is_plain}
use Rattle.world_invariant_laws.specs.StandingLaws.{plain_standing, call_standing, refused_standing, standing_below, knows_calls}
use Rattle.world_invariant_laws.specs.Begun.{cancel}
use Rattle.lane_model.specs.Among.{AllBelow}
use Rattle.lane_model.specs.Account.{number_of, IsLast, IsTrueTo}
use Rattle.lane_model.specs.AccountLaws.{true_handled, true_free, true_freed, true_refused}
use Rattle.lane_accounts.specs.Accounts.{account, account_of}
use Rattle.lane_accounts.specs.StandingLaws.{as_below, blocking_last}

module _ (begun : List Blocking) (marked : Bool) (made : ℕ) where
  -- the same call blocks, and the same calls stand
  pub record IsAlike (taken taken' : List (List ℕ)) (old new : Carried) : Type 0 where
    pub blocks : new.own.blocking ≡ old.own.blocking
    pub stand : standing (items_of taken' new) ≡ standing (items_of taken old)

  alike : (has_begun : Bool) (taken taken' : List (List ℕ)) (old new : Carried) → IsAlike taken taken' old new →
      IsTrueTo begun (account_of has_begun marked made taken old) → IsTrueTo begun (account_of has_begun marked made taken' new)
  alike has_begun taken taken' old new e t =
      subst (IsTrueTo begun) (ap₂ (λ (o : Option Blocking) (calls : List Blocking). account has_begun marked made o calls) (sym e.blocks) (sym e.stand)) t

  -- ---- one item that is no call and refuses none

  once_plain : (i : Item) → is_at_once i ≡ true → (is_plain i ≡ true) × ((st : State) → (own_after st i).blocking ≡ st.blocking)
  once_plain item.connect e = (refl, λ st. refl)
  once_plain item.fail e = (refl, λ st. refl)
  once_plain (item.ping id) e = (refl, λ st. refl)
  once_plain item.pong e = (refl, λ st. refl)
  once_plain (item.bad reason offending) e = (refl, λ st. refl)
  once_plain i e = cc e

  plain_standing_of : (taken : List (List ℕ)) (stored : Stored) (id : Option (List ℕ)) (call : Call Key Entries) (i : Item) (words : List ServerMessage)
      (old new : ASession) → HasAdded stored id call (own_after old.carried.own i) words old new →
      resolved old.carried.app old.carried.number taken stored ≡ i →
      is_plain i ≡ true → standing (items_of taken new.carried) ≡ standing (items_of taken old.carried)
  plain_standing_of taken stored id call i words old new a reads plain =
      let items = items_of taken old.carried in
      ap standing (items_added taken stored old.carried new.carried a.added.app a.added.number a.added.journal ∙ ap (λ (j : Item). items ++ j ∷ []) reads)
      ∙ plain_standing items i plain

  plain_alike : (taken : List (List ℕ)) (stored : Stored) (id : Option (List ℕ)) (call : Call Key Entries) (i : Item) (words : List ServerMessage)
      (old new : ASession) → HasAdded stored id call (own_after old.carried.own i) words old new →
      resolved old.carried.app old.carried.number taken stored ≡ i →
      is_plain i ≡ true → (own_after old.carried.own i).blocking ≡ old.carried.own.blocking → IsAlike taken taken old.carried new.carried
  plain_alike taken stored id call i words old new a reads plain same = record {
    blocks = ap (λ (st : State). st.blocking) a.added.own ∙ same;
    stand = plain_standing_of taken stored id call i words old new a reads plain;
  }

  -- ---- events of texts

  module _ (has_begun : Bool) (taken : List (List ℕ)) (C : List Moment) (sent : List (List ℕ)) (old new : ASession) (m : Means taken C sent old) where
    taken_alike : (t : List ℕ) (x : Taken) → taken_text old.carried.own.connected t ≡ x → IsTakenAs x (length t) old new →
        IsAlike taken (taken ++ t ∷ []) old.carried new.carried
    taken_alike t (at_once i) is a =
        let app = old.carried.app in
        let number = old.carried.number in
        let once = answered_once old.carried.own.connected t i is in
        let plain = once_plain i once in
        let connected : is_connected_by false taken ≡ old.carried.own.connected =
        m.stands.answers.connected ∙ ap (λ (st : State). st.connected) (sym m.stands.own) in
        let now : taken_text (is_connected_by false taken) t ≡ at_once i = ap (λ c. taken_text c t) connected ∙ is in
        let reads : resolved app number (taken ++ t ∷ []) (kept_as old.carried.taken i) ≡ i =
        ap (λ n. resolved app number (taken ++ t ∷ []) (kept_as n i)) m.stands.count ∙ once_resolved app number taken t i once now in
        let before : items_of (taken ++ t ∷ []) old.carried ≡ items_of taken old.carried =
        items-more app number taken (t ∷ []) old.carried.journal m.stands.placed in
        let e = plain_alike (taken ++ t ∷ []) (kept_as old.carried.taken i) _ _ i _ old new a.done reads plain.0 (plain.1 old.carried.own) in
        record { blocks = e.blocks; stand = e.stand ∙ ap standing before }
    taken_alike t (to_queue message) is a =
        let app = old.carried.app in
        let number = old.carried.number in
        let before : items_of (taken ++ t ∷ []) old.carried ≡ items_of taken old.carried =
        items-more app number taken (t ∷ []) old.carried.journal m.stands.placed in
        let same : IsAlike taken (taken ++ t ∷ []) old.carried (queued message (length t) old).carried = record { blocks = refl; stand = ap standing before } in
        subst (λ (s : ASession). IsAlike taken (taken ++ t ∷ []) old.carried s.carried) (sym a.1) same

    pub true_taken : (t : List ℕ) → Takes t old new (Ok tt) → IsTrueTo begun (account_of has_begun marked made taken old.carried) →
        IsTrueTo begun (account_of has_begun marked made (taken ++ t ∷ []) new.carried)
    true_taken t e p =
        alike has_begun taken (taken ++ t ∷ []) old.carried new.carried (taken_alike t (taken_text old.carried.own.connected t) refl e.done) p

    pub true_sent : (o : Option (List ℕ)) → Sends old new o → IsTrueTo begun (account_of has_begun marked made taken old.carried) →
        IsTrueTo begun (account_of has_begun marked made taken new.carried)
    true_sent None e p = subst (λ (s : ASession). IsTrueTo begun (account_of has_begun marked made taken s.carried)) (sym e.same) p
    true_sent (Some t) e p = subst (λ (s : ASession). IsTrueTo begun (account_of has_begun marked made taken s.carried)) (sym e.0.rest) p

    -- ---- a message is handled

    free_of : (o : Option Blocking) → is_none o ≡ true → o ≡ None
    free_of None e = refl
    free_of (Some b) e = cc e

    is_free : can_handle old ≡ true → old.carried.own.blocking ≡ None
    is_free e =
        let waits = and_parts (is_at_work old) (not (length old.carried.waiting == 0) && is_none old.carried.own.blocking) e in
        free_of old.carried.own.blocking (and_parts (not (length old.carried.waiting == 0)) (is_none old.carried.own.blocking) waits.1).1

    -- what the item of a message leaves: the session's items, with this one behind them, and what blocks
    abbrev Leaves : Item → Type 0
    Leaves i = (items : List Item) (o : Option Blocking) → items ≡ items_of taken old.carried ++ i ∷ [] → o ≡ (own_after old.carried.own i).blocking →
        IsTrueTo begun (account false marked made o (standing items))

    module _ (free : old.carried.own.blocking ≡ None) (p : IsTrueTo begun (account_of has_begun marked made taken old.carried)) where
      -- while none blocks, it is the same whether the lane has begun it
      unbegun : IsTrueTo begun (account false marked made None (standing (items_of taken old.carried)))
      unbegun =
          let calls = standing (items_of taken old.carried) in
          true_free begun (account has_begun marked made None calls) refl (subst (λ (o : Option Blocking). IsTrueTo begun
          (account has_begun marked made o calls)) free p)

      plain_leaves : (i : Item) → is_plain i ≡ true → (own_after old.carried.own i).blocking ≡ old.carried.own.blocking → Leaves i
      plain_leaves i plain same items o is blocks =
          let calls : standing (items_of taken old.carried) ≡ standing items = sym (ap standing is ∙ plain_standing (items_of taken old.carried) i plain) in
          subst (IsTrueTo begun) (ap₂ (λ (b : Option Blocking) (cs : List Blocking). account false marked made b cs)
          (sym (blocks ∙ (same ∙ free))) calls) unbegun

      call_leaves : (message : ClientMessage) (seed : Val) → Leaves (item.call (length old.carried.own.methods) message seed)
      call_leaves message seed items o is blocks =
          let k = length old.carried.own.methods in
          let before = items_of taken old.carried in
          let b = calling k message seed in
          let knows = knows_calls old.carried.app old.carried.number C before m.stands.fits in
          let next : k ≡ length (state_of before).methods = ap (λ (st : State). length st.methods) m.stands.own in
          let below : AllBelow number_of k (standing before) =
          subst (λ n. AllBelow number_of n (standing before)) (sym next)
          (as_below (length (state_of before).methods) (standing before) (standing_below (state_of before) before knows)) in
          let calls : standing before ++ b ∷ [] ≡ standing items = sym (ap standing is ∙ call_standing (state_of before) before k message seed knows next) in
          let now = true_handled begun (account false marked made None (standing before)) b refl below unbegun in
          subst (IsTrueTo begun) (ap₂ (λ (x : Option Blocking) (cs : List Blocking). account false marked made x cs) (sym blocks) calls) now

      message_leaves : (message : ClientMessage) → is_request message ≡ true → Leaves (item_for old.carried.app old.carried.number old.carried.own message)
      message_leaves message w = item_cases Leaves old.carried.app old.carried.number old.carried.own message w
          (plain_leaves (item.same message) refl refl) (λ f. plain_leaves (item.nosub message f) refl refl)
          (λ cursors e. plain_leaves (item.subscribe old.carried.own.opened message cursors) refl refl) (λ s. plain_leaves (item.close s message) refl refl)
          (call_leaves message (seed_or old.carried.number (length old.carried.own.methods) (seed_in message))) (plain_leaves (item.unknown message) refl refl)

      handled_at : (place : ℕ) (message : ClientMessage) (places : List ℕ) (ms : List ClientMessage) → old.places ≡ place ∷ places →
          old.carried.waiting ≡ message ∷ ms → IsHandledAs place message old new → IsTrueTo begun (account_of false marked made taken new.carried)
      handled_at place message places ms first waiting a =
          let app = old.carried.app in
          let number = old.carried.number in
          let own = old.carried.own in
          let i = item_for app number own message in
          let from : AreFrom taken (place ∷ places) (message ∷ ms) =
          subst (λ (ps : List ℕ). AreFrom taken ps (message ∷ ms)) first (subst (λ (xs : List ClientMessage). AreFrom taken old.places xs) waiting m.from) in
          let reads : resolved app number taken (kept_as place i) ≡ i = read_back app number taken place own message from.0.waits from.0.says in
          message_leaves message from.0.waits (items_of taken new.carried) new.carried.own.blocking
          (items_added taken (kept_as place i) old.carried new.carried a.done.added.app a.done.added.number a.done.added.journal
          ∙ ap (λ (j : Item). items_of taken old.carried ++ j ∷ []) reads)
          (ap (λ (st : State). st.blocking) a.done.added.own)

      handled_by : (places : List ℕ) (ms : List ClientMessage) → old.places ≡ places → old.carried.waiting ≡ ms → HasHandled places ms old new →
          IsTrueTo begun (account_of false marked made taken new.carried)
      handled_by [] ms first waiting a = absurd a
      handled_by (place ∷ places) [] first waiting a = absurd a
      handled_by (place ∷ places) (message ∷ ms) first waiting a = handled_at place message places ms first waiting a

    pub true_by_message : Handles old new (Ok tt) → IsTrueTo begun (account_of has_begun marked made taken old.carried) →
        IsTrueTo begun (account_of false marked made taken new.carried)
    true_by_message e p = handled_by (is_free e.enabled.enabled) p old.places old.carried.waiting refl refl e.done

    -- ---- subscriptions

    pub true_loaded : (sub place : ℕ) (rows : Rows) → Loads sub place rows old new (Ok tt) →
        IsTrueTo begun (account_of has_begun marked made taken old.carried) →
        IsTrueTo begun (account_of has_begun marked made taken new.carried)
    true_loaded sub place rows e p =
        alike has_begun taken taken old.carried new.carried (plain_alike taken _ _ _ (item.load sub place) _ old new e.done.done refl refl refl) p

    pub true_advanced : (sub from count : ℕ) (changes : List Change) → Advances sub from count changes old new (Ok tt) →
        IsTrueTo begun (account_of has_begun marked made taken old.carried) → IsTrueTo begun (account_of has_begun marked made taken new.carried)
    true_advanced sub from count changes e p =
        alike has_begun taken taken old.carried new.carried (plain_alike taken _ _ _ (item.advance sub count) _ old new e.done.done refl refl refl) p

    pub true_fed : (sub count : ℕ) (news : List Publish) → Feeds sub count news old new (Ok tt) →
        IsTrueTo begun (account_of has_begun marked made taken old.carried) → IsTrueTo begun (account_of has_begun marked made taken new.carried)
    true_fed sub count news e p =
        alike has_begun taken taken old.carried new.carried (plain_alike taken _ _ _ (item.advance sub count) _ old new e.done.done refl refl refl) p

    -- ---- calls

    -- the call that is freed is none that blocks, or one that the lane has begun
    freed_stays : (k : ℕ) (o : Option Blocking) (calls : List Blocking) → (is_blocked_by k o ≡ true → has_begun ≡ true) →
        IsTrueTo begun (account has_begun marked made o calls) → IsTrueTo begun (account has_begun marked made (freed k o) calls)
    freed_stays k o calls own p =
        elim (is_blocked_by k o) as (λ c. is_blocked_by k o ≡ c → IsTrueTo begun (account has_begun marked made (cond c None o) calls)) [
          | true ↦ λ is. true_freed begun (account has_begun marked made o calls) (own is) p
          | false ↦ λ is. p
        ] refl

    learnt_as : (k : ℕ) (i : Item) (words : List ServerMessage) (call : Call Key Entries) (id : Option (List ℕ)) →
        HasAdded (kept_as 0 i) id call (own_after old.carried.own i) words old new →
        resolved old.carried.app old.carried.number taken (kept_as 0 i) ≡ i → is_plain i ≡ true →
        (own_after old.carried.own i).blocking ≡ freed k old.carried.own.blocking → (is_blocked_by k old.carried.own.blocking ≡ true → has_begun ≡ true) →
        IsTrueTo begun (account_of has_begun marked made taken old.carried) → IsTrueTo begun (account_of has_begun marked made taken new.carried)
    learnt_as k i words call id a reads plain frees own p =
        let calls = plain_standing_of taken (kept_as 0 i) id call i words old new a reads plain in
        let blocks : new.carried.own.blocking ≡ freed k old.carried.own.blocking = ap (λ (st : State). st.blocking) a.added.own ∙ frees in
        let now = freed_stays k old.carried.own.blocking (standing (items_of taken old.carried)) own p in
        subst (IsTrueTo begun) (ap₂ (λ (x : Option Blocking) (cs : List Blocking). account has_begun marked made x cs) (sym blocks) (sym calls)) now

    learnt_by : (k : ℕ) (o : Option End) → IsLearnt k o old new → (is_blocked_by k old.carried.own.blocking ≡ true → has_begun ≡ true) →
        IsTrueTo begun (account_of has_begun marked made taken old.carried) → IsTrueTo begun (account_of has_begun marked made taken new.carried)
    learnt_by k (Some end) a own p = learnt_as k (item.finished k end.at) _ _ _ a.added refl refl refl own p
    learnt_by k None a own p = learnt_as k (item.unblocked k) _ _ _ a.added refl refl refl own p

    pub true_learnt : (k : ℕ) (status : Status) → Learns k status old new (Ok tt) → (is_blocked_by k old.carried.own.blocking ≡ true → has_begun ≡ true) →
        IsTrueTo begun (account_of has_begun marked made taken old.carried) → IsTrueTo begun (account_of has_begun marked made taken new.carried)
    true_learnt k status e own p = learnt_by k status.ended e.done own p

    -- the call that blocks is refused, and the lane has not begun it
    refused_by : (k place : ℕ) (o : Option Blocking) → old.carried.own.blocking ≡ o → is_blocked_by k o ≡ true → has_begun ≡ false →
        Refuses k place old new (Ok tt) →
        IsTrueTo begun (account_of has_begun marked made taken old.carried) → IsTrueTo begun (account_of false marked made taken new.carried)
    refused_by k place None blocks is unbegun_yet e p = cc is
    refused_by k place (Some b) blocks is unbegun_yet e p =
        let app = old.carried.app in
        let number = old.carried.number in
        let before = items_of taken old.carried in
        let a = e.done.added in
        let same : k ≡ b.k = eqb-true k b.k is in
        let own : (state_of before).blocking ≡ Some b = ap (λ (st : State). st.blocking) (sym m.stands.own) ∙ blocks in
        let knows = knows_calls app number C before m.stands.fits in
        let others = standing (before ++ item.refused b.k place ∷ []) in
        let l = blocking_last app number C before m.stands.fits b own in
        let split : standing before ≡ others ++ b ∷ [] = refused_standing before place b (knows.last b own) in
        let older : others ≡ l.others = cancel others l.others b (sym split ∙ l.last.is) in
        let last : IsLast b others (standing before) =
        record { is = split; below = subst (λ (cs : List Blocking). AllBelow number_of b.k cs) (sym older) l.last.below } in
        let now = true_refused begun (account_of has_begun marked made taken old.carried) b others unbegun_yet blocks last p in
        let calls : others ≡ standing (items_of taken new.carried) =
        sym (ap standing (items_added taken (kept_as 0 (item.refused k place)) old.carried new.carried a.added.app a.added.number a.added.journal)
        ∙ ap (λ n. standing (before ++ item.refused n place ∷ [])) same) in
        let free : new.carried.own.blocking ≡ None =
        ap (λ (st : State). st.blocking) a.added.own ∙ (ap (freed k) blocks ∙ ap (λ c. cond c None (Some b)) is) in
        subst (IsTrueTo begun) (ap₂ (λ (x : Option Blocking) (cs : List Blocking). account false marked made x cs) (sym free) calls)
        (subst (λ (hb : Bool). IsTrueTo begun (account hb marked made None others)) unbegun_yet now)

    pub true_by_refusal : (k place : ℕ) → has_begun ≡ false → Refuses k place old new (Ok tt) →
        IsTrueTo begun (account_of has_begun marked made taken old.carried) →
        IsTrueTo begun (account_of false marked made taken new.carried)
    true_by_refusal k place unbegun_yet e p =
        refused_by k place old.carried.own.blocking refl
        (and_parts (is_at_work old) (is_blocked_by k old.carried.own.blocking) e.enabled.enabled).1 unbegun_yet e p
