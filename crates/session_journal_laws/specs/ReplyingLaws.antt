-- Laws: The `ready`s and `nosub`s of an id are those that the requests with this id have, in their order.
use Rattle.std.specs.Prelude.{◌≡◌, ℕ, ◌≤◌, ◌==◌, List, [], ◌∷◌, ◌++◌, length, map, Bool, true, false, cond, not, ◌&&◌, ◌||◌, Option, Some, None, Ok}
use Rattle.std.specs.Prelude.{Err, is_none, is_some, if◌then◌else◌, refl}
use Rattle.std.specs.Option.{option_or}
use Rattle.std.proofs.Common.{ap, ap₂, sym, subst, ◌∙◌, append-nil, arith}
use Rattle.std.proofs.lemmas.List.{append_assoc}
use Rattle.std.proofs.lemmas.Bool.{eqb-true, eq-eqb}
use Rattle.std.proofs.lemmas.Slice.Eq.{bytes_eq-Decides}
use Rattle.map_model.specs.Differences.{Step}
use Rattle.value_model.specs.Val.{Val}
use Rattle.value_model.specs.Size.{is_name}
use Rattle.ejson_value.specs.declared.fault.Fault.{Fault}
use Rattle.ejson_value.specs.declared.key.Key.{Key}
use Rattle.ddp_messages.specs.ServerMessage.{ServerMessage}
use Rattle.ddp_messages.specs.ClientMessage.{ClientMessage}
use Rattle.ddp_messages.specs.ClientMessage as client
use Rattle.publication.specs.Cursors.{ACursors}
use Rattle.program_steps.specs.Runs.{Outcome, done, failed, End}
use Rattle.app_model.specs.App.{App, method}
use Rattle.session_model.specs.declared.fault.SubFault.{SubFault}
use Rattle.session_model.specs.declared.fault.SubFault.TheVariants as fault
use Rattle.session_model.specs.Publication.{Making, making}
use Rattle.session_model.specs.Items.{Item, id_of}
use Rattle.session_model.specs.Items as item
use Rattle.session_model.specs.Subscriptions.{Live, is_live, ids_of, cursor_of, sub_named, is_crowded, loaded, moved, advanced, closed, may_load}
use Rattle.session_model.specs.Methods.{id_at}
use Rattle.session_model.specs.State.{State, started, opening, own_after, after}
use Rattle.session_model.specs.Moments.{Moment, end_at}
use Rattle.session_model.specs.Shown.{Calls, call_of, merge_of, difference}
use Rattle.session_model.specs.Out.{about, ready as ready_message, updated, result_by, results_by, history_full, all_refused_with, own_messages}
use Rattle.session_model.specs.Out.{told_after, words_of, messages_of, out_from, out}
use Rattle.session_model.specs.Fits.{seed_or, opened_by, closed_by, item_for, CanFollow, FitsFrom, Fits}
use Rattle.session_model.specs.LooksBack.{SubAnswer, ready, ended, load_by, loaded_at, advances, is_closed, closes}
use Rattle.session_model.specs.Replies.{reply_in, replies, reply_to, replies_due}
use Rattle.session_journal_laws.specs.Live.{same_loaded, same_advanced, same_closed, same_opened}
use Rattle.session_journal_laws.specs.Handled.{IsOpened}
use Rattle.session_journal_laws.specs.HandledLaws.{open_is, close_is, named_live}
use Rattle.session_journal_laws.specs.Tracking.{AreDistinct, Tracks, cursor_by}
use Rattle.session_journal_laws.specs.TrackingLaws.{tracks_first, tracks_after, live_below, closed-append, loaded_here, advanced_here}
use Rattle.session_journal_laws.specs.Replying.{AreNamed, if_of, pending, pending_of}

name_is : (a b : List ℕ) → is_name a b ≡ true → a ≡ b
name_is a b e = (bytes_eq-Decides a b).0 e

name_self : (a : List ℕ) → is_name a a ≡ true
name_self a = (bytes_eq-Decides a a).1 refl

differ : true ≡ false → ⊥
differ e = cc e

some_is : {n m : ℕ} → Some n ≡ Some m → n ≡ m
some_is e = cc e

none_some : {n : ℕ} → None ≡ Some n → ⊥
none_some e = cc e

-- ---- messages that are no replies

replies-append : (id : List ℕ) (xs ys : List ServerMessage) → replies id (xs ++ ys) ≡ replies id xs ++ replies id ys
replies-append id [] ys = refl
replies-append id (x ∷ xs) ys = ap (λ rest. reply_in id x ++ rest) (replies-append id xs ys)
    ∙ sym (append_assoc (reply_in id x) (replies id xs) (replies id ys))

no_data : (id : List ℕ) (ds : List (Key × Step (List ℕ) Val)) → replies id (map about ds) ≡ []
no_data id [] = refl
no_data id (d ∷ ds) = no_data id ds

no_updated : (id : List ℕ) (ids : List (List ℕ)) → replies id (map updated ids) ≡ []
no_updated id [] = refl
no_updated id (x ∷ ids) = no_updated id ids

no_result : (id : List ℕ) (o : Outcome) (x : List ℕ) → reply_in id (result_by o x) ≡ []
no_result id (done value) x = refl
no_result id (failed fault) x = refl

no_results : (id : List ℕ) (o : Outcome) (ids : List (List ℕ)) → replies id (map (result_by o) ids) ≡ []
no_results id o [] = refl
no_results id o (x ∷ ids) = ap₂ (λ a b. a ++ b) (no_result id o x) (no_results id o ids)

no_end : (id : List ℕ) (end : Option End) (ids : List (List ℕ)) → replies id (results_by end ids) ≡ []
no_end id None ids = refl
no_end id (Some end) ids = no_results id end.outcome ids

no_refused : (id : List ℕ) (fault : Fault) (ids : List (List ℕ)) → replies id (all_refused_with fault ids) ≡ []
no_refused id fault [] = refl
no_refused id fault (x ∷ ids) = no_refused id fault ids

-- ---- no two live subscriptions have one id

named_loaded : (id : List ℕ) (s place : ℕ) (ls : List Live) → sub_named id (loaded s place ls) ≡ sub_named id ls
named_loaded id s place [] = refl
named_loaded id s place (l ∷ ls) =
    elim (s == l.sub) as
    (λ b. sub_named id (cond b (record l { cursor = Some place } ∷ ls) (l ∷ loaded s place ls)) ≡ sub_named id (l ∷ ls))
    [ true ↦ refl | false ↦ ap (cond (is_name id l.id) (Some l.sub)) (named_loaded id s place ls) ]

named_advanced : (id : List ℕ) (s count : ℕ) (ls : List Live) → sub_named id (advanced s count ls) ≡ sub_named id ls
named_advanced id s count [] = refl
named_advanced id s count (l ∷ ls) =
    elim (s == l.sub) as
    (λ b. sub_named id (cond b (record l { cursor = moved count l.cursor } ∷ ls) (l ∷ advanced s count ls)) ≡ sub_named id (l ∷ ls))
    [ true ↦ refl | false ↦ ap (cond (is_name id l.id) (Some l.sub)) (named_advanced id s count ls) ]

unnamed_closed : (id : List ℕ) (s : ℕ) (ls : List Live) → sub_named id ls ≡ None → sub_named id (closed s ls) ≡ None
unnamed_closed id s [] e = refl
unnamed_closed id s (l ∷ ls) e =
    elim (is_name id l.id) as (λ b. is_name id l.id ≡ b → cond b (Some l.sub) (sub_named id ls) ≡ None → sub_named id (closed s (l ∷ ls)) ≡ None) [
      | true ↦ λ is f. absurd (cc f)
      | false ↦ λ is f. elim (s == l.sub) as (λ b. sub_named id (cond (not b) (l ∷ closed s ls) (closed s ls)) ≡ None) [
        | true ↦ unnamed_closed id s ls f
        | false ↦ ap (λ b. cond b (Some l.sub) (sub_named id (closed s ls))) is ∙ unnamed_closed id s ls f
      ]
    ] refl e

-- the one that is closed has its id no more
closed_unnamed : (id : List ℕ) (s : ℕ) (ls : List Live) → AreNamed ls → sub_named id ls ≡ Some s → sub_named id (closed s ls) ≡ None
closed_unnamed id s [] n e = refl
closed_unnamed id s (l ∷ ls) n e =
    elim (is_name id l.id) as (λ b. is_name id l.id ≡ b → cond b (Some l.sub) (sub_named id ls) ≡ Some s → sub_named id (closed s (l ∷ ls)) ≡ None) [
      | true ↦ λ is f.
          let here : (s == l.sub) ≡ true = eq-eqb s l.sub (sym (some_is f)) in
          ap (λ b. sub_named id (cond (not b) (l ∷ closed s ls) (closed s ls))) here
          ∙ unnamed_closed id s ls (ap (λ x. sub_named x ls) (name_is id l.id is) ∙ n.0)
      | false ↦ λ is f. elim (s == l.sub) as (λ b. sub_named id (cond (not b) (l ∷ closed s ls) (closed s ls)) ≡ None) [
        | true ↦ closed_unnamed id s ls n.1 f
        | false ↦ ap (λ b. cond b (Some l.sub) (sub_named id (closed s ls))) is ∙ closed_unnamed id s ls n.1 f
      ]
    ] refl e

-- the others keep theirs
others_named : (id : List ℕ) (r s : ℕ) (ls : List Live) → sub_named id ls ≡ Some r → (s == r) ≡ false → sub_named id (closed s ls) ≡ Some r
others_named id r s [] e apart = cc e
others_named id r s (l ∷ ls) e apart =
    elim (is_name id l.id) as (λ b. is_name id l.id ≡ b → cond b (Some l.sub) (sub_named id ls) ≡ Some r → sub_named id (closed s (l ∷ ls)) ≡ Some r) [
      | true ↦ λ is f.
          let there : (s == l.sub) ≡ false = subst (λ x. (s == x) ≡ false) (sym (some_is f)) apart in
          ap (λ b. sub_named id (cond (not b) (l ∷ closed s ls) (closed s ls))) there ∙ (ap (λ b. cond b (Some l.sub) (sub_named id (closed s ls))) is ∙ f)
      | false ↦ λ is f. elim (s == l.sub) as (λ b. sub_named id (cond (not b) (l ∷ closed s ls) (closed s ls)) ≡ Some r) [
        | true ↦ others_named id r s ls f apart
        | false ↦ ap (λ b. cond b (Some l.sub) (sub_named id (closed s ls))) is ∙ others_named id r s ls f apart
      ]
    ] refl e

named_opened : (id : List ℕ) (ls : List Live) (l : Live) →
    sub_named id (ls ++ l ∷ []) ≡ option_or (sub_named id ls) (if is_name id l.id then Some l.sub else None)
named_opened id [] l = refl
named_opened id (x ∷ ls) l =
    elim (is_name id x.id) as
    (λ b. cond b (Some x.sub) (sub_named id (ls ++ l ∷ [])) ≡ option_or (cond b (Some x.sub) (sub_named id ls))
    (if is_name id l.id then Some l.sub else None)) [ true ↦ refl | false ↦ named_opened id ls l ]

are_loaded : (s place : ℕ) (ls : List Live) → AreNamed ls → AreNamed (loaded s place ls)
are_loaded s place [] n = tt
are_loaded s place (l ∷ ls) n =
    elim (s == l.sub) as
    (λ b. AreNamed (cond b (record l { cursor = Some place } ∷ ls) (l ∷ loaded s place ls)))
    [ true ↦ n | false ↦ (named_loaded l.id s place ls ∙ n.0, are_loaded s place ls n.1) ]

are_advanced : (s count : ℕ) (ls : List Live) → AreNamed ls → AreNamed (advanced s count ls)
are_advanced s count [] n = tt
are_advanced s count (l ∷ ls) n =
    elim (s == l.sub) as
    (λ b. AreNamed (cond b (record l { cursor = moved count l.cursor } ∷ ls) (l ∷ advanced s count ls)))
    [ true ↦ n | false ↦ (named_advanced l.id s count ls ∙ n.0, are_advanced s count ls n.1) ]

are_closed : (s : ℕ) (ls : List Live) → AreNamed ls → AreNamed (closed s ls)
are_closed s [] n = tt
are_closed s (l ∷ ls) n =
    elim (s == l.sub) as
    (λ b. AreNamed (cond (not b) (l ∷ closed s ls) (closed s ls))) [ true ↦ are_closed s ls n.1 | false ↦ (unnamed_closed l.id s ls n.0, are_closed s ls n.1) ]

are_opened : (ls : List Live) (l : Live) → AreNamed ls → sub_named l.id ls ≡ None → AreNamed (ls ++ l ∷ [])
are_opened [] l n new = (refl, tt)
are_opened (x ∷ ls) l n new =
    elim (is_name l.id x.id) as (λ b. is_name l.id x.id ≡ b → cond b (Some x.sub) (sub_named l.id ls) ≡ None → AreNamed (x ∷ (ls ++ l ∷ []))) [
      | true ↦ λ is f. absurd (cc f)
      | false ↦ λ is f.
          let apart : is_name x.id l.id ≡ false = other (is_name x.id l.id) refl is in
          (named_opened x.id ls l ∙ ap₂ option_or n.0 (ap (λ b. cond b (Some l.sub) None) apart), are_opened ls l n.1 f)
    ] refl new
  where
    other : (b : Bool) → is_name x.id l.id ≡ b → is_name l.id x.id ≡ false → b ≡ false
    other false e f = refl
    other true e f = absurd (differ (sym (ap (λ y. is_name y x.id) (sym (name_is x.id l.id e)) ∙ name_self x.id) ∙ f))

-- the id of a subscription, and the subscription of an id
named_id : (id : List ℕ) (s : ℕ) (ls : List Live) → AreDistinct ls → sub_named id ls ≡ Some s → ids_of s ls ≡ id ∷ []
named_id id s [] d e = cc e
named_id id s (l ∷ ls) d e =
    elim (is_name id l.id) as (λ b. is_name id l.id ≡ b → cond b (Some l.sub) (sub_named id ls) ≡ Some s → ids_of s (l ∷ ls) ≡ id ∷ []) [
      | true ↦ λ is f. ap (λ b. cond b (l.id ∷ []) (ids_of s ls)) (eq-eqb s l.sub (sym (some_is f))) ∙ ap (λ x. x ∷ []) (sym (name_is id l.id is))
      | false ↦ λ is f. ap (λ b. cond b (l.id ∷ []) (ids_of s ls)) (apart (s == l.sub) refl (named_live id ls s f)) ∙ named_id id s ls d.1 f
    ] refl e
  where
    apart : (b : Bool) → s == l.sub ≡ b → is_live s ls ≡ true → b ≡ false
    apart false is live = refl
    apart true is live = absurd (differ (sym live ∙ (ap (λ x. is_live x ls) (eqb-true s l.sub is) ∙ d.0)))

id_named : (x : List ℕ) (s : ℕ) (ls : List Live) → AreNamed ls → ids_of s ls ≡ x ∷ [] → sub_named x ls ≡ Some s
id_named x s [] n e = cc e
id_named x s (l ∷ ls) n e =
    elim (s == l.sub) as (λ b. s == l.sub ≡ b → cond b (l.id ∷ []) (ids_of s ls) ≡ x ∷ [] → sub_named x (l ∷ ls) ≡ Some s) [
      | true ↦ λ is f. let same : l.id ≡ x = cc f in ap (λ b. cond b (Some l.sub) (sub_named x ls)) (ap (is_name x) same ∙ name_self x)
          ∙ ap Some (sym (eqb-true s l.sub is))
      | false ↦ λ is f. let rest = id_named x s ls n.1 f in ap (λ b. cond b (Some l.sub) (sub_named x ls)) (apart (is_name x l.id) refl rest) ∙ rest
    ] refl e
  where
    apart : (b : Bool) → is_name x l.id ≡ b → sub_named x ls ≡ Some s → b ≡ false
    apart false is f = refl
    apart true is f = absurd (none_some (sym n.0 ∙ (ap (λ y. sub_named y ls) (sym (name_is x l.id is)) ∙ f)))

-- ---- a request that has a `nosub` at once

-- its id is no live one's
nosub_made : (app : App) (number : ℕ) (st : State) (m : ClientMessage) (message : ClientMessage) (e : Option SubFault) →
    item_for app number st m ≡ item.nosub message e → sub_named (id_of message) st.subs ≡ None
nosub_made app number st (client.sub id name params) message e is =
    let m = client.sub id name params in
    elim (is_some (sub_named id st.subs)) as
    (λ b. is_some (sub_named id st.subs) ≡ b → cond b (item.same m) (cond (is_crowded st.subs) (item.nosub m (Some fault.TooMany))
    (opened_by st.opened m (making app name params))) ≡ item.nosub message e → sub_named (id_of message) st.subs ≡ None) [
      | true ↦ λ live f. absurd (cc f)
      | false ↦ λ live. elim (is_crowded st.subs) as
          (λ b. cond b (item.nosub m (Some fault.TooMany)) (opened_by st.opened m (making app name params)) ≡ item.nosub message e →
          sub_named (id_of message) st.subs ≡ None) [
            | true ↦ λ f. let same : message ≡ m = cc f in ap (λ x. sub_named (id_of x) st.subs) same ∙ without (sub_named id st.subs) live
            | false ↦ λ f. ap (λ x. sub_named (id_of x) st.subs) (opened (making app name params) f) ∙ without (sub_named id st.subs) live
          ]
    ] refl is
  where
    without : (o : Option ℕ) → is_some o ≡ false → o ≡ None
    without None f = refl
    without (Some s) f = cc f

    opened : (made : Making) → opened_by st.opened (client.sub id name params) made ≡ item.nosub message e → message ≡ client.sub id name params
    opened (Ok cursors) f = cc f
    opened (Err x) f = cc f
nosub_made app number st (client.unsub id) message e is = by (sub_named id st.subs) refl is
  where
    by : (o : Option ℕ) → sub_named id st.subs ≡ o → closed_by (client.unsub id) o ≡ item.nosub message e → sub_named (id_of message) st.subs ≡ None
    by None none f = let same : message ≡ client.unsub id = cc f in ap (λ x. sub_named (id_of x) st.subs) same ∙ none
    by (Some s) some f = cc f
nosub_made app number st (client.method id name params seed) message e is =
    elim (is_some (method app name)) as
    (λ b. cond b (item.call (length st.methods) (client.method id name params seed) (seed_or number (length st.methods) seed))
    (item.unknown (client.method id name params seed)) ≡ item.nosub message e → sub_named (id_of message) st.subs ≡ None) [
      | true ↦ λ f. absurd (cc f)
      | false ↦ λ f. absurd (cc f)
    ] is
nosub_made app number st (client.connect version support) message e is = cc is
nosub_made app number st (client.ping id) message e is = cc is
nosub_made app number st (client.pong id) message e is = cc is

-- ---- what is closed is loaded no more

closed_stays : (app : App) (number : ℕ) (C : List Moment) (st : State) (before items : List Item) (s : ℕ) → Tracks st before →
    is_closed s before ≡ true → FitsFrom app number C st items → loaded_at s items ≡ None
closed_stays app number C st before [] s t shut f = refl
closed_stays app number C st before (i ∷ items) s t shut f =
    ap₂ option_or (none_here i f.0)
    (closed_stays app number C (after st i) (before ++ i ∷ []) items s (tracks_after st before t app number C i f.0)
    (closed-append s before i ∙ ap (λ b. b || closes s i) shut) f.1)
  where
    none_here : (i : Item) → CanFollow app number C st i → load_by s i ≡ None
    none_here (item.load r place) g =
        elim (s == r) as (λ b. s == r ≡ b → cond b (Some place) None ≡ None) [
          | true ↦ λ is.
              let open_ = (live_below st before t r (loaded_here r place st.subs g.0).2).1 in
              absurd (differ (sym shut ∙ (ap (λ x. is_closed x before) (eqb-true s r is) ∙ open_)))
          | false ↦ λ is. refl
        ] refl
    none_here i g = refl

-- ---- the `ready` that a live subscription will have

none_pending : (o : Option ℕ) (ls : List Live) → pending_of o ls [] ≡ []
none_pending None ls = refl
none_pending (Some s) ls = refl

-- an item that loads nothing
quiet_pending : (o : Option ℕ) (ls : List Live) (i : Item) (items : List Item) → ((s : ℕ) → load_by s i ≡ None) →
    pending_of o ls (i ∷ items) ≡ pending_of o ls items
quiet_pending None ls i items none = refl
quiet_pending (Some s) ls i items none = ap (λ o. cond (is_some (option_or o (loaded_at s items)) && is_none (cursor_of s ls)) (ready ∷ []) []) (none s)

same_pending : (o : Option ℕ) (ls ls2 : List Live) (items : List Item) → ((s : ℕ) → is_none (cursor_of s ls) ≡ is_none (cursor_of s ls2)) →
    pending_of o ls items ≡ pending_of o ls2 items
same_pending None ls ls2 items e = refl
same_pending (Some s) ls ls2 items e = ap (λ b. cond (is_some (loaded_at s items) && b) (ready ∷ []) []) (e s)

module _ (app : App) (number : ℕ) (C : List Moment) (id : List ℕ) where
  -- what is due before and after an item
  abbrev Due : State → List Item → Item → Type 0
  Due st items i = replies id (own_messages C number st i) ++ pending id (own_after st i).subs items ≡ pending id st.subs (i ∷ items) ++ reply_to id i items

  quiet_due : (st : State) (items : List Item) (i : Item) → ((s : ℕ) → load_by s i ≡ None) →
      replies id (own_messages C number st i) ++ pending id (own_after st i).subs items ≡ pending id st.subs items ++ reply_to id i items → Due st items i
  quiet_due st items i none e = e ∙ ap (λ p. p ++ reply_to id i items) (sym (quiet_pending (sub_named id st.subs) st.subs i items none))

  -- a `nosub` at once, where nothing else is due
  ended_due : (b : Bool) (p : List SubAnswer) → (b ≡ true → p ≡ []) → (if_of b ++ []) ++ p ≡ p ++ if_of b
  ended_due true p none = ap (λ x. ended ∷ x) (none refl) ∙ ap (λ x. x ++ ended ∷ []) (sym (none refl))
  ended_due false p none = sym (append-nil p)

  none_due : (p q ms : List SubAnswer) → ms ≡ [] → q ≡ p → ms ++ q ≡ p ++ []
  none_due p q ms none same = ap₂ (λ a b. a ++ b) none same ∙ sym (append-nil p)

  nothing_due : (st : State) (items : List Item) (ms : List SubAnswer) → ms ≡ [] → ms ++ pending id st.subs items ≡ pending id st.subs items ++ []
  nothing_due st items ms none = none_due (pending id st.subs items) (pending id st.subs items) ms none refl

  opened_due : (st : State) (before items : List Item) (s : ℕ) (message : ClientMessage) (cursors : ACursors) → Tracks st before →
      IsOpened app st s message cursors → Due st items (item.subscribe s message cursors)
  opened_due st before items s message cursors t o =
      let l = opening st s message cursors in
      let cursors_same = λ (r : ℕ). same_opened (λ (x : Live). x.cursor) None r st.subs l refl in
      let unloaded : cursor_of s st.subs ≡ None =
      t.cursors s ∙ ap₂ (λ b p. cursor_by b p (advances s before)) (t.fresh s (subst (λ n. st.opened ≤ n) (sym o.number) (omega arith))).1
      (t.fresh s (subst (λ n. st.opened ≤ n) (sym o.number) (omega arith))).0 in
      quiet_due st items (item.subscribe s message cursors) (λ r. refl) (elim (is_name id (id_of message)) as (λ b. is_name id (id_of message) ≡ b →
      pending id (st.subs ++ l ∷ []) items ≡ pending id st.subs items ++ (cond (b && is_some (loaded_at s items)) (ready ∷ []) [])) [
        | true ↦ λ is.
            let same : id ≡ id_of message = name_is id (id_of message) is in
            let new : sub_named id st.subs ≡ None = ap (λ x. sub_named x st.subs) same ∙ without (sub_named (id_of message) st.subs) o.new in
            let now : sub_named id (st.subs ++ l ∷ []) ≡ Some s = named_opened id st.subs l ∙ ap₂ option_or new (ap (λ b. cond b (Some s) None) is) in
            ap (λ x. pending_of x (st.subs ++ l ∷ []) items) now
            ∙ (ap (λ c. cond (is_some (loaded_at s items) && is_none c) (ready ∷ []) []) (cursors_same s ∙ unloaded)
            ∙ (and_true (is_some (loaded_at s items)) ∙ ap (λ x. pending_of x st.subs items ++ cond (is_some (loaded_at s items)) (ready ∷ []) []) (sym new)))
        | false ↦ λ is.
            let now : sub_named id (st.subs ++ l ∷ []) ≡ sub_named id st.subs = named_opened id st.subs l
            ∙ (ap (λ b. option_or (sub_named id st.subs) (cond b (Some s) None)) is ∙ or_none (sub_named id st.subs)) in
            ap (λ x. pending_of x (st.subs ++ l ∷ []) items) now
            ∙ (same_pending (sub_named id st.subs) (st.subs ++ l ∷ []) st.subs items (λ r. ap is_none (cursors_same r))
            ∙ sym (append-nil (pending id st.subs items)))
      ] refl)
    where
      without : (o : Option ℕ) → is_some o ≡ false → o ≡ None
      without None f = refl
      without (Some s) f = cc f

      or_none : (o : Option ℕ) → option_or o None ≡ o
      or_none None = refl
      or_none (Some n) = refl

      and_true : (b : Bool) → cond (b && true) (ready ∷ []) [] ≡ cond b (ready ∷ []) []
      and_true true = refl
      and_true false = refl

  -- the replies of a subscription that is loaded
  abbrev told_ready : ℕ → List Live → List SubAnswer
  told_ready r ls = replies id (map ready_message (ids_of r ls))

  loaded_due : (st : State) (before items : List Item) (r place : ℕ) → Tracks st before → AreNamed st.subs → may_load r place st.subs ≡ true →
      Due st items (item.load r place)
  loaded_due st before items r place t n may = by (sub_named id st.subs) refl
    where
      here : (cursor_of r (loaded r place st.subs) ≡ Some place) × (cursor_of r st.subs ≡ None) × (is_live r st.subs ≡ true)
      here = loaded_here r place st.subs may

      and_false : (b : Bool) → cond (b && false) (ready ∷ []) [] ≡ []
      and_false true = refl
      and_false false = refl

      -- where another subscription has the id, or none has
      apart : (sub_named id st.subs ≡ Some r → ⊥) → told_ready r st.subs ≡ []
      apart other = each (ids_of r st.subs) refl
        where
          each : (xs : List (List ℕ)) → ids_of r st.subs ≡ xs → replies id (map ready_message xs) ≡ []
          each [] e = refl
          each (x ∷ []) e =
              elim (is_name id x) as (λ b. is_name id x ≡ b → (cond b (ready ∷ []) [] ++ []) ++ [] ≡ []) [
                | true ↦ λ is. absurd (other (ap (λ y. sub_named y st.subs) (name_is id x is) ∙ id_named x r st.subs n e))
                | false ↦ λ is. refl
              ] refl
          each (x ∷ y ∷ xs) e = absurd (single st.subs e)
            where
              single : (ls : List Live) → ids_of r ls ≡ x ∷ y ∷ xs → ⊥
              single [] f = cc f
              single (l ∷ ls) f =
                  elim (r == l.sub) as (λ b. cond b (l.id ∷ []) (ids_of r ls) ≡ x ∷ y ∷ xs → ⊥) [ true ↦ λ g. cc g | false ↦ λ g. single ls g ] f

      by : (o : Option ℕ) → sub_named id st.subs ≡ o → Due st items (item.load r place)
      by None e =
          none_due (pending id st.subs (item.load r place ∷ items)) (pending id (loaded r place st.subs) items) (told_ready r st.subs)
          (apart (λ f. none_some (sym e ∙ f)))
          (ap (λ x. pending_of x (loaded r place st.subs) items) (named_loaded id r place st.subs ∙ e)
          ∙ sym (ap (λ x. pending_of x st.subs (item.load r place ∷ items)) e))
      by (Some s) e =
          elim (s == r) as (λ b. s == r ≡ b → Due st items (item.load r place)) [
            | true ↦ λ is.
                let same : s ≡ r = eqb-true s r is in
                let ids : ids_of r st.subs ≡ id ∷ [] = ap (λ x. ids_of x st.subs) (sym same) ∙ named_id id s st.subs t.distinct e in
                let told : told_ready r st.subs ≡ ready ∷ [] = ap (λ xs. replies id (map ready_message xs)) ids
                ∙ ap (λ b. (cond b (ready ∷ []) [] ++ []) ++ []) (name_self id) in
                let after_ : pending id (loaded r place st.subs) items ≡ [] =
                ap (λ x. pending_of x (loaded r place st.subs) items) (named_loaded id r place st.subs ∙ (e ∙ ap Some same))
                ∙ (ap (λ c. cond (is_some (loaded_at r items) && is_none c) (ready ∷ []) []) here.0 ∙ and_false (is_some (loaded_at r items))) in
                let before_ : pending id st.subs (item.load r place ∷ items) ≡ ready ∷ [] =
                ap (λ x. pending_of x st.subs (item.load r place ∷ items)) (e ∙ ap Some same)
                ∙ ap₂ (λ b c. cond (is_some (option_or (cond b (Some place) None) (loaded_at r items)) && is_none c) (ready ∷ []) [])
                (eq-eqb r r refl) here.1 in
                ap₂ (λ a b. a ++ b) told after_ ∙ sym (ap (λ a. a ++ []) before_)
            | false ↦ λ is.
                none_due (pending id st.subs (item.load r place ∷ items)) (pending id (loaded r place st.subs) items) (told_ready r st.subs)
                (apart (λ f. differ (sym (eq-eqb s r (some_is (sym e ∙ f))) ∙ is)))
                (ap (λ x. pending_of x (loaded r place st.subs) items) (named_loaded id r place st.subs ∙ e)
                ∙ (ap (λ c. cond (is_some (loaded_at s items) && is_none c) (ready ∷ []) []) (same_loaded (λ (x : Live). x.cursor) None r s place st.subs is)
                ∙ (ap (λ b. cond (is_some (option_or (cond b (Some place) None) (loaded_at s items)) && is_none (cursor_of s st.subs)) (ready ∷ []) []) (sym is)
                ∙ sym (ap (λ x. pending_of x st.subs (item.load r place ∷ items)) e))))
          ] refl

  advanced_due : (st : State) (items : List Item) (r count : ℕ) → Due st items (item.advance r count)
  advanced_due st items r count =
      quiet_due st items (item.advance r count) (λ s. refl) (none_due (pending id st.subs items) (pending id (advanced r count st.subs) items) [] refl
      (ap (λ x. pending_of x (advanced r count st.subs) items) (named_advanced id r count st.subs)
      ∙ same_pending (sub_named id st.subs) (advanced r count st.subs) st.subs items each))
    where
      moved_none : (o : Option ℕ) → is_none (moved count o) ≡ is_none o
      moved_none None = refl
      moved_none (Some n) = refl

      each : (s : ℕ) → is_none (cursor_of s (advanced r count st.subs)) ≡ is_none (cursor_of s st.subs)
      each s =
          elim (s == r) as (λ b. s == r ≡ b → is_none (cursor_of s (advanced r count st.subs)) ≡ is_none (cursor_of s st.subs)) [
            | true ↦ λ is. subst (λ x. is_none (cursor_of s (advanced x count st.subs)) ≡ is_none (cursor_of s st.subs)) (eqb-true s r is)
                (ap is_none (advanced_here s count st.subs) ∙ moved_none (cursor_of s st.subs))
            | false ↦ λ is. ap is_none (same_advanced (λ (x : Live). x.cursor) None r s count st.subs is)
          ] refl

  closed_due : (st : State) (before items : List Item) (r : ℕ) (message : ClientMessage) → Tracks st before → AreNamed st.subs →
      sub_named (id_of message) st.subs ≡ Some r → loaded_at r items ≡ None → Due st items (item.close r message)
  closed_due st before items r message t n named never =
      quiet_due st items (item.close r message) (λ s. refl)
      (elim (is_name id (id_of message))
      as (λ b. is_name id (id_of message) ≡ b → (if_of b ++ []) ++ pending id (closed r st.subs) items ≡ pending id st.subs items ++ if_of b) [
        | true ↦ λ is.
            let own : sub_named id st.subs ≡ Some r = ap (λ x. sub_named x st.subs) (name_is id (id_of message) is) ∙ named in
            let was : pending id st.subs items ≡ [] = ap (λ x. pending_of x st.subs items) own
            ∙ ap (λ o. cond (is_some o && is_none (cursor_of r st.subs)) (ready ∷ []) []) never in
            let now : pending id (closed r st.subs) items ≡ [] = ap (λ x. pending_of x (closed r st.subs) items) (closed_unnamed id r st.subs n own) in
            ap (λ x. ended ∷ x) now ∙ sym (ap (λ x. x ++ ended ∷ []) was)
        | false ↦ λ is. by is (sub_named id st.subs) refl ∙ sym (append-nil (pending id st.subs items))
      ] refl)
    where
      by : is_name id (id_of message) ≡ false → (o : Option ℕ) → sub_named id st.subs ≡ o → pending id (closed r st.subs) items ≡ pending id st.subs items
      by is None e = ap (λ x. pending_of x (closed r st.subs) items) (unnamed_closed id r st.subs e) ∙ sym (ap (λ x. pending_of x st.subs items) e)
      by is (Some s) e =
          let apart : (s == r) ≡ false = other (s == r) refl in
          let apart2 : (r == s) ≡ false = turned (r == s) refl apart in
          ap (λ x. pending_of x (closed r st.subs) items) (others_named id s r st.subs e apart2)
          ∙ (ap (λ c. cond (is_some (loaded_at s items) && is_none c) (ready ∷ []) []) (same_closed (λ (x : Live). x.cursor) None r s st.subs apart)
          ∙ sym (ap (λ x. pending_of x st.subs items) e))
        where
          first : (x y : List ℕ) → x ∷ [] ≡ y ∷ [] → x ≡ y
          first x y f = cc f

          other : (b : Bool) → s == r ≡ b → b ≡ false
          other false f = refl
          other true f =
              let ids : id ∷ [] ≡ id_of message ∷ [] = sym (named_id id s st.subs t.distinct e)
              ∙ (ap (λ x. ids_of x st.subs) (eqb-true s r f) ∙ named_id (id_of message) r st.subs t.distinct named) in
              absurd (differ (sym (ap (is_name id) (sym (first id (id_of message) ids)) ∙ name_self id) ∙ is))

          turned : (b : Bool) → r == s ≡ b → (s == r) ≡ false → b ≡ false
          turned false f g = refl
          turned true f g = absurd (differ (sym (eq-eqb s r (sym (eqb-true r s f))) ∙ g))

  item_due : (st : State) (before items : List Item) (i : Item) → Tracks st before → AreNamed st.subs → CanFollow app number C st i →
      FitsFrom app number C (after st i) items → Due st items i
  item_due st before items (item.subscribe s message cursors) t n f g =
      opened_due st before items s message cursors t (open_is app number st message s message cursors f.made)
  item_due st before items (item.load r place) t n f g = loaded_due st before items r place t n f.0
  item_due st before items (item.advance r count) t n f g = advanced_due st items r count
  item_due st before items (item.close r message) t n f g =
      let i = item.close r message in
      let shut : is_closed r (before ++ i ∷ []) ≡ true = closed-append r before i ∙ or_true (is_closed r before) (eq-eqb r r refl) in
      closed_due st before items r message t n (close_is app number st message r message f.made)
      (closed_stays app number C (after st i) (before ++ i ∷ []) items r (tracks_after st before t app number C i f) shut g)
    where
      or_true : (a : Bool) {b : Bool} → b ≡ true → (a || b) ≡ true
      or_true true e = refl
      or_true false e = e
  item_due st before items (item.nosub message e) t n f g =
      quiet_due st items (item.nosub message e) (λ s. refl) (ended_due (is_name id (id_of message)) (pending id st.subs items)
      (λ is. ap (λ x. pending_of x st.subs items)
      (ap (λ x. sub_named x st.subs) (name_is id (id_of message) is) ∙ nosub_made app number st message message e f.made)))
  item_due st before items (item.refused k place) t n f g =
      quiet_due st items (item.refused k place) (λ s. refl)
      (nothing_due st items (replies id (all_refused_with history_full (id_at k st.methods))) (no_refused id history_full (id_at k st.methods)))
  item_due st before items (item.finished k place) t n f g =
      quiet_due st items (item.finished k place) (λ s. refl)
      (nothing_due st items (replies id (results_by (end_at C place k) (id_at k st.methods))) (no_end id (end_at C place k) (id_at k st.methods)))
  item_due st before items i t n f g = quiet_due st items i (λ s. refl) (nothing_due st items [] refl)

  own_named : (st : State) (i : Item) → CanFollow app number C st i → AreNamed st.subs → AreNamed (own_after st i).subs
  own_named st (item.subscribe s message cursors) f n = are_opened st.subs (opening st s message cursors) n
      (without (sub_named (id_of message) st.subs) (open_is app number st message s message cursors f.made).new)
    where
      without : (o : Option ℕ) → is_some o ≡ false → o ≡ None
      without None f = refl
      without (Some s) f = cc f
  own_named st (item.load s place) f n = are_loaded s place st.subs n
  own_named st (item.advance s count) f n = are_advanced s count st.subs n
  own_named st (item.close s message) f n = are_closed s st.subs n
  own_named st i f n = n

  -- only the item's own messages have replies
  item_replies : (past : Calls) (st : State) (i : Item) → replies id (messages_of C number past st i) ≡ replies id (own_messages C number st i)
  item_replies past st i =
      let ds = difference (merge_of past) (merge_of (call_of C st i ∷ past)) in
      let own = own_messages C number st i in
      let ts = told_after st i in
      replies-append id (map about ds) (words_of C number st i)
      ∙ (ap₂ (λ a b. a ++ b) (no_data id ds)
      (replies-append id own (map updated ts) ∙ (ap (λ a. replies id own ++ a) (no_updated id ts) ∙ append-nil (replies id own))))

  replies_from : (past : Calls) (st : State) (before items : List Item) → Tracks st before → AreNamed st.subs → FitsFrom app number C st items →
      replies id (out_from C number past st items) ≡ pending id st.subs items ++ replies_due id items
  replies_from past st before [] t n f = sym (append-nil (pending id st.subs []) ∙ none_pending (sub_named id st.subs) st.subs)
  replies_from past st before (i ∷ items) t n f =
      let past2 = call_of C st i ∷ past in
      let own = replies id (own_messages C number st i) in
      let later = pending id (own_after st i).subs items in
      let rest = replies_from past2 (after st i) (before ++ i ∷ []) items (tracks_after st before t app number C i f.0) (own_named st i f.0 n) f.1 in
      replies-append id (messages_of C number past st i) (out_from C number past2 (after st i) items)
      ∙ (ap₂ (λ a b. a ++ b) (item_replies past st i) rest
      ∙ (sym (append_assoc own later (replies_due id items))
      ∙ (ap (λ x. x ++ replies_due id items) (item_due st before items i t n f.0 f.1)
      ∙ append_assoc (pending id st.subs (i ∷ items)) (reply_to id i items) (replies_due id items))))

-- The `ready`s and `nosub`s with an id are those that the requests with the id have.
pub requests_are_answered : (app : App) (number : ℕ) (C : List Moment) (items : List Item) → Fits app number C items → (id : List ℕ) →
    replies id (out C number items) ≡ replies_due id items
requests_are_answered app number C items f id = replies_from app number C id [] started [] items tracks_first tt f
