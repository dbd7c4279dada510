-- Laws: The history of a world is legal: each entry that an act or an operation adds can be made there.
use Rattle.std.specs.Prelude.{◌≡◌, ◌⊎◌, ℕ, ◌<◌, ◌≤◌, ◌==◌, nat_lt, List, [], ◌∷◌, ◌++◌, length, filter, Bool, true, false, cond, not, ◌&&◌, ◌||◌}
use Rattle.std.specs.Prelude.{Option, Some, None, Ok, Err, is_some, option_map, refl}
use Rattle.std.specs.List.{list_any}
use Rattle.std.specs.Ordering.{eq_by_cmp}
use Rattle.std.specs.Map.{keys_of}
use Rattle.std.proofs.Common.{ap, ap₂, sym, subst, ◌∙◌, arith, append-nil, inl, inr}
use Rattle.std.proofs.lemmas.List.Elements.{filter-append}
use Rattle.std.proofs.lemmas.Bool.{eqb-true, lt-ltb, cases_order}
use Rattle.map_model.specs.Maps.{at}
use Rattle.map_model.specs.MapLaws.{is_some-at, eq_by_cmp-self}
use Rattle.value_model.specs.Val.{Val}
use Rattle.ejson_value.specs.View.{view}
use Rattle.ddp_messages.specs.ClientMessage.{ClientMessage}
use Rattle.ddp_messages.specs.ClientMessage as client
use Rattle.collection_store.specs.Outcome.{Outcome}
use Rattle.collection_store.specs.Applied.{Applied}
use Rattle.collection_store.specs.declared.operation.Op.{Op}
use Rattle.app_model.specs.App.{App, method}
use Rattle.world_model.specs.history_model.declared.entry.Entry.{Entry}
use Rattle.world_model.specs.history_model.declared.entry.Entry.TheVariants as entry
use Rattle.world_model.specs.history_model.Operations.{operation_in}
use Rattle.world_model.specs.history_model.History.{RunKey, run_cmp, Begun, Runs, status_of, status_in, room_in, is_full, is_full_for_operation}
use Rattle.world_model.specs.history_model.History.{is_next, is_answered, is_made, can_follow, IsLegal}
use Rattle.world_model.specs.history_model.HistoryLaws.{run_order, IsLegal-append}
use Rattle.world_model.specs.history_model.BegunLaws.{run_where_begun}
use Rattle.world_model.specs.session_model.declared.fault.SubFault.TheVariants as fault
use Rattle.world_model.specs.session_model.Publication.{Making, making}
use Rattle.world_model.specs.session_model.Items.{Item, name_of}
use Rattle.world_model.specs.session_model.Items as item
use Rattle.world_model.specs.session_model.Subscriptions.{sub_named, is_crowded}
use Rattle.world_model.specs.session_model.Methods.{Blocking}
use Rattle.world_model.specs.session_model.State.{State, started, after, state_of}
use Rattle.world_model.specs.session_model.Moments.{Moment}
use Rattle.world_model.specs.session_model.Fits.{seed_or, opened_by, closed_by, item_for, CanFollow, FitsFrom}
use Rattle.world_model.specs.declared.events.Act.{Act}
use Rattle.world_model.specs.declared.events.Act.TheVariants as act
use Rattle.world_model.specs.Store.{programs, held_in, moments, value_of}
use Rattle.world_model.specs.Conn.{Conn, state_in}
use Rattle.world_model.specs.Acts.{without_run, unbegun, is_refused, begin_entry, begun, is_kept, enabled, entries}
use Rattle.world_model.specs.World.{World}
use Rattle.world_model.specs.Events.{applied_in, by_answer, by_operation, refusal_of}
use Rattle.world_model.specs.session_model.LooksBack.{is_refused_in}
use Rattle.world_model.specs.Headline.{call_by, calls_in, begun_in}
use Rattle.world_invariant_laws.specs.Standing.{AreBelow}
use Rattle.world_invariant_laws.specs.StandingLaws.{below_filtered}
use Rattle.world_model.specs.StoreLaws.{view-value_of}
use Rattle.world_invariant_laws.specs.Begun.{runs_of, unrun, IsBegun, none_begun, cancel}
use Rattle.world_invariant_laws.specs.Session.{IsServed}
use Rattle.world_invariant_laws.specs.Operations.{IsCoded}
use Rattle.world_invariant_laws.specs.OperationsLaws.{applied_coded}
use Rattle.world_invariant_laws.specs.Legal.{AreOf, is_before}

-- ---- calls are of methods that the application has

of_last : (app : App) (bs : List Blocking) (b : Blocking) → AreOf app (bs ++ b ∷ []) → is_some (method app b.method) ≡ true
of_last app [] b p = p.0
of_last app (x ∷ bs) b p = of_last app bs b p.1

opened_none : (m : ClientMessage) (made : Making) (s k : ℕ) (message : ClientMessage) (seed : Val) → opened_by s m made ≡ item.call k message seed → ⊥
opened_none m (Ok cursors) s k message seed e = cc e
opened_none m (Err x) s k message seed e = cc e

closed_none : (m : ClientMessage) (o : Option ℕ) (k : ℕ) (message : ClientMessage) (seed : Val) → closed_by m o ≡ item.call k message seed → ⊥
closed_none m None k message seed e = cc e
closed_none m (Some s) k message seed e = cc e

call_known : (app : App) (number : ℕ) (st : State) (m : ClientMessage) (k : ℕ) (message : ClientMessage) (seed : Val) →
    item_for app number st m ≡ item.call k message seed → is_some (method app (name_of message)) ≡ true
call_known app number st (client.method id name params s) k message seed e =
    let m = client.method id name params s in
    elim (is_some (method app name)) as
    (λ b. is_some (method app name) ≡ b → cond b (item.call (length st.methods) m (seed_or number (length st.methods) s)) (item.unknown m)
    ≡ item.call k message seed → is_some (method app (name_of message)) ≡ true) [
      | true ↦ λ t is. let same : m ≡ message = cc is in ap (λ x. is_some (method app (name_of x))) (sym same) ∙ t
      | false ↦ λ t is. absurd (cc is)
    ] refl e
call_known app number st (client.sub id name params) k message seed e =
    let m = client.sub id name params in
    elim (is_some (sub_named id st.subs)) as
    (λ b. cond b (item.same m) (cond (is_crowded st.subs) (item.nosub m (Some fault.TooMany)) (opened_by st.opened m (making app name params)))
    ≡ item.call k message seed → is_some (method app (name_of message)) ≡ true) [
      | true ↦ λ is. absurd (cc is)
      | false ↦ elim (is_crowded st.subs) as
          (λ b. cond b (item.nosub m (Some fault.TooMany)) (opened_by st.opened m (making app name params)) ≡ item.call k message seed →
          is_some (method app (name_of message)) ≡ true) [
            | true ↦ λ is. absurd (cc is)
            | false ↦ λ is. absurd (opened_none m (making app name params) st.opened k message seed is)
          ]
    ] e
call_known app number st (client.unsub id) k message seed e = absurd (closed_none (client.unsub id) (sub_named id st.subs) k message seed e)
call_known app number st (client.connect version support) k message seed e = cc e
call_known app number st (client.ping id) k message seed e = cc e
call_known app number st (client.pong id) k message seed e = cc e

one_known : (app : App) (number : ℕ) (C : List Moment) (st : State) (i : Item) (bs : List Blocking) → CanFollow app number C st i → AreOf app bs →
    AreOf app (call_by i ++ bs)
one_known app number C st (item.call k message seed) bs f rest = (call_known app number st message k message seed f.made, rest)
one_known app number C st i bs f rest = rest

calls_known : (app : App) (number : ℕ) (C : List Moment) (st : State) (items : List Item) → FitsFrom app number C st items → AreOf app (calls_in items)
calls_known app number C st [] f = tt
calls_known app number C st (i ∷ items) f = one_known app number C st i (calls_in items) f.0 (calls_known app number C (after st i) items f.1)

-- ---- the next number

or_right : (a b : Bool) → b ≡ true → (a || b) ≡ true
or_right true b e = refl
or_right false b e = e

or_left : (a b : Bool) → a ≡ true → (a || b) ≡ true
or_left true b e = refl
or_left false b e = cc e

next_by_keys : (n k : ℕ) (runs : Runs) → ((q : RunKey) → list_any (eq_by_cmp run_cmp q) (keys_of runs) ≡ true → is_before n k q ≡ true) →
    is_next n k runs ≡ true
next_by_keys n k [] f = refl
next_by_keys n k (r ∷ runs) f =
    ap₂ (λ a b. a && b) (f r.0 (or_left (eq_by_cmp run_cmp r.0 r.0) (list_any (eq_by_cmp run_cmp r.0) (keys_of runs)) (eq_by_cmp-self run_order r.0)))
    (next_by_keys n k runs (λ q e. f q (or_right (eq_by_cmp run_cmp q r.0) (list_any (eq_by_cmp run_cmp q) (keys_of runs)) e)))

some_status : (o : Option Begun) → is_some o ≡ true → is_some (option_map status_of o) ≡ true
some_status None t = cc t
some_status (Some b) t = refl

-- a number above those that are begun is the next one
next_is : (app : App) (n k : ℕ) (h : List Entry) → AreBelow k (begun_in n h) → is_next n k (held_in app h).runs ≡ true
next_is app n k h below = next_by_keys n k (held_in app h).runs (λ q e. before q.0 q.1 (is_some-at run_cmp (held_in app h).runs q ∙ e))
  where
    less : (j : ℕ) → is_some (at run_cmp (held_in app h).runs (n, j)) ≡ true → (j ≡ k) ⊎ ((j < k) ⊎ (k < j)) → nat_lt j k ≡ true
    less j t (inr (inl l)) = lt-ltb j k l
    less j t (inl e) = absurd (never j t (omega (arith, e)))
      where
        never : (j : ℕ) → is_some (at run_cmp (held_in app h).runs (n, j)) ≡ true → k ≤ j → ⊥
        never j t le = let differ : true ≡ false = sym (some_status (at run_cmp (held_in app h).runs (n, j)) t)
            ∙ (run_where_begun (programs app) h n j ∙ none_begun n k j h le below) in cc differ
    less j t (inr (inr l)) = absurd (never j t (omega (arith, l)))
      where
        never : (j : ℕ) → is_some (at run_cmp (held_in app h).runs (n, j)) ≡ true → k ≤ j → ⊥
        never j t le = let differ : true ≡ false = sym (some_status (at run_cmp (held_in app h).runs (n, j)) t)
            ∙ (run_where_begun (programs app) h n j ∙ none_begun n k j h le below) in cc differ

    before : (m j : ℕ) → is_some (at run_cmp (held_in app h).runs (m, j)) ≡ true → (not (m == n) || nat_lt j k) ≡ true
    before m j t =
        elim (m == n) as (λ b. m == n ≡ b → (not b || nat_lt j k) ≡ true) [
          | true ↦ λ e. less j (ap (λ x. is_some (at run_cmp (held_in app h).runs (x, j))) (sym (eqb-true m n e)) ∙ t) (cases_order j k)
          | false ↦ λ e. refl
        ] refl

-- ---- a call is begun

-- what is begun are the calls that stand before the one that blocks
begun_below : (app : App) (number : ℕ) (h : List Entry) (items : List Item) (b : Blocking) → (state_of items).blocking ≡ Some b →
    is_some (runs_of app number h b.k) ≡ false → IsBegun app number h items → AreBelow b.k (begun_in number h)
begun_below app number h items b e none p =
    let l = p.knows.last b e in
    let own : unrun (runs_of app number h) (state_of items).blocking ≡ b ∷ [] = ap (unrun (runs_of app number h)) e ∙ ap (λ c. cond c [] (b ∷ [])) none in
    let stands = λ (x : Blocking). not (is_refused_in items x.k) in
    let whole : begun_in number h ++ b ∷ [] ≡ filter stands l.older ++ b ∷ [] =
    ap (λ bs. begun_in number h ++ bs) (sym own)
    ∙ (p.begun ∙ (ap (filter stands) l.is ∙ (filter-append stands l.older (b ∷ []) ∙ ap (λ c. filter stands l.older ++ cond (not c) (b ∷ []) []) l.stands))) in
    subst (AreBelow b.k) (sym (cancel (begun_in number h) (filter stands l.older) b whole)) (below_filtered b.k stands l.older l.below)

-- the application has the method of a call that blocks and has no run, and the call's number is the next one
pub begin_next : (app : App) (h : List Entry) (c : Conn) (b : Blocking) → (state_in c).blocking ≡ Some b →
    is_some (runs_of app c.number h b.k) ≡ false → IsServed app h c →
    (is_some (method app b.method) ≡ true) × (is_next c.number b.k (held_in app h).runs ≡ true)
begin_next app h c b e none p =
    let l = p.begun.knows.last b e in (
      of_last app l.older b (subst (AreOf app) l.is (calls_known app c.number (moments app c.number h) started c.items p.session.fits)),
      next_is app c.number b.k h (begun_below app c.number h c.items b e none p.begun),
    )

begin_can : (app : App) (h : List Entry) (c : Conn) (b : Blocking) → (state_in c).blocking ≡ Some b → is_some (runs_of app c.number h b.k) ≡ false →
    is_refused app h b ≡ false → IsServed app h c →
    can_follow (programs app) (held_in app h) (begin_entry c.number b) ≡ true
begin_can app h c b e none room p =
    let both = begin_next app h c b e none p in
    let free : is_full (programs app) (held_in app h) b.method b.params (view (value_of b.seed)) ≡ false =
    ap (λ v. is_full (programs app) (held_in app h) b.method b.params v) (view-value_of b.seed) ∙ room in
    ap₂ (λ x y. x && y) (ap₂ (λ x y. x && y) both.0 both.1) (ap not free)

or_parts : (a b : Bool) → (a || b) ≡ false → (a ≡ false) × (b ≡ false)
or_parts true b e = cc e
or_parts false b e = (refl, e)

begun_legal : (app : App) (h : List Entry) (c : Conn) → IsLegal (programs app) h → IsServed app h c →
    IsLegal (programs app) (h ++ begun app h c.number (unbegun app h c))
begun_legal app h c l p = by (state_in c).blocking refl
  where
    idle : IsLegal (programs app) (h ++ [])
    idle = subst (IsLegal (programs app)) (sym (append-nil h)) l

    here : (b : Blocking) → (state_in c).blocking ≡ Some b → (x : Bool) → (is_some (status_in (held_in app h) c.number b.k) || is_kept b.k c.kept) ≡ x →
        IsLegal (programs app) (h ++ begun app h c.number (cond x None (Some b)))
    here b e true t = idle
    here b e false t =
        elim (is_refused app h b) as (λ y. is_refused app h b ≡ y → IsLegal (programs app) (h ++ cond y [] (begin_entry c.number b ∷ []))) [
          | true ↦ λ full. idle
          | false ↦ λ room. IsLegal-append (programs app) h (begin_entry c.number b) l
              (begin_can app h c b e (or_parts (is_some (status_in (held_in app h) c.number b.k)) (is_kept b.k c.kept) t).0 room p)
        ] refl

    by : (o : Option Blocking) → (state_in c).blocking ≡ o → IsLegal (programs app) (h ++ begun app h c.number (without_run (held_in app h) c o))
    by None e = idle
    by (Some b) e = here b e (is_some (status_in (held_in app h) c.number b.k) || is_kept b.k c.kept) refl

pub entries_legal : (app : App) (h : List Entry) (c : Conn) (a : Act) → enabled app h c a ≡ true → IsLegal (programs app) h → IsServed app h c →
    IsLegal (programs app) (h ++ entries app h c a)
entries_legal app h c act.Begin e l p = begun_legal app h c l p
entries_legal app h c (act.Step k) e l p = IsLegal-append (programs app) h (entry.Step c.number k) l e
entries_legal app h c a e l p = subst (IsLegal (programs app)) (sym (append-nil h)) l

-- ---- operations

answered : (o : Outcome Applied) → IsCoded o → by_answer o ≡ None → is_answered o ≡ true
answered (Ok a) c e = refl
answered (Err x) c e = absurd (c e)

operation_made : (w : World) (o : Option Op) → by_operation w o ≡ None → is_made (programs w.app) (held_in w.app w.history) o ≡ true
operation_made w None e = cc e
operation_made w (Some op) e =
    answered (applied_in w op) (applied_coded w.app.collections (held_in w.app w.history).rows op (room_in (held_in w.app w.history))) e

pub operation_legal : (w : World) (op : List Val) → refusal_of w op ≡ None → IsLegal (programs w.app) w.history →
    IsLegal (programs w.app) (w.history ++ entry.Admin op ∷ [])
operation_legal w op e l =
    elim (is_full_for_operation (held_in w.app w.history)) as
    (λ b. is_full_for_operation (held_in w.app w.history) ≡ b → cond b (Some 503) (by_operation w (operation_in op)) ≡ None →
    IsLegal (programs w.app) (w.history ++ entry.Admin op ∷ [])) [
      | true ↦ λ full f. absurd (cc f)
      | false ↦ λ room f. IsLegal-append (programs w.app) w.history (entry.Admin op) l
          (ap₂ (λ a b. a && b) (ap not room) (operation_made w (operation_in op) f))
    ] refl e
