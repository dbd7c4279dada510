-- Laws: The entries of a world's history are made of values: those that its clients' texts and its administrator's operations had.
use Rattle.std.specs.Prelude.{◌≡◌, ℕ, List, [], ◌∷◌, ◌++◌, true, false, cond, ◌||◌, Bool, Option, Some, None, is_some, refl}
use Rattle.std.proofs.Common.{subst}
use Rattle.value_model.specs.Val.{vals_of}
use Rattle.value_model.specs.Valid.{AreValues}
use Rattle.ddp_messages.specs.ClientMessage.{ClientMessage}
use Rattle.ddp_messages.specs.ClientMessage as client
use Rattle.ddp_messages.specs.Limits.{ClientHasValues}
use Rattle.app_model.specs.App.{App}
use Rattle.world_invariant_laws.specs.history_model.declared.entry.Entry.{Entry}
use Rattle.world_invariant_laws.specs.history_model.History.{status_in}
use Rattle.world_invariant_laws.specs.session_model.Items.{Item, params_of, handled_by, handled}
use Rattle.world_invariant_laws.specs.session_model.Items as item
use Rattle.world_invariant_laws.specs.session_model.Methods.{Blocking}
use Rattle.world_invariant_laws.specs.session_model.Taking.{Taken, at_once, to_queue, taken_text, connects, message_of, queued_from}
use Rattle.world_invariant_laws.specs.session_model.Answering.{Answers}
use Rattle.world_values_laws.specs.Values.{AreEntries}
use Rattle.world_values_laws.specs.TakenValues.{IsTaken}
use Rattle.world_values_laws.specs.TakenValuesLaws.{taken_is}
use Rattle.world_invariant_laws.specs.world_model.declared.events.Act.{Act}
use Rattle.world_invariant_laws.specs.world_model.declared.events.Act.TheVariants as act
use Rattle.world_invariant_laws.specs.world_model.Store.{held_in}
use Rattle.world_invariant_laws.specs.world_model.Conn.{Conn, state_in}
use Rattle.world_invariant_laws.specs.world_model.Acts.{without_run, unbegun, is_refused, begin_entry, begun, is_kept, entries}
use Rattle.world_invariant_laws.specs.world_model.Headline.{calls_in}
use Rattle.world_invariant_laws.specs.Session.{IsServed}
use Rattle.headline.specs.Values.{AreValued, HaveValues}

-- ---- messages

valued_first : (xs ys : List ClientMessage) → AreValued (xs ++ ys) → AreValued xs
valued_first [] ys v = tt
valued_first (x ∷ xs) ys v = (v.0, valued_first xs ys v.1)

valued_last : (xs ys : List ClientMessage) → AreValued (xs ++ ys) → AreValued ys
valued_last [] ys v = v
valued_last (x ∷ xs) ys v = valued_last xs ys v.1

one_valued : (x : Taken) (ms : List ClientMessage) → IsTaken x → AreValued ms → AreValued (message_of x ++ ms)
one_valued (at_once i) ms t v = v
one_valued (to_queue m) ms t v = (t.1.values, v)

-- the messages that wait have values
queued_valued : (connected : Bool) (ts : List (List ℕ)) → AreValued (queued_from connected ts)
queued_valued connected [] = tt
queued_valued connected (t ∷ ts) =
    let x = taken_text connected t in
    one_valued x (queued_from (connects connected x) ts) (taken_is connected t) (queued_valued (connects connected x) ts)

handled_valued : (taken : List (List ℕ)) (items : List Item) (waiting : List ClientMessage) → Answers taken items waiting → AreValued (handled items)
handled_valued taken items waiting a = valued_first (handled items) waiting (subst AreValued a.in_turn (queued_valued false taken))

-- ---- calls

params_valued : (m : ClientMessage) → ClientHasValues m → AreValues (vals_of (params_of m))
params_valued (client.sub id name params) v = v
params_valued (client.method id name params seed) v = v.0
params_valued m v = tt

calls_valued : (items : List Item) → AreValued (handled items) → HaveValues (calls_in items)
calls_valued [] v = tt
calls_valued (item.call k message seed ∷ items) v = (params_valued message v.0, calls_valued items v.1)
calls_valued (i ∷ items) v = calls_valued items (valued_last (handled_by i) (handled items) v)

last_valued : (bs : List Blocking) (b : Blocking) → HaveValues (bs ++ b ∷ []) → AreValues (vals_of b.params)
last_valued [] b v = v.0
last_valued (x ∷ bs) b v = last_valued bs b v.1

-- ---- entries

pub entries_more : (h es : List Entry) → AreEntries h → AreEntries es → AreEntries (h ++ es)
entries_more [] es p q = q
entries_more (e ∷ h) es p q = (p.0, entries_more h es p.1 q)

begun_valued : (app : App) (h : List Entry) (c : Conn) → IsServed app h c → AreEntries (begun app h c.number (unbegun app h c))
begun_valued app h c p = by (state_in c).blocking refl
  where
    here : (b : Blocking) → (state_in c).blocking ≡ Some b → (x : Bool) → AreEntries (begun app h c.number (cond x None (Some b)))
    here b e true = tt
    here b e false =
        let l = p.begun.knows.last b e in
        let value : AreValues (vals_of b.params) =
        last_valued l.older b (subst HaveValues l.is (calls_valued c.items (handled_valued c.received c.items _ p.session.answers))) in
        elim (is_refused app h b) as (λ y. AreEntries (cond y [] (begin_entry c.number b ∷ []))) [ true ↦ tt | false ↦ (value, tt) ]

    by : (o : Option Blocking) → (state_in c).blocking ≡ o → AreEntries (begun app h c.number (without_run (held_in app h) c o))
    by None e = tt
    by (Some b) e = here b e (is_some (status_in (held_in app h) c.number b.k) || is_kept b.k c.kept)

-- what an act adds to the history is made of values
pub act_valued : (app : App) (h : List Entry) (c : Conn) (a : Act) → IsServed app h c → AreEntries (entries app h c a)
act_valued app h c act.Begin p = begun_valued app h c p
act_valued app h c (act.Step k) p = (tt, tt)
act_valued app h c a p = tt
