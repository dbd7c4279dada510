-- Laws: In a session at rest each method that was asked for was handled, and told `updated`.
use Rattle.std.specs.Prelude.{◌≡◌, ◌⊎◌, ℕ, zero, suc, ◌<◌, ◌≤◌, List, [], ◌∷◌, ◌++◌, length, decimal, slice_get, Bool, true, false, cond, not, ◌&&◌}
use Rattle.std.specs.Prelude.{Option, Some, None, Ok, Err, is_some, option_and_then, if◌then◌else◌, refl}
use Rattle.std.proofs.Common.{ap, sym, subst, ◌∙◌, arith, inl, inr}
use Rattle.std.proofs.lemmas.Bool.{and_parts, le-leb, cases_order}
use Rattle.value_model.specs.Size.{is_name}
use Rattle.ddp_messages.specs.ClientMessage.{ClientMessage}
use Rattle.ddp_messages.specs.ClientMessage as client
use Rattle.program_steps.specs.declared.outcome.Status.{Status}
use Rattle.program_steps.specs.Runs.{End}
use Rattle.app_model.specs.App.{App, method}
use Rattle.client_model.specs.Client.{Call}
use Rattle.client_model.specs.Taking.{number_of}
use Rattle.headline.specs.session_model.declared.fault.SubFault.TheVariants as fault
use Rattle.headline.specs.session_model.Publication.{Making, making}
use Rattle.headline.specs.session_model.Items.{Item, id_of, handled_by, handled}
use Rattle.headline.specs.session_model.Items as item
use Rattle.headline.specs.session_model.Subscriptions.{Live, sub_named, is_crowded, past, is_open}
use Rattle.headline.specs.session_model.Methods.{Phase, running, refused, finished, told, Method, turned, fired, fire}
use Rattle.headline.specs.session_model.State.{State, started, own_after, after, state_from, state_of}
use Rattle.headline.specs.session_model.Moments.{Moment, moment_at, run_of, end_at}
use Rattle.headline.specs.session_model.Fits.{seed_or, opened_by, closed_by, item_for, CanFollow, FitsFrom, Fits}
use Rattle.headline.specs.session_model.Counting.{one_if, method_by, methods_handled, is_running, is_armed, number_in}
use Rattle.headline.specs.session_journal_laws_for_proofs.Fences.{IsShut, AreShut}
use Rattle.headline.specs.session_journal_laws_for_proofs.FencesLaws.{after_shut}
use Rattle.headline.specs.world_model.Headline.{AreAtEnd, have_ended, are_updated}
use Rattle.headline.specs.Known.{method_in, methods_in}
use Rattle.headline.specs.AskedLaws.{methods-append}
use Rattle.headline.specs.Calls.{has_update}
use Rattle.headline.specs.CallsLaws.{name_self}
use Rattle.headline.specs.Counts.{AreEarly, IsEarly}

-- ---- what was handled

opened_by_none : (m : ClientMessage) (made : Making) (n : ℕ) (i : Item) (id : List ℕ) → opened_by n m made ≡ i → method_by id i ≡ 0
opened_by_none m (Ok cursors) n i id e = ap (method_by id) (sym e)
opened_by_none m (Err x) n i id e = ap (method_by id) (sym e)

closed_by_none : (m : ClientMessage) (o : Option ℕ) (i : Item) (id : List ℕ) → closed_by m o ≡ i → method_by id i ≡ 0
closed_by_none m None i id e = ap (method_by id) (sym e)
closed_by_none m (Some s) i id e = ap (method_by id) (sym e)

-- a method has an item of its own
item_counts : (app : App) (number : ℕ) (st : State) (m : ClientMessage) (i : Item) (id : List ℕ) → item_for app number st m ≡ i →
    method_by id i ≡ method_in id m
item_counts app number st (client.method x name params s) i id e =
    let m = client.method x name params s in
    elim (is_some (method app name)) as
    (λ b. cond b (item.call (length st.methods) m (seed_or number (length st.methods) s)) (item.unknown m) ≡ i → method_by id i ≡ one_if (is_name id x)) [
      | true ↦ λ f. ap (method_by id) (sym f)
      | false ↦ λ f. ap (method_by id) (sym f)
    ] e
item_counts app number st (client.sub x name params) i id e =
    let m = client.sub x name params in
    elim (is_some (sub_named x st.subs)) as
    (λ b. cond b (item.same m) (cond (is_crowded st.subs) (item.nosub m (Some fault.TooMany)) (opened_by st.opened m (making app name params))) ≡ i →
    method_by id i ≡ 0) [
      | true ↦ λ f. ap (method_by id) (sym f)
      | false ↦ elim (is_crowded st.subs) as
          (λ b. cond b (item.nosub m (Some fault.TooMany)) (opened_by st.opened m (making app name params)) ≡ i → method_by id i ≡ 0) [
            | true ↦ λ f. ap (method_by id) (sym f)
            | false ↦ λ f. opened_by_none m (making app name params) st.opened i id f
          ]
    ] e
item_counts app number st (client.unsub x) i id e = closed_by_none (client.unsub x) (sub_named x st.subs) i id e
item_counts app number st (client.connect version support) i id e = ap (method_by id) (sym e)
item_counts app number st (client.ping x) i id e = ap (method_by id) (sym e)
item_counts app number st (client.pong x) i id e = ap (method_by id) (sym e)

one_counts : (app : App) (number : ℕ) (C : List Moment) (st : State) (i : Item) (id : List ℕ) → CanFollow app number C st i →
    method_by id i ≡ methods_in id (handled_by i)
one_counts app number C st (item.subscribe s message cursors) id f =
    omega (arith, item_counts app number st message (item.subscribe s message cursors) id f.made)
one_counts app number C st (item.same message) id f = omega (arith, item_counts app number st message (item.same message) id f.made)
one_counts app number C st (item.nosub message e) id f = omega (arith, item_counts app number st message (item.nosub message e) id f.made)
one_counts app number C st (item.close s message) id f = omega (arith, item_counts app number st message (item.close s message) id f.made)
one_counts app number C st (item.call k message seed) id f = omega (arith, item_counts app number st message (item.call k message seed) id f.made)
one_counts app number C st (item.unknown message) id f = omega (arith, item_counts app number st message (item.unknown message) id f.made)
one_counts app number C st i id f = refl

handled_from : (app : App) (number : ℕ) (C : List Moment) (st : State) (items : List Item) (id : List ℕ) → FitsFrom app number C st items →
    methods_handled id items ≡ methods_in id (handled items)
handled_from app number C st [] id f = refl
handled_from app number C st (i ∷ items) id f =
    omega (arith, one_counts app number C st i id f.0, handled_from app number C (after st i) items id f.1, methods-append id (handled_by i) (handled items))

-- each method was handled as one
pub handled_exactly : (app : App) (number : ℕ) (C : List Moment) (items : List Item) (id : List ℕ) → Fits app number C items →
    methods_handled id items ≡ methods_in id (handled items)
handled_exactly app number C items id f = handled_from app number C started items id f

-- ---- places at which methods finished

early_more : (n : ℕ) (ms : List Method) (m : Method) → AreEarly n ms → IsEarly n m.phase → AreEarly n (ms ++ m ∷ [])
early_more n [] m p one = (one, tt)
early_more n (x ∷ ms) m p one = (p.0, early_more n ms m p.1 one)

early_turned : (n k : ℕ) (q : Phase) (ms : List Method) → IsEarly n q → AreEarly n ms → AreEarly n (turned k q ms)
early_turned n k q [] one p = tt
early_turned n zero q (m ∷ ms) one p = (one, p.1)
early_turned n (suc k) q (m ∷ ms) one p = (p.0, early_turned n k q ms one p.1)

early_fired : (n : ℕ) (ls : List Live) (q : Phase) → IsEarly n q → IsEarly n (fired ls q)
early_fired n ls (finished place) p = elim (is_open place ls) as (λ b. IsEarly n (cond b (told place) (finished place))) [ true ↦ tt | false ↦ p ]
early_fired n ls running p = tt
early_fired n ls refused p = tt
early_fired n ls (told place) p = tt

early_fire : (n : ℕ) (ls : List Live) (ms : List Method) → AreEarly n ms → AreEarly n (fire ls ms)
early_fire n ls [] p = tt
early_fire n ls (m ∷ ms) p = (early_fired n ls m.phase p.0, early_fire n ls ms p.1)

moment_within : (C : List Moment) (place : ℕ) (m : Moment) → moment_at C place ≡ Some m → place < length C
moment_within [] place m e = cc e
moment_within (x ∷ C) zero m e = omega arith
moment_within (x ∷ C) (suc place) m e = omega (arith, moment_within C place m e)

end_within : (C : List Moment) (place k : ℕ) (end : End) → end_at C place k ≡ Some end → place < length C
end_within C place k end e = by (moment_at C place) refl e
  where
    by : (o : Option Moment) → moment_at C place ≡ o → option_and_then (λ (s : Status). s.ended) (run_of k o) ≡ Some end → place < length C
    by None is f = cc f
    by (Some m) is f = moment_within C place m is

own_early : (app : App) (number : ℕ) (C : List Moment) (st : State) (i : Item) → CanFollow app number C st i → AreEarly (length C) st.methods →
    AreEarly (length C) (own_after st i).methods
own_early app number C st (item.call k message seed) f p = early_more (length C) st.methods (record { id = id_of message; phase = running }) p tt
own_early app number C st (item.refused k place) f p = early_turned (length C) k refused st.methods tt p
own_early app number C st (item.finished k place) f p = early_turned (length C) k (finished place) st.methods (end_within C place k f.1.end f.1.is) p
own_early app number C st i f p = p

early_from : (app : App) (number : ℕ) (C : List Moment) (st : State) (items : List Item) → FitsFrom app number C st items →
    AreEarly (length C) st.methods → AreEarly (length C) (state_from st items).methods
early_from app number C st [] f p = p
early_from app number C st (i ∷ items) f p =
    let own = own_after st i in early_from app number C (after st i) items f.1 (early_fire (length C) own.subs own.methods (own_early app number C st i f.0 p))

shut_from : (st : State) (items : List Item) → AreShut st.subs st.methods → AreShut (state_from st items).subs (state_from st items).methods
shut_from st [] p = p
shut_from st (i ∷ items) p = shut_from (after st i) items (after_shut st i)

-- ---- no method waits for the documents

at_end_open : (entries place : ℕ) (ls : List Live) → place ≤ entries → AreAtEnd entries ls → is_open place ls ≡ true
at_end_open entries place [] le p = refl
at_end_open entries place (l ∷ ls) le p =
    ap (λ o. past place o && is_open place ls) p.0 ∙ (ap (λ b. b && is_open place ls) (le-leb place entries le) ∙ at_end_open entries place ls le p.1)

unarmed : (entries : ℕ) (ls : List Live) (p : Phase) → AreAtEnd entries ls → IsEarly (suc entries) p → IsShut ls p → is_armed p ≡ false
unarmed entries ls (finished place) end early shut =
    let differ : true ≡ false = sym (at_end_open entries place ls (omega (arith, early)) end) ∙ shut in cc differ
unarmed entries ls running end early shut = refl
unarmed entries ls refused end early shut = refl
unarmed entries ls (told place) end early shut = refl

none_armed : (id : List ℕ) (entries : ℕ) (ls : List Live) (ms : List Method) → AreAtEnd entries ls → AreEarly (suc entries) ms → AreShut ls ms →
    number_in is_armed id ms ≡ 0
none_armed id entries ls [] end early shut = refl
none_armed id entries ls (m ∷ ms) end early shut =
    omega (
      arith,
      ap (λ b. if b then one_if (is_name id m.id) else 0) (unarmed entries ls m.phase end early.0 shut.0),
      none_armed id entries ls ms end early.1 shut.1,
    )

-- once each live subscription is at the end of the history
pub none_waits : (app : App) (number : ℕ) (C : List Moment) (items : List Item) (id : List ℕ) (entries : ℕ) → Fits app number C items →
    length C ≡ suc entries → AreAtEnd entries (state_of items).subs → number_in is_armed id (state_of items).methods ≡ 0
none_waits app number C items id entries f many end =
    none_armed id entries (state_of items).subs (state_of items).methods end (early many (early_from app number C started items f tt))
    (shut_from started items tt)
  where
    early : {n m : ℕ} → n ≡ m → AreEarly n (state_of items).methods → AreEarly m (state_of items).methods
    early {n} {m} e p = subst (λ k. AreEarly k (state_of items).methods) e p

not_true : (b : Bool) → not b ≡ true → b ≡ false
not_true true e = cc e
not_true false e = refl

pub none_runs : (id : List ℕ) (ms : List Method) → have_ended ms ≡ true → number_in is_running id ms ≡ 0
none_runs id [] e = refl
none_runs id (m ∷ ms) e =
    let parts = and_parts (not (is_running m.phase)) (have_ended ms) e in
    omega (arith, ap (λ b. if b then one_if (is_name id m.id) else 0) (not_true (is_running m.phase) parts.0), none_runs id ms parts.1)

-- ---- the numbers of calls

-- a call's number is among the numbers of calls
pub number_there : (count n : ℕ) → n < count → is_some (number_of count (decimal (suc n))) ≡ true
number_there zero n less = absurd (omega (arith, less))
number_there (suc c) n less =
    let rest = number_there c n in
    elim (is_name (decimal (suc n)) (decimal (suc c))) as
    (λ b. is_name (decimal (suc n)) (decimal (suc c)) ≡ b → is_some (cond b (Some (suc c)) (number_of c (decimal (suc n)))) ≡ true) [
      | true ↦ λ e. refl
      | false ↦ λ e. rest (below e)
    ] refl
  where
    below : is_name (decimal (suc n)) (decimal (suc c)) ≡ false → n < c
    below e = by (cases_order n c)
      where
        by : (n ≡ c) ⊎ ((n < c) ⊎ (c < n)) → n < c
        by (inl same) = let differ : true ≡ false = sym (name_self (decimal (suc n)) (decimal (suc c)) (ap (λ k. decimal (suc k)) same)) ∙ e in cc differ
        by (inr (inl l)) = l
        by (inr (inr more)) = absurd (omega (arith, less, more))

-- calls of which each has its `updated` are all updated
pub all_updated : (calls : List Call) → ((n : ℕ) → n < length calls → has_update (slice_get calls n) ≡ 1) → are_updated calls ≡ true
all_updated [] all = refl
all_updated (call ∷ calls) all = ap (λ b. b && are_updated calls) (own call.is_updated (all 0 (omega arith)))
    ∙ all_updated calls (λ n less. all (suc n) (omega (arith, less)))
  where
    own : (b : Bool) → one_if b ≡ 1 → b ≡ true
    own true e = refl
    own false e = absurd (omega (arith, e))
