-- Between two losses a method is said no more often than the client queued it.
use Rattle.std.specs.Prelude.{
  ◌≡◌,
  ℕ,
  ◌+◌,
  ◌≤◌,
  List,
  [],
  ◌∷◌,
  ◌++◌,
  map,
  filter,
  Bool,
  true,
  false,
  cond,
  not,
  ◌&&◌,
  ◌||◌,
  Option,
  Some,
  None,
  is_some,
  IfSome,
  Result,
  Ok,
  Err,
  codes,
  refl,
}
use Rattle.std.specs.BTreeMap.{is_at, insert_entry}
use Rattle.std.specs.Map.{lookup, remove_entry}
use Rattle.std.specs.declared.cmp.Ordering.{Ordering}
use Rattle.std.specs.declared.cmp.Ordering.TheVariants.{Less, Equal, Greater}
use Rattle.std.specs.Ordering.{nat_cmp, is_eq, match_ordering, eq_by_cmp}
use Rattle.std.proofs.Common.{ap, sym, subst, ◌∙◌, arith, true≢false}
use Rattle.std.proofs.lemmas.Map.Keys.{sorted_tail}
use Rattle.std.proofs.lemmas.Map.Lookups.{exact_bytes}
use Rattle.map_model.specs.Maps.{at, set, IsSorted}
use Rattle.map_model.specs.MapLaws.{at-set, sorted-set, at-tail, key_is, sorted-nil}
use Rattle.value_model.specs.Order.{text_cmp}
use Rattle.ejson_value.specs.Key.{name_order}
use Rattle.ddp_messages.specs.Answers.{client_answer, server_answer}
use Rattle.ddp_messages.specs.MessageLaws.{client_text_back}
use Rattle.ddp_messages.specs.declared.fault.MsgFault.{MsgFault}
use Rattle.ddp_messages.specs.ClientMessage.{ClientMessage}
use Rattle.ddp_messages.specs.ClientMessage as client
use Rattle.ddp_messages.specs.ServerMessage.{ServerMessage}
use Rattle.ddp_messages.specs.ServerMessage as server
use Rattle.reconnect_model.specs.Revival.{Wanted, Called, Revival}
use Rattle.reconnect_model.specs.Saying.{entered, called, asked, asked_by, queues, placed, in_order, sub_texts, owed, call_texts, connect_text}
use Rattle.reconnect_model.specs.Giving.{
  noted,
  answered,
  updated,
  changed_from,
  change_of,
  all_updated,
  settled,
  all_settled,
  gives,
  left_unsaid,
  updated_before,
  Heard,
  released_by,
  released,
  made_ready,
  revived,
  is_at_once,
  holds,
  is_answered,
  passed,
  revived_then,
  revived_when,
  heard_message,
  heard_unless,
  text_refusal,
  hears,
}
use Rattle.reconnect_model.specs.History.{History, Event, queued, heard, said, lost, revival_of, to_say}
use Rattle.reconnect_laws.specs.Once.{calls, is_call, one_if, calls_in, queued_in}

-- ---- what holds of each entry of a map

module _ {X : Type 0} (P : List ℕ → X → Type 0) where
  abbrev AllAre : List (List ℕ × X) → Type 0
  AllAre [] = Unit {0}
  AllAre (e ∷ m) = P e.0 e.1 × AllAre m

  all_put : (m : List (List ℕ × X)) (k : List ℕ) (v : X) → AllAre m → P k v → AllAre (insert_entry text_cmp m k v)
  all_put [] k v all one = (one, tt)
  all_put (e ∷ m) k v all one =
      let rest = all_put m k v all.1 one in
      elim (text_cmp k e.0)
      as (λ (o : Ordering). text_cmp k e.0 ≡ o → AllAre (match_ordering o ((k, v) ∷ e ∷ m) ((e.0, v) ∷ m) (e ∷ insert_entry text_cmp m k v))) [
        | Less ↦ λ is. (one, all)
        | Equal ↦ λ is. (subst (λ (n : List ℕ). P n v) (exact_bytes k e.0 is) one, all.1)
        | Greater ↦ λ is. (all.0, rest)
      ] refl

  all_remove : (test : List ℕ → Bool) (m : List (List ℕ × X)) → AllAre m → AllAre (remove_entry test m)
  all_remove test [] all = tt
  all_remove test (e ∷ m) all =
      let rest = all_remove test m all.1 in
      elim (test e.0) as (λ b. AllAre (cond b m (e ∷ remove_entry test m))) [ true ↦ all.1 | false ↦ (all.0, rest) ]

  all_found : (m : List (List ℕ × X)) (k : List ℕ) (v : X) → AllAre m → at text_cmp m k ≡ Some v → P k v
  all_found [] k v all e = absurd (cc e)
  all_found (e ∷ m) k v all found =
      let rest = all_found m k v all.1 in
      elim (text_cmp k e.0)
      as (λ (o : Ordering). text_cmp k e.0 ≡ o → cond (is_eq o) (Some e.1) (at text_cmp m k) ≡ Some v → P k v) [
        | Less ↦ λ is f. rest f
        | Equal ↦ λ is f.
            let same : e.1 ≡ v = cc f in
            subst (λ (n : List ℕ). P n v) (sym (exact_bytes k e.0 is)) (subst (P e.0) same all.0)
        | Greater ↦ λ is f. rest f
      ] refl found

  all_entered : (m : List (List ℕ × X)) (k : List ℕ) (v : X) → AllAre m → P k v → AllAre (entered m k v)
  all_entered m k v all one =
      let rest = all_put m k v all one in
      elim (is_some (at text_cmp m k)) as (λ b. AllAre (cond b m (set text_cmp m k (Some v)))) [ true ↦ all | false ↦ rest ]

-- ---- what is remembered of each text that was queued

-- no method
abbrev IsSub : List ℕ → Wanted → Type 0
IsSub k w = (id : List ℕ) → is_call id (client_answer w.text) ≡ false

-- the method of that id
abbrev IsCall : List ℕ → Called → Type 0
IsCall k c = (id : List ℕ) → is_call id (client_answer c.text) ≡ is_at (text_cmp id) k

record Remembers (r : Revival) (count : List ℕ → ℕ) : Type 0 where
  subs : AllAre IsSub r.subs
  calls : AllAre IsCall r.calls
  sorted : IsSorted text_cmp r.calls
  few : (id : List ℕ) → one_if (is_some (at text_cmp r.calls id)) ≤ count id

-- a further text was queued
abbrev with_text : List ℕ → (List ℕ → ℕ) → List ℕ → ℕ
with_text text count id = one_if (is_call id (client_answer text)) + count id

few_set : (m : List (List ℕ × Called)) (k id : List ℕ) (w : Option Called) (n extra : ℕ) → IsSorted text_cmp m → one_if (is_some (at text_cmp m id)) ≤ n →
    (eq_by_cmp text_cmp id k ≡ true → one_if (is_some w) ≤ extra + n) → one_if (is_some (at text_cmp (set text_cmp m k w) id)) ≤ extra + n
few_set m k id w n extra sorted before here =
    subst (λ (o : Option Called). one_if (is_some o) ≤ extra + n) (sym (at-set name_order m k w id sorted))
    (elim (eq_by_cmp text_cmp id k) as (λ b. eq_by_cmp text_cmp id k ≡ b → one_if (is_some (cond b w (at text_cmp m id))) ≤ extra + n)
    [ true ↦ here | false ↦ λ t. omega (arith, before) ] refl)

one_more : (b : Bool) (n : ℕ) → b ≡ true → 1 ≤ one_if b + n
one_more true n e = omega arith
one_more false n e = absurd (true≢false (sym e))

method_asked : (r : Revival) (text id name : List ℕ) (count : List ℕ → ℕ) → Remembers r count → is_call id (client_answer text) ≡ is_at (text_cmp id) name →
    one_if (is_some (at text_cmp (entered r.calls name (called r.queued text)) id)) ≤ with_text text count id
method_asked r text id name count w is =
    let before = w.few id in
    let extra = one_if (is_call id (client_answer text)) in
    elim (is_some (at text_cmp r.calls name))
    as (λ b. one_if (is_some (at text_cmp (cond b r.calls (set text_cmp r.calls name (Some (called r.queued text)))) id)) ≤ extra + count id) [
      | true ↦ omega (arith, before)
      | false ↦ few_set r.calls name id (Some (called r.queued text)) (count id) extra w.sorted before
          (λ t. one_more (is_call id (client_answer text)) (count id) (is ∙ t))
    ]

sorted_entered : (m : List (List ℕ × Called)) (k : List ℕ) (c : Called) → IsSorted text_cmp m → IsSorted text_cmp (entered m k c)
sorted_entered m k c s =
    let rest = sorted-set name_order m k (Some c) s in
    elim (is_some (at text_cmp m k)) as (λ b. IsSorted text_cmp (cond b m (set text_cmp m k (Some c)))) [ true ↦ s | false ↦ rest ]

still_few : (text : List ℕ) (count : List ℕ → ℕ) (r : Revival) → Remembers r count → (id : List ℕ) →
    one_if (is_some (at text_cmp r.calls id)) ≤ with_text text count id
still_few text count r w id = let before = w.few id in omega (arith, before)

asked_remembers : (r : Revival) (text : List ℕ) (m : ClientMessage) (count : List ℕ → ℕ) → client_answer text ≡ Ok m → Remembers r count →
    Remembers (asked r text m) (with_text text count)
asked_remembers r text (client.sub id name params) count e w = record {
  subs = all_entered IsSub r.subs id (record { place = r.queued; text = text }) w.subs (λ other. ap (is_call other) e);
  calls = w.calls;
  sorted = w.sorted;
  few = still_few text count r w;
}
asked_remembers r text (client.unsub id) count e w = record {
  subs = all_remove IsSub (is_at (text_cmp id)) r.subs w.subs;
  calls = w.calls;
  sorted = w.sorted;
  few = still_few text count r w;
}
asked_remembers r text (client.method name method params seed) count e w = record {
  subs = w.subs;
  calls = all_entered IsCall r.calls name (called r.queued text) w.calls (λ id. ap (is_call id) e);
  sorted = sorted_entered r.calls name (called r.queued text) w.sorted;
  few = λ id. method_asked r text id name count w (ap (is_call id) e);
}
asked_remembers r text _ count e w = record { subs = w.subs; calls = w.calls; sorted = w.sorted; few = still_few text count r w }

asked_by-remembers : (r : Revival) (text : List ℕ) (answer : Result ClientMessage MsgFault) (count : List ℕ → ℕ) → client_answer text ≡ answer →
    Remembers r count →
    Remembers (asked_by r text answer) (with_text text count)
asked_by-remembers r text (Ok m) count e w = asked_remembers r text m count e w
asked_by-remembers r text (Err fault) count e w = record { subs = w.subs; calls = w.calls; sorted = w.sorted; few = still_few text count r w }

queues_remembers : (r : Revival) (text : List ℕ) (count : List ℕ → ℕ) → Remembers r count → Remembers (queues r text) (with_text text count)
queues_remembers r text count w =
    let a = asked_by-remembers r text (client_answer text) count refl w in
    record { subs = a.subs; calls = a.calls; sorted = a.sorted; few = a.few }

-- ---- answers

-- the change keeps the text
abbrev KeepsText : (Called → Option Called) → Type 0
KeepsText f = (k : List ℕ) (c : Called) → IsCall k c → IfSome (f c) (IsCall k)

answered_keeps : KeepsText answered
answered_keeps k c is =
    elim c.is_updated as (λ b. IfSome (cond b None (Some (record c { is_answered = true }))) (IsCall k)) [ true ↦ tt | false ↦ is ]

updated_keeps : KeepsText updated
updated_keeps k c is =
    elim c.is_answered as (λ b. IfSome (cond b None (Some (record c { is_updated = true }))) (IsCall k)) [ true ↦ tt | false ↦ is ]

all_set : (m : List (List ℕ × Called)) (k : List ℕ) (w : Option Called) → AllAre IsCall m → IfSome w (IsCall k) → AllAre IsCall (set text_cmp m k w)
all_set m k None all one = all_remove IsCall (is_at (text_cmp k)) m all
all_set m k (Some c) all one = all_put IsCall m k c all one

record RemembersCalls (calls : List (List ℕ × Called)) (count : List ℕ → ℕ) : Type 0 where
  texts : AllAre IsCall calls
  sorted : IsSorted text_cmp calls
  few : (id : List ℕ) → one_if (is_some (at text_cmp calls id)) ≤ count id

there : (m : List (List ℕ × Called)) (k id : List ℕ) (c : Called) (n : ℕ) → at text_cmp m k ≡ Some c → one_if (is_some (at text_cmp m id)) ≤ n →
    eq_by_cmp text_cmp id k ≡ true → 1 ≤ n
there m k id c n found before t =
    let same : id ≡ k = key_is name_order id k t in
    let is : one_if (is_some (at text_cmp m id)) ≡ 1 = ap (λ q. one_if (is_some (at text_cmp m q))) same
    ∙ ap (λ (o : Option Called). one_if (is_some o)) found in
    omega (arith, before, is)

at_most_one : (w : Option Called) (n : ℕ) → 1 ≤ n → one_if (is_some w) ≤ 0 + n
at_most_one None n one = omega arith
at_most_one (Some c) n one = omega (arith, one)

changed_remembers : (f : Called → Option Called) → KeepsText f → (k : List ℕ) (calls : List (List ℕ × Called)) (o : Option Called) (count : List ℕ → ℕ) →
    at text_cmp calls k ≡ o → RemembersCalls calls count → RemembersCalls (changed_from f k calls o) count
changed_remembers f keeps k calls None count found w = w
changed_remembers f keeps k calls (Some c) count found w = record {
  texts = all_set calls k (f c) w.texts (keeps k c (all_found IsCall calls k c w.texts found));
  sorted = sorted-set name_order calls k (f c) w.sorted;
  few = λ id.
      let before = w.few id in
      let now = few_set calls k id (f c) (count id) 0 w.sorted before (λ t. at_most_one (f c) (count id) (there calls k id c (count id) found before t)) in
      omega (arith, now);
}

all_updated-remember : (ids : List (List ℕ)) (calls : List (List ℕ × Called)) (count : List ℕ → ℕ) → RemembersCalls calls count →
    RemembersCalls (all_updated ids calls) count
all_updated-remember [] calls count w = w
all_updated-remember (id ∷ ids) calls count w =
    all_updated-remember ids (change_of updated id calls) count (changed_remembers updated updated_keeps id calls (at text_cmp calls id) count refl w)

calls_of : (r : Revival) (count : List ℕ → ℕ) → Remembers r count → RemembersCalls r.calls count
calls_of r count w = record { texts = w.calls; sorted = w.sorted; few = w.few }

settled_remembers : (r : Revival) (m : ServerMessage) (count : List ℕ → ℕ) → Remembers r count → Remembers (settled r m) count
settled_remembers r (server.nosub id fault) count w =
    record { subs = all_remove IsSub (is_at (text_cmp id)) r.subs w.subs; calls = w.calls; sorted = w.sorted; few = w.few }
settled_remembers r (server.finished id fault value) count w =
    let c = changed_remembers answered answered_keeps id r.calls (at text_cmp r.calls id) count refl (calls_of r count w) in
    record { subs = w.subs; calls = c.texts; sorted = c.sorted; few = c.few }
settled_remembers r (server.updated ids) count w =
    let c = all_updated-remember ids r.calls count (calls_of r count w) in
    record { subs = w.subs; calls = c.texts; sorted = c.sorted; few = c.few }
settled_remembers r _ count w = record { subs = w.subs; calls = w.calls; sorted = w.sorted; few = w.few }

all_settled-remember : (r : Revival) (ms : List ServerMessage) (count : List ℕ → ℕ) → Remembers r count → Remembers (all_settled r ms) count
all_settled-remember r [] count w = w
all_settled-remember r (m ∷ ms) count w = all_settled-remember (settled r m) ms count (settled_remembers r m count w)

released_by-remembers : (before : List (List ℕ)) (r : Revival) (text : List ℕ) (answer : Result ServerMessage MsgFault) (count : List ℕ → ℕ) →
    Remembers r count →
    Remembers (released_by before r text answer).revival count
released_by-remembers before r text (Ok m) count w = settled_remembers r m count w
released_by-remembers before r text (Err fault) count w = w

released_remembers : (before : List (List ℕ)) (r : Revival) (held : List (List ℕ)) (count : List ℕ → ℕ) → Remembers r count →
    Remembers (released before r held).revival count
released_remembers before r [] count w = w
released_remembers before r (text ∷ held) count w =
    let first = (released_by before r text (server_answer text)).revival in
    released_remembers before first held count (released_by-remembers before r text (server_answer text) count w)

revived_remembers : (r : Revival) (count : List ℕ → ℕ) → Remembers r count → Remembers (revived r).revival count
revived_remembers r count w =
    let ready : Remembers (made_ready r) count = record { subs = w.subs; calls = w.calls; sorted = w.sorted; few = w.few } in
    released_remembers (updated_before r.calls) (all_settled (made_ready r) (left_unsaid r)) r.held count
    (all_settled-remember (made_ready r) (left_unsaid r) count ready)

passed_remembers : (r : Revival) (text : List ℕ) (m : ServerMessage) (count : List ℕ → ℕ) → Remembers r count → Remembers (passed r text m).revival count
passed_remembers r text m count w =
    let s = settled_remembers r m count w in
    elim (r.is_revived || is_at_once r.is_known m)
    as (λ b. Remembers (cond b (let h : Heard = record { revival = gives r m; texts = text ∷ [] } in h)
    (record { revival = holds r text m; texts = [] })).revival count) [
      | true ↦ record { subs = s.subs; calls = s.calls; sorted = s.sorted; few = s.few }
      | false ↦ record { subs = w.subs; calls = w.calls; sorted = w.sorted; few = w.few }
    ]

when_remembers : (h : Heard) (count : List ℕ → ℕ) → Remembers h.revival count → Remembers (revived_when h).revival count
when_remembers h count w =
    elim (not h.revival.is_revived && is_answered h.revival)
    as (λ b. Remembers (cond b (revived_then h) h).revival count)
    [ true ↦ revived_remembers h.revival count w | false ↦ w ]

message_remembers : (r : Revival) (text : List ℕ) (answer : Result ServerMessage MsgFault) (count : List ℕ → ℕ) → Remembers r count →
    Remembers (heard_message r text answer).revival count
message_remembers r text (Ok m) count w =
    let n : Remembers (noted r m) count = record { subs = w.subs; calls = w.calls; sorted = w.sorted; few = w.few } in
    when_remembers (passed (noted r m) text m) count (passed_remembers (noted r m) text m count n)
message_remembers r text (Err fault) count w = w

unless_remembers : (r : Revival) (text : List ℕ) (n : Option ℕ) (count : List ℕ → ℕ) → Remembers r count → Remembers (heard_unless r text n).revival count
unless_remembers r text None count w = message_remembers r text (server_answer text) count w
unless_remembers r text (Some n) count w = record { subs = w.subs; calls = w.calls; sorted = w.sorted; few = w.few }

hears_remembers : (r : Revival) (text : List ℕ) (count : List ℕ → ℕ) → Remembers r count → Remembers (hears r text).revival count
hears_remembers r text count w =
    elim (is_some r.broken)
    as (λ b. Remembers (cond b (let h : Heard = record { revival = r; texts = [] } in h) (heard_unless r text (text_refusal r text))).revival count)
    [ true ↦ w | false ↦ unless_remembers r text (text_refusal r text) count w ]

remembered : (past : History) → Remembers (revival_of past) (λ id. queued_in id past)
remembered [] = record { subs = tt; calls = tt; sorted = sorted-nil text_cmp; few = λ id. omega arith }
remembered (queued text ∷ past) = queues_remembers (revival_of past) text (λ id. queued_in id past) (remembered past)
remembered (heard text ∷ past) = hears_remembers (revival_of past) text (λ id. queued_in id past) (remembered past)
remembered (said ∷ past) =
    let w = remembered past in
    record { subs = w.subs; calls = w.calls; sorted = w.sorted; few = w.few }
remembered (lost ∷ past) =
    let w = remembered past in
    record { subs = w.subs; calls = w.calls; sorted = w.sorted; few = w.few }

-- ---- the texts that are said again

append_calls : (id : List ℕ) (xs ys : List (List ℕ)) → calls_in id (xs ++ ys) ≡ calls_in id xs + calls_in id ys
append_calls id [] ys = omega arith
append_calls id (x ∷ xs) ys = let rest = append_calls id xs ys in omega (arith, rest)

place_calls : (id : List ℕ) (m : List (ℕ × List ℕ)) (n : ℕ) (text : List ℕ) →
    calls_in id (map (λ (e : ℕ × List ℕ). e.1) (insert_entry nat_cmp m n text))
    ≤ one_if (is_call id (client_answer text)) + calls_in id (map (λ (e : ℕ × List ℕ). e.1) m)
place_calls id [] n text = omega arith
place_calls id (e ∷ m) n text =
    let rest = place_calls id m n text in
    elim (nat_cmp n e.0)
    as (λ (o : Ordering).
    calls_in id (map (λ (e : ℕ × List ℕ). e.1) (match_ordering o ((n, text) ∷ e ∷ m) ((e.0, text) ∷ m) (e ∷ insert_entry nat_cmp m n text))) ≤
    one_if (is_call id (client_answer text)) + calls_in id (map (λ (e : ℕ × List ℕ). e.1) (e ∷ m)))
    [ Less ↦ omega arith | Equal ↦ omega arith | Greater ↦ omega (arith, rest) ]

placed_calls : (id : List ℕ) (m entries : List (ℕ × List ℕ)) →
    calls_in id (map (λ (e : ℕ × List ℕ). e.1) (placed m entries))
    ≤ calls_in id (map (λ (e : ℕ × List ℕ). e.1) m) + calls_in id (map (λ (e : ℕ × List ℕ). e.1) entries)
placed_calls id m [] = omega arith
placed_calls id m (e ∷ entries) =
    let rest = placed_calls id (insert_entry nat_cmp m e.0 e.1) entries in
    let one = place_calls id m e.0 e.1 in
    omega (arith, rest, one)

ordered_calls : (id : List ℕ) (entries : List (ℕ × List ℕ)) → calls_in id (in_order entries) ≤ calls_in id (map (λ (e : ℕ × List ℕ). e.1) entries)
ordered_calls id entries = let all = placed_calls id [] entries in omega (arith, all)

no_call : (id : List ℕ) (subs : List (List ℕ × Wanted)) → AllAre IsSub subs →
    calls_in id (map (λ (e : ℕ × List ℕ). e.1) (map (λ (e : List ℕ × Wanted). (e.1.place, e.1.text)) subs)) ≡ 0
no_call id [] all = refl
no_call id (e ∷ subs) all =
    let rest = no_call id subs all.1 in
    let one : one_if (is_call id (client_answer e.1.text)) ≡ 0 = ap one_if (all.0 id) in
    omega (arith, rest, one)

-- how many of the methods have this id
abbrev entries_in : List ℕ → List (List ℕ × Called) → ℕ
entries_in id [] = 0
entries_in id (e ∷ m) = one_if (is_at (text_cmp id) e.0) + entries_in id m

owed_calls : (id : List ℕ) (m : List (List ℕ × Called)) → AllAre IsCall m →
    calls_in id (map (λ (e : ℕ × List ℕ). e.1) (map (λ (e : List ℕ × Called). (e.1.place, e.1.text)) (owed m))) ≤ entries_in id m
owed_calls id [] all = omega arith
owed_calls id (e ∷ m) all =
    let rest = owed_calls id m all.1 in
    let one : one_if (is_call id (client_answer e.1.text)) ≡ one_if (is_at (text_cmp id) e.0) = ap one_if (all.0 id) in
    elim (not e.1.is_answered)
    as (λ b. calls_in id (map (λ (e : ℕ × List ℕ). e.1) (map (λ (e : List ℕ × Called). (e.1.place, e.1.text)) (cond b (e ∷ owed m) (owed m))))
    ≤ entries_in id (e ∷ m))
    [ true ↦ omega (arith, rest, one) | false ↦ omega (arith, rest) ]

one_entry : (id : List ℕ) (m : List (List ℕ × Called)) → IsSorted text_cmp m → entries_in id m ≤ one_if (is_some (at text_cmp m id))
one_entry id [] s = omega arith
one_entry id (e ∷ m) s =
    let rest = one_entry id m (sorted_tail text_cmp _ _ s) in
    elim (is_at (text_cmp id) e.0)
    as (λ b. is_at (text_cmp id) e.0 ≡ b → one_if b + entries_in id m ≤ one_if (is_some (cond b (Some e.1) (at text_cmp m id)))) [
      | true ↦ λ t.
          let none : one_if (is_some (at text_cmp m id)) ≡ 0 = ap (λ (o : Option Called). one_if (is_some o)) (at-tail name_order e m id s t) in
          omega (arith, rest, none)
      | false ↦ λ t. omega (arith, rest)
    ] refl

connect_back : client_answer connect_text ≡ Ok (client.connect (codes "1") (Some (codes "1" ∷ [])))
connect_back = client_text_back (client.connect (codes "1") (Some (codes "1" ∷ []))) tt tt

-- what is said again has a method at most once
said_again : (id : List ℕ) (r : Revival) (count : List ℕ → ℕ) → Remembers r count →
    calls_in id (connect_text ∷ sub_texts r.subs ++ call_texts r.calls) ≤ count id
said_again id r count w =
    let first : one_if (is_call id (client_answer connect_text)) ≡ 0 = ap (λ answer. one_if (is_call id answer)) connect_back in
    let subs = ordered_calls id (map (λ (e : List ℕ × Wanted). (e.1.place, e.1.text)) r.subs) in
    let none = no_call id r.subs w.subs in
    let calls = ordered_calls id (map (λ (e : List ℕ × Called). (e.1.place, e.1.text)) (owed r.calls)) in
    let owed = owed_calls id r.calls w.calls in
    let one = one_entry id r.calls w.sorted in
    let few = w.few id in
    let both = append_calls id (connect_text ∷ sub_texts r.subs) (call_texts r.calls) in
    omega (arith, first, subs, none, calls, owed, one, few, both)

pub said_once : (past : History) (id : List ℕ) → calls_in id (to_say past) ≤ queued_in id past
said_once [] id = omega arith
said_once (queued text ∷ past) id =
    let rest = said_once past id in
    let both = append_calls id (to_say past) (text ∷ []) in
    omega (arith, rest, both)
said_once (heard text ∷ past) id = said_once past id
said_once (said ∷ past) id = said_once past id
said_once (lost ∷ past) id = said_again id (revival_of past) (λ i. queued_in i past) (remembered past)
