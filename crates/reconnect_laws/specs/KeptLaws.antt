-- Whatever a revived client queues, says, hears and loses, it keeps to documents and ids that messages can hold; and the texts that
-- its client is given for a text lead from the documents that it was given to those that it has been given then.
use Rattle.std.specs.Prelude.{
  ◌≡◌,
  ℕ,
  length,
  List,
  [],
  ◌∷◌,
  ◌++◌,
  map,
  filter,
  Bool,
  true,
  false,
  cond,
  not,
  ◌&&◌,
  ◌||◌,
  ◌==◌,
  nat_lt,
  Option,
  Some,
  None,
  is_some,
  Result,
  Ok,
  Err,
  refl,
}
use Rattle.std.specs.Map.{keys_of, remove_entry}
use Rattle.std.specs.BTreeMap.{is_at, insert_entry}
use Rattle.std.specs.declared.cmp.Ordering.{Ordering}
use Rattle.std.specs.declared.cmp.Ordering.TheVariants.{Less, Equal, Greater}
use Rattle.std.specs.Ordering.{nat_cmp, match_ordering}
use Rattle.std.proofs.Common.{ap, sym, subst, ◌∙◌, true≢false}
use Rattle.std.proofs.lemmas.List.{map-append}
use Rattle.map_model.specs.Maps.{at, set}
use Rattle.map_model.specs.MapLaws.{sorted-nil}
use Rattle.map_model.specs.Differences.{Step, diff}
use Rattle.value_model.specs.Val.{Val}
use Rattle.value_model.specs.Order.{text_cmp}
use Rattle.ejson_value.specs.declared.key.Key.{Key}
use Rattle.ejson_value.specs.Key.{key_cmp}
use Rattle.ejson_value.specs.Rows.{Rows}
use Rattle.ddp_messages.specs.Limits.{IsShort, AreShort}
use Rattle.ddp_messages.specs.Answers.{client_answer, server_answer}
use Rattle.ddp_messages.specs.MessageLaws.{server_text_back}
use Rattle.ddp_messages.specs.declared.fault.MsgFault.{MsgFault}
use Rattle.ddp_messages.specs.declared.fault.MsgFault.TheVariants.{Parse, BadRequest, Memory}
use Rattle.ddp_messages.specs.ClientMessage.{ClientMessage}
use Rattle.ddp_messages.specs.ClientMessage as client
use Rattle.ddp_messages.specs.ServerMessage.{ServerMessage}
use Rattle.ddp_messages.specs.ServerMessage as server
use Rattle.client_model.specs.Taking.{max_server_text, early_refusal}
use Rattle.reconnect_model.specs.Revival.{Called, Revival, new_revival}
use Rattle.reconnect_model.specs.Saying.{entered, called, asked, asked_by, queues, placed, in_order, loses, says}
use Rattle.ddp_messages.specs.Texts.{server_text}
use Rattle.reconnect_model.specs.Giving.{late, early, refused_by, answer_refusal, text_refusal, documents, is_among, connects, same_value, step_text}
use Rattle.reconnect_model.specs.Giving.{noted, answered, updated, changed_from, change_of, all_updated, settled, all_settled, gives, differences}
use Rattle.reconnect_model.specs.Giving.{half_done, half_ended, left_unsaid, updated_before, updated_left, given_for, Heard, released_by, released}
use Rattle.reconnect_model.specs.Giving.{made_ready, revived, is_at_once, is_held, holds, is_answered, passed, revived_then, revived_when}
use Rattle.reconnect_model.specs.Giving.{heard_message, heard_unless, hears}
use Rattle.reconnect_laws.specs.Given.{documents_by, all_documents}
use Rattle.reconnect_laws.specs.ReadLaws.{data_read, AnswersShort, answers_read, AsksShort, asks_read}
use Rattle.reconnect_laws.specs.Sent.{AreSent}
use Rattle.reconnect_laws.specs.WrittenLaws.{AllReadBack, told_sent, differences_read, differences_taken}
use Rattle.reconnect_laws.specs.Kept.{is_refusal, refuses, is_quiet, IsQuiet, AreQuiet, GoOn, AllGoOn, IsKept}

-- ---- maps by short ids

module _ {X : Type 0} where
  short_put : (m : List (List ℕ × X)) (k : List ℕ) (v : X) → AreShort (keys_of m) → IsShort k → AreShort (keys_of (insert_entry text_cmp m k v))
  short_put [] k v all one = (one, tt)
  short_put (e ∷ m) k v all one =
      let rest = short_put m k v all.1 one in
      elim (text_cmp k e.0)
      as (λ (o : Ordering). AreShort (keys_of (match_ordering o ((k, v) ∷ e ∷ m) ((e.0, v) ∷ m) (e ∷ insert_entry text_cmp m k v))))
      [ Less ↦ (one, all) | Equal ↦ all | Greater ↦ (all.0, rest) ]

  short_remove : (test : List ℕ → Bool) (m : List (List ℕ × X)) → AreShort (keys_of m) → AreShort (keys_of (remove_entry test m))
  short_remove test [] all = tt
  short_remove test (e ∷ m) all =
      let rest = short_remove test m all.1 in
      elim (test e.0) as (λ b. AreShort (keys_of (cond b m (e ∷ remove_entry test m)))) [ true ↦ all.1 | false ↦ (all.0, rest) ]

  short_set : (m : List (List ℕ × X)) (k : List ℕ) (w : Option X) → AreShort (keys_of m) → IsShort k → AreShort (keys_of (set text_cmp m k w))
  short_set m k None all one = short_remove (is_at (text_cmp k)) m all
  short_set m k (Some v) all one = short_put m k v all one

  short_filter : (keep : List ℕ × X → Bool) (m : List (List ℕ × X)) → AreShort (keys_of m) → AreShort (keys_of (filter keep m))
  short_filter keep [] all = tt
  short_filter keep (e ∷ m) all =
      let rest = short_filter keep m all.1 in
      elim (keep e) as (λ b. AreShort (keys_of (cond b (e ∷ filter keep m) (filter keep m)))) [ true ↦ (all.0, rest) | false ↦ rest ]

  short_entered : (m : List (List ℕ × X)) (k : List ℕ) (v : X) → AreShort (keys_of m) → IsShort k → AreShort (keys_of (entered m k v))
  short_entered m k v all one =
      let rest = short_put m k v all one in
      elim (is_some (at text_cmp m k)) as (λ b. AreShort (keys_of (cond b m (set text_cmp m k (Some v))))) [ true ↦ all | false ↦ rest ]

short_place : (m : List (ℕ × List ℕ)) (n : ℕ) (id : List ℕ) → AreShort (map (λ (e : ℕ × List ℕ). e.1) m) → IsShort id →
    AreShort (map (λ (e : ℕ × List ℕ). e.1) (insert_entry nat_cmp m n id))
short_place [] n id all one = (one, tt)
short_place (e ∷ m) n id all one =
    let rest = short_place m n id all.1 one in
    elim (nat_cmp n e.0)
    as (λ (o : Ordering). AreShort (map (λ (e : ℕ × List ℕ). e.1) (match_ordering o ((n, id) ∷ e ∷ m) ((e.0, id) ∷ m) (e ∷ insert_entry nat_cmp m n id))))
    [ Less ↦ (one, all) | Equal ↦ (one, all.1) | Greater ↦ (all.0, rest) ]

short_placed : (m entries : List (ℕ × List ℕ)) → AreShort (map (λ (e : ℕ × List ℕ). e.1) m) → AreShort (map (λ (e : ℕ × List ℕ). e.1) entries) →
    AreShort (map (λ (e : ℕ × List ℕ). e.1) (placed m entries))
short_placed m [] all more = all
short_placed m (e ∷ entries) all more = short_placed (insert_entry nat_cmp m e.0 e.1) entries (short_place m e.0 e.1 all more.0) more.1

by_place : (calls : List (List ℕ × Called)) → AreShort (keys_of calls) →
    AreShort (map (λ (e : ℕ × List ℕ). e.1) (map (λ (e : List ℕ × Called). (e.1.place, e.0)) calls))
by_place [] all = tt
by_place (e ∷ calls) all = (all.0, by_place calls all.1)

half_done-short : (calls : List (List ℕ × Called)) → AreShort (keys_of calls) → AreShort (half_done calls)
half_done-short calls all =
    let kept = filter (λ (e : List ℕ × Called). e.1.is_answered) calls in
    short_placed [] (map (λ (e : List ℕ × Called). (e.1.place, e.0)) kept) tt (by_place kept (short_filter (λ e. e.1.is_answered) calls all))

half_ended-short : (begun : ℕ) (ended : List (List ℕ × ℕ)) → AreShort (keys_of ended) → AreShort (half_ended begun ended)
half_ended-short begun ended all = short_filter (λ e. nat_lt e.1 begun) ended all

-- ---- what is asked for and answered

record HasShortIds (r : Revival) : Type 0 where
  calls : AreShort (keys_of r.calls)
  ended : AreShort (keys_of r.ended)

asked_short : (r : Revival) (text : List ℕ) (m : ClientMessage) → AsksShort m → HasShortIds r → HasShortIds (asked r text m)
asked_short r text (client.unsub id) one w = record { calls = w.calls; ended = short_entered r.ended id r.queued w.ended one }
asked_short r text (client.method id name params seed) one w = record { calls = short_entered r.calls id (called r.queued text) w.calls one; ended = w.ended }
asked_short r text _ one w = record { calls = w.calls; ended = w.ended }

asked_by-short : (r : Revival) (text : List ℕ) (answer : Result ClientMessage MsgFault) → client_answer text ≡ answer → HasShortIds r →
    HasShortIds (asked_by r text answer)
asked_by-short r text (Ok m) e w = asked_short r text m (asks_read text m e) w
asked_by-short r text (Err fault) e w = w

changed_short : (f : Called → Option Called) (id : List ℕ) (calls : List (List ℕ × Called)) (o : Option Called) → AreShort (keys_of calls) → IsShort id →
    AreShort (keys_of (changed_from f id calls o))
changed_short f id calls None all one = all
changed_short f id calls (Some c) all one = short_set calls id (f c) all one

all_updated-short : (ids : List (List ℕ)) (calls : List (List ℕ × Called)) → AreShort (keys_of calls) → AreShort ids →
    AreShort (keys_of (all_updated ids calls))
all_updated-short [] calls all ones = all
all_updated-short (id ∷ ids) calls all ones =
    all_updated-short ids (change_of updated id calls) (changed_short updated id calls (at text_cmp calls id) all ones.0) ones.1

settled_short : (r : Revival) (m : ServerMessage) → AnswersShort m → HasShortIds r → HasShortIds (settled r m)
settled_short r (server.nosub id fault) one w = record { calls = w.calls; ended = short_set r.ended id None w.ended one }
settled_short r (server.finished id fault value) one w =
    record { calls = changed_short answered id r.calls (at text_cmp r.calls id) w.calls one; ended = w.ended }
settled_short r (server.updated ids) ones w = record { calls = all_updated-short ids r.calls w.calls ones; ended = w.ended }
settled_short r _ one w = record { calls = w.calls; ended = w.ended }

abbrev AnswerShort : List ServerMessage → Type 0
AnswerShort [] = Unit {0}
AnswerShort (m ∷ ms) = AnswersShort m × AnswerShort ms

all_settled-short : (r : Revival) (ms : List ServerMessage) → AnswerShort ms → HasShortIds r → HasShortIds (all_settled r ms)
all_settled-short r [] ones w = w
all_settled-short r (m ∷ ms) ones w = all_settled-short (settled r m) ms ones.1 (settled_short r m ones.0 w)

-- ---- what stays of documents, whatever is answered

record SameGiven (a b : Revival) : Type 0 where
  given : b.given ≡ a.given
  copy : b.copy ≡ a.copy
  held : b.held ≡ a.held

same_self : (r : Revival) → SameGiven r r
same_self r = record { given = refl; copy = refl; held = refl }

same_then : (a b c : Revival) → SameGiven a b → SameGiven b c → SameGiven a c
same_then a b c one two = record { given = two.given ∙ one.given; copy = two.copy ∙ one.copy; held = two.held ∙ one.held }

settled_same : (r : Revival) (m : ServerMessage) → SameGiven r (settled r m)
settled_same r (server.nosub id fault) = record { given = refl; copy = refl; held = refl }
settled_same r (server.finished id fault value) = record { given = refl; copy = refl; held = refl }
settled_same r (server.updated ids) = record { given = refl; copy = refl; held = refl }
settled_same r _ = record { given = refl; copy = refl; held = refl }

all_settled-same : (r : Revival) (ms : List ServerMessage) → SameGiven r (all_settled r ms)
all_settled-same r [] = same_self r
all_settled-same r (m ∷ ms) = same_then r (settled r m) (all_settled (settled r m) ms) (settled_same r m) (all_settled-same (settled r m) ms)

-- ---- texts that say nothing of documents

quiet_documents : (rows : Rows) (m : ServerMessage) → is_quiet m ≡ true → documents rows m ≡ rows
quiet_documents rows (server.about m) e = absurd (true≢false (sym e))
quiet_documents rows _ e = refl

quiet_goes : (m : ServerMessage) → is_quiet m ≡ true → is_refusal m ≡ false
quiet_goes (server.failed version) e = absurd (true≢false (sym e))
quiet_goes _ e = refl

quiet_told : (rows : Rows) (texts : List (List ℕ)) → AreQuiet texts → all_documents rows texts ≡ rows
quiet_told rows [] q = refl
quiet_told rows (text ∷ texts) q =
    let one = q.0 in
    ap (λ answer. all_documents (documents_by rows answer) texts) one.1
    ∙ (ap (λ now. all_documents now texts) (quiet_documents rows one.0 one.2) ∙ quiet_told rows texts q.1)

quiet_on : (texts : List (List ℕ)) → AreQuiet texts → AllGoOn texts
quiet_on [] q = tt
quiet_on (text ∷ texts) q = let one = q.0 in (ap refuses one.1 ∙ quiet_goes one.0 one.2, quiet_on texts q.1)

AreQuiet-append : (xs ys : List (List ℕ)) → AreQuiet xs → AreQuiet ys → AreQuiet (xs ++ ys)
AreQuiet-append [] ys p q = q
AreQuiet-append (x ∷ xs) ys p q = (p.0, AreQuiet-append xs ys p.1 q)

AllGoOn-append : (xs ys : List (List ℕ)) → AllGoOn xs → AllGoOn ys → AllGoOn (xs ++ ys)
AllGoOn-append [] ys p q = q
AllGoOn-append (x ∷ xs) ys p q = (p.0, AllGoOn-append xs ys p.1 q)

told_append : (rows : Rows) (xs ys : List (List ℕ)) → all_documents rows (xs ++ ys) ≡ all_documents (all_documents rows xs) ys
told_append rows [] ys = refl
told_append rows (x ∷ xs) ys = told_append (documents_by rows (server_answer x)) xs ys

go_on : (texts : List (List ℕ)) → AllGoOn texts → GoOn texts
go_on [] p = tt
go_on (text ∷ []) p = tt
go_on (text ∷ next ∷ texts) p = (p.0, go_on (next ∷ texts) p.1)

-- ---- what the sessions that are gone were to say

updates_quiet : (ids : List (List ℕ)) → AreShort ids → AreQuiet (map server_text (map (λ id. server.updated (id ∷ [])) ids))
updates_quiet [] all = tt
updates_quiet (id ∷ ids) all =
    ((server.updated (id ∷ []), server_text_back (server.updated (id ∷ [])) tt (all.0, tt), refl), updates_quiet ids all.1)

ends_quiet : (ids : List (List ℕ)) → AreShort ids → AreQuiet (map server_text (map (λ id. server.nosub id None) ids))
ends_quiet [] all = tt
ends_quiet (id ∷ ids) all = ((server.nosub id None, server_text_back (server.nosub id None) tt all.0, refl), ends_quiet ids all.1)

left_quiet : (r : Revival) → HasShortIds r → AreQuiet (map server_text (left_unsaid r))
left_quiet r w =
    let us = map (λ id. server.updated (id ∷ [])) (half_done r.calls) in
    let es = map (λ id. server.nosub id None) (half_ended r.begun r.ended) in
    subst AreQuiet (sym (map-append server_text us es))
    (AreQuiet-append (map server_text us) (map server_text es) (updates_quiet (half_done r.calls) (half_done-short r.calls w.calls))
    (ends_quiet (half_ended r.begun r.ended) (half_ended-short r.begun r.ended w.ended)))

updates_short : (ids : List (List ℕ)) (rest : List ServerMessage) → AreShort ids → AnswerShort rest →
    AnswerShort (map (λ id. server.updated (id ∷ [])) ids ++ rest)
updates_short [] rest all more = more
updates_short (id ∷ ids) rest all more = ((all.0, tt), updates_short ids rest all.1 more)

ends_short : (ids : List (List ℕ)) → AreShort ids → AnswerShort (map (λ id. server.nosub id None) ids)
ends_short [] all = tt
ends_short (id ∷ ids) all = (all.0, ends_short ids all.1)

left_short : (r : Revival) → HasShortIds r → AnswerShort (left_unsaid r)
left_short r w = updates_short (half_done r.calls) (map (λ id. server.nosub id None) (half_ended r.begun r.ended)) (half_done-short r.calls w.calls)
    (ends_short (half_ended r.begun r.ended) (half_ended-short r.begun r.ended w.ended))

-- ---- the held texts

some_short : (keep : List ℕ → Bool) (ids : List (List ℕ)) → AreShort ids → AreShort (filter keep ids)
some_short keep [] all = tt
some_short keep (id ∷ ids) all =
    let rest = some_short keep ids all.1 in
    elim (keep id) as (λ b. AreShort (cond b (id ∷ filter keep ids) (filter keep ids))) [ true ↦ (all.0, rest) | false ↦ rest ]

updated_quiet : (text : List ℕ) (ids left : List (List ℕ)) → IsQuiet text → AreShort left → AreQuiet (updated_left text ids left)
updated_quiet text ids [] q all = tt
updated_quiet text ids (id ∷ left) q all =
    let made : IsQuiet (server_text (server.updated (id ∷ left))) = (server.updated (id ∷ left), server_text_back (server.updated (id ∷ left)) tt all, refl) in
    (elim (length (id ∷ left) == length ids) as (λ b. IsQuiet (cond b text (server_text (server.updated (id ∷ left))))) [ true ↦ q | false ↦ made ], tt)

given_quiet : (before : List (List ℕ)) (text : List ℕ) (m : ServerMessage) → server_answer text ≡ Ok m → is_quiet m ≡ true → AreQuiet (given_for before text m)
given_quiet before text (server.updated ids) e q =
    updated_quiet text ids (filter (λ id. not (is_among before id)) ids) (server.updated ids, e, q)
    (some_short (λ id. not (is_among before id)) ids (answers_read text (server.updated ids) e))
given_quiet before text m e q = ((m, e, q), tt)

-- what comes of the held texts
record Releases (r : Revival) (h : Heard) : Type 0 where
  quiet : AreQuiet h.texts
  same : SameGiven r h.revival
  short : HasShortIds h.revival

one_released : (before : List (List ℕ)) (r : Revival) (text : List ℕ) (answer : Result ServerMessage MsgFault) → server_answer text ≡ answer →
    IsQuiet text → HasShortIds r →
    Releases r (released_by before r text answer)
one_released before r text (Ok m) e q w =
    let is : Ok m ≡ Ok q.0 = sym e ∙ q.1 in
    let same : q.0 ≡ m = cc is in
    record {
      quiet = given_quiet before text m e (ap is_quiet (sym same) ∙ q.2);
      same = settled_same r m;
      short = settled_short r m (answers_read text m e) w;
    }
one_released before r text (Err fault) e q w = record { quiet = tt; same = same_self r; short = w }

all_released : (before : List (List ℕ)) (r : Revival) (held : List (List ℕ)) → AreQuiet held → HasShortIds r → Releases r (released before r held)
all_released before r [] q w = record { quiet = tt; same = same_self r; short = w }
all_released before r (text ∷ held) q w =
    let first = released_by before r text (server_answer text) in
    let one = one_released before r text (server_answer text) refl q.0 w in
    let rest = all_released before first.revival held q.1 one.short in
    let more = released before first.revival held in
    record {
      quiet = AreQuiet-append first.texts more.texts one.quiet rest.quiet;
      same = same_then r first.revival more.revival one.same rest.same;
      short = rest.short;
    }

-- ---- the reset

-- what comes of a text: the texts that are given lead from these documents to those that were given then
pub record Tells (rows : Rows) (h : Heard) : Type 0 where
  pub kept : IsKept h.revival
  pub says : all_documents rows h.texts ≡ h.revival.given
  pub goes : GoOn h.texts

steps_on : (a b : Rows) → AreSent a → AreSent b → AllGoOn (differences a b)
steps_on a b g h = by (diff text_cmp same_value key_cmp a b) (differences_read a b g h)
  where
    by : (es : List (Key × Step (List ℕ) Val)) → AllReadBack es → AllGoOn (map step_text es)
    by [] all = tt
    by (e ∷ es) all = (ap refuses all.0, by es all.1)

record Resets (r : Revival) (h : Heard) : Type 0 where
  kept : IsKept h.revival
  says : all_documents r.given h.texts ≡ h.revival.given
  goes : AllGoOn h.texts

resets : (r : Revival) → IsKept r → Resets r (revived r)
resets r w =
    let ready = made_ready r in
    let left = left_unsaid r in
    let mid = all_settled ready left in
    let before = updated_before r.calls in
    let rest = released before mid r.held in
    let ids : HasShortIds r = record { calls = w.calls; ended = w.ended } in
    let ready_ids : HasShortIds ready = record { calls = w.calls; ended = w.ended } in
    let mid_ids = all_settled-short ready left (left_short r ids) ready_ids in
    let held = all_released before mid r.held w.held mid_ids in
    let same = same_then ready mid rest.revival (all_settled-same ready left) held.same in
    let first = differences r.given r.copy in
    let texts = map server_text left in
    let quiet = left_quiet r ids in
    let short = held.short in
    record {
      kept = record {
        given = subst AreSent (sym same.given) w.copy;
        copy = subst AreSent (sym same.copy) w.copy;
        calls = short.calls;
        ended = short.ended;
        held = subst AreQuiet (sym same.held) tt;
      };
      says =
          told_append r.given (first ++ texts) rest.texts
          ∙ (ap (λ rows. all_documents rows rest.texts) (told_append r.given first texts)
          ∙ (ap (λ rows. all_documents (all_documents rows texts) rest.texts) (differences_taken r.given r.copy w.given w.copy)
          ∙ (ap (λ rows. all_documents rows rest.texts) (quiet_told r.copy texts quiet)
          ∙ (quiet_told r.copy rest.texts held.quiet ∙ sym same.given))));
      goes = AllGoOn-append (first ++ texts) rest.texts (AllGoOn-append first texts (steps_on r.given r.copy w.given w.copy) (quiet_on texts quiet))
          (quiet_on rest.texts held.quiet);
    }

-- ---- a message

or_first : (a b : Bool) → (a || b) ≡ false → a ≡ false
or_first true b e = e
or_first false b e = refl

or_second : (a b : Bool) → (a || b) ≡ false → b ≡ false
or_second true b e = absurd (true≢false e)
or_second false b e = e

and_second : (a b : Bool) → (a && b) ≡ true → b ≡ true
and_second true b e = e
and_second false b e = absurd (true≢false (sym e))

and_first : (a b : Bool) → (a && b) ≡ true → a ≡ true
and_first true b e = refl
and_first false b e = e

-- what is given at once, in an epoch that isn't revived, says nothing of documents
once_told : (is_known : Bool) (rows : Rows) (m : ServerMessage) → is_at_once is_known m ≡ true → documents rows m ≡ rows
once_told is_known rows (server.about m) e = absurd (true≢false (sym e))
once_told is_known rows _ e = refl

-- what is held says nothing of documents
held_quiet : (is_known : Bool) (m : ServerMessage) → is_at_once is_known m ≡ false → is_held m ≡ true → is_quiet m ≡ true
held_quiet is_known (server.about m) once held = held
held_quiet is_known (server.failed version) once held = absurd (true≢false once)
held_quiet is_known _ once held = refl

documents_sent : (rows : Rows) (text : List ℕ) (m : ServerMessage) → server_answer text ≡ Ok m → AreSent rows → AreSent (documents rows m)
documents_sent rows text (server.about m) e w = let p = data_read text m e in told_sent rows m p.0 p.1 w
documents_sent rows text _ e w = w

noted_kept : (r : Revival) (text : List ℕ) (m : ServerMessage) → server_answer text ≡ Ok m → IsKept r → IsKept (noted r m)
noted_kept r text m e w =
    let now = documents_sent r.given text m e w.given in
    record {
      given = elim r.is_revived as (λ b. AreSent (cond b (documents r.given m) r.given)) [ true ↦ now | false ↦ w.given ];
      copy = documents_sent r.copy text m e w.copy;
      calls = w.calls;
      ended = w.ended;
      held = w.held;
    }

gives_kept : (r : Revival) (text : List ℕ) (m : ServerMessage) → server_answer text ≡ Ok m → IsKept r → IsKept (gives r m)
gives_kept r text m e w =
    let same = settled_same r m in
    let short = settled_short r m (answers_read text m e) (record { calls = w.calls; ended = w.ended }) in
    record {
      given = subst AreSent (sym same.given) w.given;
      copy = subst AreSent (sym same.copy) w.copy;
      calls = short.calls;
      ended = short.ended;
      held = subst AreQuiet (sym same.held) w.held;
    }

holds_kept : (r : Revival) (text : List ℕ) (m : ServerMessage) → server_answer text ≡ Ok m → is_at_once r.is_known m ≡ false → IsKept r →
    IsKept (holds r text m)
holds_kept r text m e once w = record {
  given = w.given;
  copy = w.copy;
  calls = w.calls;
  ended = w.ended;
  held = elim (is_held m) as (λ b. is_held m ≡ b → AreQuiet (cond b (r.held ++ text ∷ []) r.held)) [
    | true ↦ λ t. AreQuiet-append r.held (text ∷ []) w.held ((m, e, held_quiet r.is_known m once t), tt)
    | false ↦ λ t. w.held
  ] refl;
}

-- the documents that were given once a message was given
given_now : (r : Revival) (m : ServerMessage) → (r.is_revived || is_at_once r.is_known m) ≡ true → documents r.given m ≡ (noted r m).given
given_now r m e =
    elim r.is_revived as (λ b. (b || is_at_once r.is_known m) ≡ true → documents r.given m ≡ cond b (documents r.given m) r.given)
    [ true ↦ λ t. refl | false ↦ λ t. once_told r.is_known r.given m t ] e

given_still : (r : Revival) (m : ServerMessage) → (r.is_revived || is_at_once r.is_known m) ≡ false → r.given ≡ (noted r m).given
given_still r m e = sym (ap (λ b. cond b (documents r.given m) r.given) (or_first r.is_revived (is_at_once r.is_known m) e))

passes : (r : Revival) (text : List ℕ) (m : ServerMessage) → server_answer text ≡ Ok m → IsKept r → Tells r.given (passed (noted r m) text m)
passes r text m e w =
    let n = noted r m in
    let k = noted_kept r text m e w in
    elim (n.is_revived || is_at_once n.is_known m)
    as (λ b. (r.is_revived || is_at_once r.is_known m) ≡ b →
    Tells r.given (cond b (let h : Heard = record { revival = gives n m; texts = text ∷ [] } in h) (record { revival = holds n text m; texts = [] }))) [
      | true ↦ λ t. record {
        kept = gives_kept n text m e k;
        says = ap (documents_by r.given) e ∙ (given_now r m t ∙ sym (settled_same n m).given);
        goes = tt;
      }
      | false ↦ λ t. record {
        kept = holds_kept n text m e (or_second r.is_revived (is_at_once r.is_known m) t) k;
        says = given_still r m t;
        goes = tt;
      }
    ] refl

-- a message by which all is answered doesn't refuse the version
by_connection : (is_known is_connected : Bool) (copy : Rows) (version : List ℕ) →
    (cond is_connected (late copy (server.failed version)) (early is_known (server.failed version))) ≡ None → (is_connected || false) ≡ true → true ≡ false
by_connection is_known true copy version none on = cc none
by_connection is_known false copy version none on = sym on

goes_on : (r : Revival) (m : ServerMessage) → refused_by r m ≡ None → (r.is_connected || connects m) ≡ true → is_refusal m ≡ false
goes_on r (server.failed version) none on = by_connection r.is_known r.is_connected r.copy version none on
goes_on r _ none on = refl

passed_on : (r : Revival) (text : List ℕ) (m : ServerMessage) → server_answer text ≡ Ok m → is_refusal m ≡ false → AllGoOn (passed r text m).texts
passed_on r text m e goes =
    elim (r.is_revived || is_at_once r.is_known m)
    as (λ b. AllGoOn (cond b (let h : Heard = record { revival = gives r m; texts = text ∷ [] } in h) (record { revival = holds r text m; texts = [] })).texts)
    [ true ↦ (ap refuses e ∙ goes, tt) | false ↦ tt ]

passed_connected : (r : Revival) (text : List ℕ) (m : ServerMessage) → (passed r text m).revival.is_connected ≡ r.is_connected
passed_connected r text m =
    elim (r.is_revived || is_at_once r.is_known m)
    as (λ b. (cond b (let h : Heard = record { revival = gives r m; texts = text ∷ [] } in h)
    (record { revival = holds r text m; texts = [] })).revival.is_connected ≡ r.is_connected)
    [ true ↦ settled_connected r m | false ↦ refl ]
  where
    settled_connected : (r : Revival) (m : ServerMessage) → (settled r m).is_connected ≡ r.is_connected
    settled_connected r (server.nosub id fault) = refl
    settled_connected r (server.finished id fault value) = refl
    settled_connected r (server.updated ids) = refl
    settled_connected r _ = refl

tells_message : (r : Revival) (text : List ℕ) (m : ServerMessage) → server_answer text ≡ Ok m → refused_by r m ≡ None → IsKept r →
    Tells r.given (revived_when (passed (noted r m) text m))
tells_message r text m e none w =
    let h = passed (noted r m) text m in
    let one = passes r text m e w in
    let more = resets h.revival one.kept in
    let rest = revived h.revival in
    elim (not h.revival.is_revived && is_answered h.revival)
    as (λ b. (not h.revival.is_revived && is_answered h.revival) ≡ b → Tells r.given (cond b (revived_then h) h)) [
      | true ↦ λ t.
          let on = and_first h.revival.is_connected _ (and_second (not h.revival.is_revived) (is_answered h.revival) t) in
          let goes = goes_on r m none (sym (passed_connected (noted r m) text m) ∙ on) in
          record {
            kept = more.kept;
            says = told_append r.given h.texts rest.texts ∙ (ap (λ rows. all_documents rows rest.texts) one.says ∙ more.says);
            goes = go_on (h.texts ++ rest.texts) (AllGoOn-append h.texts rest.texts (passed_on (noted r m) text m e goes) more.goes);
          }
      | false ↦ λ t. one
    ] refl

nothing_told : (r : Revival) → IsKept r → Tells r.given (record { revival = r; texts = [] })
nothing_told r w = record { kept = w; says = refl; goes = tt }

tells_answer : (r : Revival) (text : List ℕ) (answer : Result ServerMessage MsgFault) → server_answer text ≡ answer → answer_refusal r answer ≡ None →
    IsKept r →
    Tells r.given (heard_message r text answer)
tells_answer r text (Ok m) e none w = tells_message r text m e none w
tells_answer r text (Err fault) e none w = nothing_told r w

-- where no rule refuses the text, its message isn't refused
unrefused : (long : Bool) (o : Option ℕ) → (cond long (Some 1) o) ≡ None → o ≡ None
unrefused true o e = absurd (cc e)
unrefused false o e = e

tells_unless : (r : Revival) (text : List ℕ) (n : Option ℕ) → text_refusal r text ≡ n → IsKept r → Tells r.given (heard_unless r text n)
tells_unless r text None e w =
    tells_answer r text (server_answer text) refl (unrefused (nat_lt max_server_text (length text)) (answer_refusal r (server_answer text)) e) w
tells_unless r text (Some n) e w = record {
  kept = record { given = w.given; copy = w.copy; calls = w.calls; ended = w.ended; held = w.held };
  says = refl;
  goes = tt;
}

pub hears_tells : (r : Revival) (text : List ℕ) → IsKept r → Tells r.given (hears r text)
hears_tells r text w =
    elim (is_some r.broken)
    as (λ b. Tells r.given (cond b (let h : Heard = record { revival = r; texts = [] } in h) (heard_unless r text (text_refusal r text))))
    [ true ↦ nothing_told r w | false ↦ tells_unless r text (text_refusal r text) refl w ]

-- ---- what else happens

no_rows-sent : AreSent []
no_rows-sent = record { sorted = sorted-nil key_cmp; each = λ key. tt }

pub new_kept : IsKept new_revival
new_kept = record { given = no_rows-sent; copy = no_rows-sent; calls = tt; ended = tt; held = tt }

asked_same : (r : Revival) (text : List ℕ) (m : ClientMessage) → SameGiven r (asked r text m)
asked_same r text (client.sub id name params) = record { given = refl; copy = refl; held = refl }
asked_same r text (client.unsub id) = record { given = refl; copy = refl; held = refl }
asked_same r text (client.method id name params seed) = record { given = refl; copy = refl; held = refl }
asked_same r text _ = record { given = refl; copy = refl; held = refl }

asked_by-same : (r : Revival) (text : List ℕ) (answer : Result ClientMessage MsgFault) → SameGiven r (asked_by r text answer)
asked_by-same r text (Ok m) = asked_same r text m
asked_by-same r text (Err fault) = same_self r

pub queues_kept : (r : Revival) (text : List ℕ) → IsKept r → IsKept (queues r text)
queues_kept r text w =
    let same = asked_by-same r text (client_answer text) in
    let short = asked_by-short r text (client_answer text) refl (record { calls = w.calls; ended = w.ended }) in
    record {
      given = subst AreSent (sym same.given) w.given;
      copy = subst AreSent (sym same.copy) w.copy;
      calls = short.calls;
      ended = short.ended;
      held = subst AreQuiet (sym same.held) w.held;
    }

pub queues_given : (r : Revival) (text : List ℕ) → (queues r text).given ≡ r.given
queues_given r text = (asked_by-same r text (client_answer text)).given

pub says_kept : (r : Revival) → IsKept r → IsKept (says r)
says_kept r w = record { given = w.given; copy = w.copy; calls = w.calls; ended = w.ended; held = w.held }

pub loses_kept : (r : Revival) → IsKept r → IsKept (loses r)
loses_kept r w = record { given = w.given; copy = no_rows-sent; calls = w.calls; ended = w.ended; held = tt }
