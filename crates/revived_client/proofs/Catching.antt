-- What is remembered together with the text that was queued last.
use Rattle.std.specs.Prelude.{◌≡◌, ◌++◌, ◌∷◌, [], ℕ, List, Bool, true, false, not, Option, Some, None, is_some, Result, Ok, Err, refl}
use Rattle.std.proofs.Common.{ap, sym, subst, ◌∙◌, true≢false}
use Rattle.ddp_messages.specs.Answers.{client_answer}
use Rattle.ddp_messages.specs.declared.fault.MsgFault.{MsgFault}
use Rattle.ddp_messages.specs.ClientMessage as client
use Rattle.ddp_messages.specs.ClientMessage.{ClientMessage}
use Rattle.reconnect_model.specs.Revival.{Revival}
use Rattle.reconnect_model.specs.Saying.{asked, asked_by, said_too, queues, says, first_of, behind_first}
use Rattle.revived_client.specs.declared.last.Last.{Last}
use Rattle.revived_client.specs.Last.{caught_up, caught_up_by, IsCopy, IsNext}
use Rattle.client_core.specs.State.{Own}
use Rattle.client_core.specs.Asked.{IsSent}
use Rattle.revived_client.specs.State.{quiet, all_queued}

-- ---- a text that is queued leaves what was refused

asked_broken : (r : Revival) (text : List ℕ) (m : ClientMessage) → (asked r text m).broken ≡ r.broken
asked_broken r text (client.sub id name params) = refl
asked_broken r text (client.unsub id) = refl
asked_broken r text (client.method id name params seed) = refl
asked_broken r text _ = refl

asked_by-broken : (r : Revival) (text : List ℕ) (answer : Result ClientMessage MsgFault) → (asked_by r text answer).broken ≡ r.broken
asked_by-broken r text (Ok m) = asked_broken r text m
asked_by-broken r text (Err fault) = refl

pub queues_broken : (r : Revival) (text : List ℕ) → (queues r text).broken ≡ r.broken
queues_broken r text = asked_by-broken r text (client_answer text)

pub all_queued-broken : (r : Revival) (texts : List (List ℕ)) → (all_queued r texts).broken ≡ r.broken
all_queued-broken r [] = refl
all_queued-broken r (text ∷ texts) = all_queued-broken (queues r text) texts ∙ queues_broken r text

pub caught_up-broken : (r : Revival) (last : Option Last) → (caught_up r last).broken ≡ r.broken
caught_up-broken r None = refl
caught_up-broken r (Some last) = by last.unsaid
  where
    by : (copy : Option (List ℕ)) → (caught_up_by r last.text copy).broken ≡ r.broken
    by None = queues_broken r last.text
    by (Some copy) = queues_broken r last.text

-- ---- a text that is queued waits behind the others, whatever they are

asked_waiting : (r : Revival) (text : List ℕ) (m : ClientMessage) → (asked r text m).waiting ≡ r.waiting
asked_waiting r text (client.sub id name params) = refl
asked_waiting r text (client.unsub id) = refl
asked_waiting r text (client.method id name params seed) = refl
asked_waiting r text _ = refl

asked_by-waiting : (r : Revival) (text : List ℕ) (answer : Result ClientMessage MsgFault) → (asked_by r text answer).waiting ≡ r.waiting
asked_by-waiting r text (Ok m) = asked_waiting r text m
asked_by-waiting r text (Err fault) = refl

pub queues_waiting : (r : Revival) (text : List ℕ) → (queues r text).waiting ≡ r.waiting ++ text ∷ []
queues_waiting r text = ap (λ ws. ws ++ text ∷ []) (asked_by-waiting r text (client_answer text))

-- a text less waits when another is asked for
asked_says : (r : Revival) (text : List ℕ) (m : ClientMessage) → asked (says r) text m ≡ says (asked r text m)
asked_says r text (client.sub id name params) = refl
asked_says r text (client.unsub id) = refl
asked_says r text (client.method id name params seed) = refl
asked_says r text (client.connect version support) = refl
asked_says r text (client.ping id) = refl
asked_says r text (client.pong id) = refl

asked_by-says : (r : Revival) (text : List ℕ) (answer : Result ClientMessage MsgFault) → asked_by (says r) text answer ≡ says (asked_by r text answer)
asked_by-says r text (Ok m) = asked_says r text m
asked_by-says r text (Err fault) = refl

more_behind : (waiting : List (List ℕ)) (first text : List ℕ) (rest : List (List ℕ)) → waiting ≡ first ∷ rest → behind_first waiting ++ text ∷ [] ≡ behind_first (waiting ++ text ∷ [])
more_behind waiting first text rest is = ap (λ ws. behind_first ws ++ text ∷ []) is ∙ sym (ap (λ ws. behind_first (ws ++ text ∷ [])) is)

-- where a text waits, it makes no difference whether it is said before another is queued, or after that
pub says_first : (r : Revival) (text first : List ℕ) (rest : List (List ℕ)) → r.waiting ≡ first ∷ rest → queues (says r) text ≡ says (queues r text)
says_first r text first rest is =
    let a = asked_by r text (client_answer text) in
    let still : a.waiting ≡ first ∷ rest = asked_by-waiting r text (client_answer text) ∙ is in
    ap (λ b. said_too b text) (asked_by-says r text (client_answer text))
    ∙ ap (λ ws. record (said_too a text) { waiting = ws }) (more_behind a.waiting first text rest still)

-- ---- the next text

first_is : (waiting : List (List ℕ)) (text : List ℕ) → waiting ≡ [] → first_of (waiting ++ text ∷ []) ≡ Some text
first_is waiting text none = ap (λ ws. first_of (ws ++ text ∷ [])) none

pub some_first : (waiting : List (List ℕ)) (first : List ℕ) → first_of waiting ≡ Some first → waiting ≡ first ∷ behind_first waiting
some_first [] first is = cc is
some_first (text ∷ texts) first is = ap (λ o. o ∷ texts) (one is)
  where
    one : first_of (text ∷ texts) ≡ Some first → text ≡ first
    one e = cc e

pub none_waits : (waiting : List (List ℕ)) → first_of waiting ≡ None → waiting ≡ []
none_waits [] is = refl
none_waits (text ∷ texts) is = cc is

says_none : (r : Revival) → r.waiting ≡ [] → says r ≡ r
says_none r none = ap (λ ws. record r { waiting = ws }) (ap behind_first none ∙ sym none)

-- a text that waits in what is remembered is the next one
pub next_waits : (r : Revival) (last : Option Last) (text : List ℕ) → IsNext r last → first_of r.waiting ≡ Some text →
    (Some text ≡ first_of (caught_up r last).waiting) × (caught_up (says r) last ≡ says (caught_up r last)) × IsNext (says r) last
next_waits r None text next is = (sym is, refl, tt)
next_waits r (Some last) text next is = by last.unsaid next
  where
    waits : r.waiting ≡ text ∷ behind_first r.waiting
    waits = some_first r.waiting text is

    by : (copy : Option (List ℕ)) → IsCopy r last.text copy →
        (Some text ≡ first_of (caught_up_by r last.text copy).waiting) × (caught_up_by (says r) last.text copy ≡ says (caught_up_by r last.text copy)) × IsCopy (says r) last.text copy
    by (Some copy) same = (
      sym (ap first_of (queues_waiting r last.text) ∙ ap (λ ws. first_of (ws ++ last.text ∷ [])) waits),
      says_first r last.text text (behind_first r.waiting) waits,
      same,
    )
    by None none = cc (sym (ap first_of none) ∙ is)

-- else it is the text that was queued last, unless that was said
abbrev pub without_copy : Last → Last
without_copy last = record last { unsaid = None }

pub last_waits : (r : Revival) (last : Last) → IsNext r (Some last) → first_of r.waiting ≡ None →
    (last.unsaid ≡ first_of (caught_up r (Some last)).waiting) × (caught_up r (Some (without_copy last)) ≡ says (caught_up r (Some last))) × IsNext r (Some (without_copy last))
last_waits r last next is = by last.unsaid next
  where
    none : r.waiting ≡ []
    none = none_waits r.waiting is

    by : (copy : Option (List ℕ)) → IsCopy r last.text copy →
        (copy ≡ first_of (caught_up_by r last.text copy).waiting) × (says (queues r last.text) ≡ says (caught_up_by r last.text copy)) × (r.waiting ≡ [])
    by (Some copy) same = (
      ap Some same ∙ sym (ap first_of (queues_waiting r last.text) ∙ first_is r.waiting last.text none),
      refl,
      none,
    )
    by None said =
        let over : (says (queues r last.text)).waiting ≡ [] = ap behind_first (queues_waiting r last.text) ∙ ap (λ ws. behind_first (ws ++ last.text ∷ [])) none in
        (sym (ap first_of over), sym (says_none (says (queues r last.text)) over), none)

pub none_waits-at_all : (r : Revival) → first_of r.waiting ≡ None → says r ≡ r
none_waits-at_all r is = says_none r (none_waits r.waiting is)

-- ---- the one text that waits in a client

pub sent_text : (old new : Own) (text : List ℕ) (sent : Option (List ℕ)) → old.client.waiting ≡ text ∷ [] → IsSent old new sent → sent ≡ Some text
sent_text old new text None one w = cc (sym one ∙ w.0)
sent_text old new text (Some first) one w = cc (sym one ∙ w.0)

pub sent_quiet : (old new : Own) (text : List ℕ) (sent : Option (List ℕ)) → old.client.waiting ≡ text ∷ [] → IsSent old new sent → new ≡ quiet old
sent_quiet old new text None one w = absurd (cc (sym one ∙ w.0))
sent_quiet old new text (Some first) one w =
    let none : new.client.waiting ≡ [] = cc (sym one ∙ w.0) in
    w.1 ∙ ap (λ ws. record old { client = record old.client { waiting = ws } }) none

-- ---- the reviver is told of the last text

pub caught_up-none : (r : Revival) (last : Option Last) → last ≡ None → r ≡ caught_up r last
caught_up-none r last none = sym (ap (caught_up r) none)

copy_gone : (copy : Option (List ℕ)) → is_some copy ≡ false → copy ≡ None
copy_gone None e = refl
copy_gone (Some copy) e = absurd (true≢false e)

copy_there : (r : Revival) (text : List ℕ) (copy : Option (List ℕ)) → is_some copy ≡ true → queues r text ≡ caught_up_by r text copy
copy_there r text None e = absurd (true≢false (sym e))
copy_there r text (Some copy) e = refl

-- it was said already
pub caught_up-said : (r queued said : Revival) (last : Option Last) (text : List ℕ) (copy : Option (List ℕ)) (gone : Bool) → last ≡ Some (record { text = text; unsaid = copy }) →
    is_some copy ≡ not gone → gone ≡ true → queued ≡ queues r text → said ≡ says queued → said ≡ caught_up r last
caught_up-said r queued said last text copy gone is none said_so taken now =
    now ∙ (ap says taken ∙ (sym (ap (caught_up_by r text) (copy_gone copy (none ∙ ap not said_so))) ∙ sym (ap (caught_up r) is)))

-- or not yet
pub caught_up-unsaid : (r queued : Revival) (last : Option Last) (text : List ℕ) (copy : Option (List ℕ)) (gone : Bool) → last ≡ Some (record { text = text; unsaid = copy }) →
    is_some copy ≡ not gone → gone ≡ false → queued ≡ queues r text → queued ≡ caught_up r last
caught_up-unsaid r queued last text copy gone is some unsaid taken =
    taken ∙ (copy_there r text copy (some ∙ ap not unsaid) ∙ sym (ap (caught_up r) is))

-- ---- the next text is said

pub waits_text : (r r2 : Revival) (last : Option Last) (said : Option (List ℕ)) (text : List ℕ) → IsNext r last → said ≡ first_of r.waiting → said ≡ Some text →
    Some text ≡ first_of (caught_up r last).waiting
waits_text r r2 last said text next is some = (next_waits r last text next (sym is ∙ some)).0

pub waits_says : (r r2 : Revival) (last : Option Last) (said : Option (List ℕ)) (text : List ℕ) → IsNext r last → said ≡ first_of r.waiting → said ≡ Some text → r2 ≡ says r →
    caught_up r2 last ≡ says (caught_up r last)
waits_says r r2 last said text next is some now = ap (λ v. caught_up v last) now ∙ (next_waits r last text next (sym is ∙ some)).1

pub waits_next : (r r2 : Revival) (last : Option Last) (said : Option (List ℕ)) (text : List ℕ) → IsNext r last → said ≡ first_of r.waiting → said ≡ Some text → r2 ≡ says r →
    IsNext r2 last
waits_next r r2 last said text next is some now =
    let P : Revival → Type 0 = λ v. IsNext v last in
    subst P (sym now) (next_waits r last text next (sym is ∙ some)).2

-- the copy of the last one
pub last_text : (r r2 : Revival) (last : Option Last) (it : Last) (said copy : Option (List ℕ)) → IsNext r last → last ≡ Some it → said ≡ first_of r.waiting → said ≡ None →
    copy ≡ it.unsaid → copy ≡ first_of (caught_up r last).waiting
last_text r r2 last it said copy next is waits none same =
    let P : Option Last → Type 0 = λ l. IsNext r l in
    same ∙ ((last_waits r it (subst P is next) (sym waits ∙ none)).0 ∙ sym (ap (λ l. first_of (caught_up r l).waiting) is))

pub last_says : (r r2 : Revival) (last : Option Last) (it : Last) (said copy : Option (List ℕ)) → IsNext r last → last ≡ Some it → said ≡ first_of r.waiting → said ≡ None →
    r2 ≡ says r → copy ≡ None → caught_up r2 (Some (record { text = it.text; unsaid = copy })) ≡ says (caught_up r last)
last_says r r2 last it said copy next is waits none now gone =
    let P : Option Last → Type 0 = λ l. IsNext r l in
    let f : Option (List ℕ) → Option Last = λ u. Some (record { text = it.text; unsaid = u }) in
    ap (λ v. caught_up v (f copy)) (now ∙ none_waits-at_all r (sym waits ∙ none))
    ∙ (ap (λ u. caught_up r (f u)) gone ∙ ((last_waits r it (subst P is next) (sym waits ∙ none)).1 ∙ sym (ap (λ l. says (caught_up r l)) is)))

pub last_next : (r r2 : Revival) (last : Option Last) (it : Last) (said copy : Option (List ℕ)) → IsNext r last → last ≡ Some it → said ≡ first_of r.waiting → said ≡ None →
    r2 ≡ says r → copy ≡ None → IsNext r2 (Some (record { text = it.text; unsaid = copy }))
last_next r r2 last it said copy next is waits none now gone =
    let P : Option Last → Type 0 = λ l. IsNext r l in
    let f : Option (List ℕ) → Option Last = λ u. Some (record { text = it.text; unsaid = u }) in
    let Q : Revival → Type 0 = λ v. IsNext v (f None) in
    let R : Option (List ℕ) → Type 0 = λ u. IsNext r2 (f u) in
    subst R (sym gone) (subst Q (sym (now ∙ none_waits-at_all r (sym waits ∙ none))) (last_waits r it (subst P is next) (sym waits ∙ none)).2)

-- nothing waits
pub none_text : (r : Revival) (last : Option Last) (said : Option (List ℕ)) → last ≡ None → said ≡ first_of r.waiting → said ≡ None → None ≡ first_of (caught_up r last).waiting
none_text r last said gone waits none = sym (ap (λ l. first_of (caught_up r l).waiting) gone ∙ (sym waits ∙ none))

pub none_says : (r r2 : Revival) (last : Option Last) → last ≡ None → r2 ≡ says r → caught_up r2 last ≡ says (caught_up r last)
none_says r r2 last gone now = ap (caught_up r2) gone ∙ (now ∙ sym (ap (λ l. says (caught_up r l)) gone))

pub none_next : (r2 : Revival) (last : Option Last) → last ≡ None → IsNext r2 last
none_next r2 last gone = let P : Option Last → Type 0 = λ l. IsNext r2 l in subst P (sym gone) tt

pub says_broken : (r r2 : Revival) → r2 ≡ says r → r2.broken ≡ r.broken
says_broken r r2 now = ap (λ (v : Revival). v.broken) now
