-- What is seen of a client that lives through several links.
use Rattle.std.specs.Prelude.{◌≡◌, ◌⊎◌, ◌∷◌, [], ℕ, List, Bool, true, false, cond, not, ◌&&◌, Option, Some, None, is_none, is_some, Result, Ok, Err, refl}
use Rattle.std.proofs.Common.{ap, sym, subst, ◌∙◌, true≢false, inl, inr}
use Rattle.ddp_messages.specs.Answers.{server_answer}
use Rattle.ejson_value.specs.declared.memory.Mem.{Mem}
use Rattle.client_model.specs.Client.{Client}
use Rattle.client_model.specs.Taking.{told_text}
use Rattle.client_model.specs.TakingLaws.{text_breaks}
use Rattle.client_model.specs.Asking.{can_take, is_connected, is_settled}
use Rattle.client_model.specs.Lines.{line_texts}
use Rattle.client_core.specs.State.{Own, show_lines}
use Rattle.client_core.specs.declared.fault.ClientFault.{ClientFault}
use Rattle.client_core.specs.declared.fault.ClientFault.TheVariants as fault
use Rattle.client_core.specs.declared.fault.TakeFault.{TakeFault}
use Rattle.client_core.specs.declared.fault.TakeFault.TheVariants as take
use Rattle.client_script.specs.declared.line.Ask.{Ask}
use Rattle.client_script.specs.declared.line.Ask.TheVariants as ask
use Rattle.client_script.specs.declared.speaker.Heard.{Heard}
use Rattle.client_script.specs.declared.speaker.Heard.TheVariants as answer
use Rattle.client_script.specs.Speaking.{goes_on, GoesOnAs, IsHeard}
use Rattle.client_script.specs.Speaking as speaking
use Rattle.console_run.specs.Speaking.{can, asked}
use Rattle.reconnect_model.specs.Revival.{Revival}
use Rattle.reconnect_model.specs.Saying.{first_of, says, behind_first}
use Rattle.reconnect_model.specs.Giving.{text_refusal, heard_unless, hears}
use Rattle.reconnect_model.specs.Giving as giving
use Rattle.reconnect_laws.specs.Given.{all_given}
use Rattle.revived_client.specs.declared.client.Stop.{Stop}
use Rattle.revived_client.specs.declared.client.Stop.TheVariants.{Refused, OutOfMemory}
use Rattle.revived_client.specs.State.{RevivedState, quiet, spoken}
use Rattle.revived_client.specs.Asking.{fault_of, take_fault_of, DoesUnless, Asks, SaysUnless, Says}
use Rattle.revived_client.specs.Hearing.{given, refused_first, left_by, refusal, heard, HearsOn, HearsUnless, Hears}
use Rattle.revived_client.specs.Speaking.{rule_of, look_of, Does}
use Rattle.revived_client.proofs.Catching.{none_waits, none_waits-at_all, some_first}
use Rattle.revived_client.proofs.Hearing.{going_whole, going_on, takes_on, message_whole}

-- ---- what it is asked for

asked_failed : (a : Ask) (own : Own) → (asked a own).client.is_failed ≡ own.client.is_failed
asked_failed (ask.Sub id name params) own = refl
asked_failed (ask.Unsub id) own = refl
asked_failed (ask.Call method params) own = refl

spoken_goes : (a : Ask) (old new : RevivedState) → new ≡ spoken (asked a old.own) old → GoesOnAs (look_of old) (look_of new)
spoken_goes a old new is = record {
  failed = ap (λ (v : RevivedState). (look_of v).is_failed) is ∙ asked_failed a old.own;
  broken = ap (λ (v : RevivedState). (look_of v).broken) is;
}

can_by : (stop : Option Stop) (old : RevivedState) (a : Ask) (b : Bool) → old.stop ≡ stop → stop ≡ None → can old.own a ≡ b → (look_of old).can a ≡ b
can_by stop old a b is none e = ap (λ o. is_none o && can old.own a) (is ∙ none) ∙ e

pub asks_can : {X : Type 0} (a : Ask) (old new : RevivedState) (x : X) → Asks a old new (Ok x) → speaking.Asks look_of Does {F = Mem} old a new (Ok true)
asks_can a old new x d = by old.stop refl d
  where
    by : (stop : Option Stop) → old.stop ≡ stop → DoesUnless (fault_of stop) (can old.own a) (spoken (asked a old.own) old) old new (Ok x) →
        ((look_of old).can a ≡ true) × (new ≡ spoken (asked a old.own) old) × GoesOnAs (look_of old) (look_of new)
    by None is w = (can_by None old a true is refl w.0, w.1, spoken_goes a old new w.1)
    by (Some (Refused n)) is w = absurd (cc w.0)
    by (Some OutOfMemory) is w = absurd (cc w.0)

pub asks_cannot : (a : Ask) (old new : RevivedState) → Asks {X = Unit {0}} a old new (Err fault.Idle) → speaking.Asks look_of Does {F = Mem} old a new (Ok false)
asks_cannot a old new d = by old.stop refl d
  where
    by : (stop : Option Stop) → old.stop ≡ stop → DoesUnless {X = Unit {0}} (fault_of stop) (can old.own a) (spoken (asked a old.own) old) old new (Err fault.Idle) →
        ((look_of old).can a ≡ false) × (new ≡ old)
    by None is w = (can_by None old a false is refl w.0, w.1)
    by (Some (Refused n)) is w = (ap (λ o. is_none o && can old.own a) is, w.1)
    by (Some OutOfMemory) is w = absurd (cc w.0)

-- an answer without the call's number
pub asks_done_as : {X Y : Type 0} (a : Ask) (old new : RevivedState) (x : X) (y : Y) → Asks a old new (Ok x) → Asks a old new (Ok y)
asks_done_as a old new x y d = by (fault_of old.stop) d
  where
    by : (o : Option ClientFault) → DoesUnless o (can old.own a) (spoken (asked a old.own) old) old new (Ok x) → DoesUnless o (can old.own a) (spoken (asked a old.own) old) old new (Ok y)
    by None w = w
    by (Some reason) w = absurd (cc w.0)

pub asks_refused_as : (X Y : Type 0) (a : Ask) (old new : RevivedState) (f : ClientFault) → Asks {X = X} a old new (Err f) → Asks {X = Y} a old new (Err f)
asks_refused_as X Y a old new f d = by (fault_of old.stop) f d
  where
    by : (o : Option ClientFault) (g : ClientFault) → DoesUnless {X = X} o (can old.own a) (spoken (asked a old.own) old) old new (Err g) →
        DoesUnless {X = Y} o (can old.own a) (spoken (asked a old.own) old) old new (Err g)
    by None fault.Idle w = w
    by None fault.Memory w = w
    by (Some reason) g w = let same : g ≡ reason = cc w.0 in (ap Err same, w.1)

-- ---- what it hears

not_failed : (old : RevivedState) → goes_on (look_of old) ≡ true → old.own.client.is_failed ≡ false
not_failed old on = by old.own.client.is_failed (is_none (look_of old).broken) on
  where
    by : (b d : Bool) → (not b && d) ≡ true → b ≡ false
    by false d e = refl
    by true d e = absurd (true≢false (sym e))

-- a text by which none is refused any more leaves no other
refused_texts : (r : Revival) (text : List ℕ) (n : ℕ) → (hears r text).revival.broken ≡ Some n → (hears r text).texts ≡ []
refused_texts r text n = by r.broken refl
  where
    unless : (none : r.broken ≡ None) (o : Option ℕ) → (heard_unless r text o).revival.broken ≡ Some n → (heard_unless r text o).texts ≡ []
    unless none (Some m) e = refl
    unless none None e = absurd (cc (sym none ∙ (sym (message_whole r text (server_answer text)) ∙ e)))

    by : (o : Option ℕ) → r.broken ≡ o → (hears r text).revival.broken ≡ Some n → (hears r text).texts ≡ []
    by None none =
        let P : Bool → Type 0 = λ b.
        (cond b (let h : giving.Heard = record { revival = r; texts = [] } in h) (heard_unless r text (text_refusal r text))).revival.broken ≡ Some n
        → (cond b (let h : giving.Heard = record { revival = r; texts = [] } in h) (heard_unless r text (text_refusal r text))).texts ≡ [] in
        subst P (sym (ap (λ o. is_some o) none)) (unless none (text_refusal r text))
    by (Some m) some =
        let P : Bool → Type 0 = λ b.
        (cond b (let h : giving.Heard = record { revival = r; texts = [] } in h) (heard_unless r text (text_refusal r text))).revival.broken ≡ Some n
        → (cond b (let h : giving.Heard = record { revival = r; texts = [] } in h) (heard_unless r text (text_refusal r text))).texts ≡ [] in
        subst P (sym (ap (λ o. is_some o) some)) (λ e. refl)

-- a client that refuses a text doesn't refuse the version
given_refused : (c : Client) (texts : List (List ℕ)) (n : ℕ) → can_take c ≡ true → (all_given texts c).broken ≡ Some n → (all_given texts c).is_failed ≡ false
given_refused c [] n on e = going_on c on
given_refused c (text ∷ texts) n on e =
    let next = told_text c text in
    elim (can_take next)
    as (λ b. can_take next ≡ b → (cond b (all_given texts next) next).broken ≡ Some n → (cond b (all_given texts next) next).is_failed ≡ false) [
      | true ↦ λ t w. given_refused next texts n t w
      | false ↦ λ t w. ap (λ (d : Client). d.is_failed) (text_breaks c text n w (going_whole c on)) ∙ going_on c on
    ] refl e

refused_going : (r : Revival) (text : List ℕ) (own : Own) (n : ℕ) → can_take own.client ≡ true →
    refused_first (hears r text).revival.broken (given (hears r text).texts own).client.broken ≡ Some n → (given (hears r text).texts own).client.is_failed ≡ false
refused_going r text own n on = by (hears r text).revival.broken refl
  where
    by : (o : Option ℕ) → (hears r text).revival.broken ≡ o → refused_first o (given (hears r text).texts own).client.broken ≡ Some n →
        (given (hears r text).texts own).client.is_failed ≡ false
    by None is e = given_refused own.client (hears r text).texts n on e
    by (Some m) is e = ap (λ ts. (given ts own).client.is_failed) (refused_texts r text m is) ∙ going_on own.client on

second_true : (b d : Bool) → (b && d) ≡ true → d ≡ true
second_true true d e = e
second_true false d e = absurd (true≢false (sym e))

-- why a text was taken, where it goes on
pub hears_on : {X : Type 0} (text : List ℕ) (old new : RevivedState) (result : Result X TakeFault) → goes_on (look_of old) ≡ true →
    Hears text old new result → ((old.stop ≡ None) × HearsOn text old new result) ⊎ (result ≡ Err take.Memory)
hears_on text old new result on d = by old.stop old.own.client.is_failed refl (not_failed old on) d
  where
    by : (stop : Option Stop) (failed : Bool) → old.stop ≡ stop → failed ≡ false → HearsUnless (take_fault_of stop failed) text old new result →
        ((old.stop ≡ None) × HearsOn text old new result) ⊎ (result ≡ Err take.Memory)
    by None true is going w = absurd (true≢false going)
    by None false is going w = inl (is, w)
    by (Some (Refused n)) failed is going w = absurd (cc (sym (ap (λ o. is_none (rule_of o)) is) ∙ second_true (not old.own.client.is_failed) (is_none (rule_of old.stop)) on))
    by (Some OutOfMemory) failed is going w = inr w.0

-- `Idle` never comes where it goes on
pub never_idle : (text : List ℕ) (old new : RevivedState) → goes_on (look_of old) ≡ true → Hears {X = Unit {0}} text old new (Err take.Idle) → ⊥
never_idle text old new on d =
    let r : Result (Unit {0}) TakeFault = Err take.Idle in
    elim (hears_on text old new r on d) [ inl w ↦ true≢false w.1 | inr e ↦ cc e ]

-- behind a text that was taken nothing was refused
heard_whole : {X : Type 0} (text : List ℕ) (old new : RevivedState) (x : X) → old.stop ≡ None → HearsOn text old new (Ok x) → (look_of new).broken ≡ None
heard_whole text old new x none d =
    ap (λ (v : RevivedState). (look_of v).broken) d.1
    ∙ (ap (λ n. (look_of (left_by n (given (hears old.revival text).texts old.own) (record old { revival = (hears old.revival text).revival }))).broken) d.0
    ∙ ap rule_of none)

pub hears_taken : {X : Type 0} (text : List ℕ) (old new : RevivedState) (x : X) → goes_on (look_of old) ≡ true → Hears text old new (Ok x) →
    new.own.client.is_failed ≡ false → speaking.Hears look_of Does {F = Mem} old text new (Ok answer.Taken)
hears_taken text old new x on d going =
    elim (hears_on text old new (Ok x) on d) [ inl w ↦ (w.1.1, (going, heard_whole text old new x w.0 w.1)) | inr e ↦ absurd (cc e) ]

pub hears_failed : {X : Type 0} (text : List ℕ) (old new : RevivedState) (x : X) → goes_on (look_of old) ≡ true → Hears text old new (Ok x) →
    new.own.client.is_failed ≡ true → speaking.Hears look_of Does {F = Mem} old text new (Ok answer.Failed)
hears_failed text old new x on d failed =
    elim (hears_on text old new (Ok x) on d) [ inl w ↦ (w.1.1, (failed, heard_whole text old new x w.0 w.1)) | inr e ↦ absurd (cc e) ]

taking : (old : RevivedState) → goes_on (look_of old) ≡ true → old.own.client.broken ≡ None → can_take old.own.client ≡ true
taking old on whole = takes_on old.own.client (not_failed old on) whole

-- a text that was refused
refused_look : (text : List ℕ) (old new : RevivedState) (n : ℕ) → goes_on (look_of old) ≡ true → old.own.client.broken ≡ None →
    refusal text old ≡ Some n → new ≡ heard text old → IsHeard (look_of new) (answer.Refused n)
refused_look text old new n on whole is now =
    let g = given (hears old.revival text).texts old.own in
    let v : RevivedState = record old { revival = (hears old.revival text).revival } in
    let left : new ≡ left_by (Some n) g v = now ∙ ap (λ m. left_by m g v) is in (
      ap (λ (s : RevivedState). (look_of s).is_failed) left ∙ refused_going old.revival text old.own n (taking old on whole) is,
      ap (λ (s : RevivedState). (look_of s).broken) left,
    )

pub hears_refused : (text : List ℕ) (old new : RevivedState) (n : ℕ) → goes_on (look_of old) ≡ true → (old.stop ≡ None → old.own.client.broken ≡ None) →
    Hears {X = Unit {0}} text old new (Err (take.ServerSent n)) → speaking.Hears look_of Does {F = Mem} old text new (Ok (answer.Refused n))
hears_refused text old new n on whole d =
    let r : Result (Unit {0}) TakeFault = Err (take.ServerSent n) in
    elim (hears_on text old new r on d) [ inl w ↦ (w.1.1, refused_look text old new n on (whole w.0) w.1.0 w.1.1) | inr e ↦ absurd (cc e) ]

-- ---- what it says

pub says_none : (old new : RevivedState) → Says old new None → speaking.Says look_of Does old new None
says_none old new d = by old.stop refl d
  where
    by : (stop : Option Stop) → old.stop ≡ stop → SaysUnless stop old new None → ((look_of old).waiting ≡ []) × (new ≡ old)
    by None is w = (
      ap (λ o. cond (is_none o) old.revival.waiting []) is ∙ none_waits old.revival.waiting (sym w.0),
      w.1 ∙ ap (λ r. record old { revival = r }) (none_waits-at_all old.revival (sym w.0)),
    )
    by (Some stop) is w = (ap (λ o. cond (is_none o) old.revival.waiting []) is, w.1)

pub says_some : (old new : RevivedState) (text : List ℕ) → Says old new (Some text) → speaking.Says look_of Does old new (Some text)
says_some old new text d = by old.stop d
  where
    by : (stop : Option Stop) → SaysUnless stop old new (Some text) →
        ((old.revival.waiting ≡ text ∷ new.revival.waiting) × (new ≡ record old { revival = says old.revival })) × GoesOnAs (look_of old) (look_of new)
    by None w = (
      (
        some_first old.revival.waiting text (sym w.0) ∙ ap (λ ws. text ∷ ws) (sym (ap (λ (v : RevivedState). v.revival.waiting) w.1)),
        w.1,
      ),
      record {
        failed = ap (λ (v : RevivedState). (look_of v).is_failed) w.1;
        broken = ap (λ (v : RevivedState). (look_of v).broken) w.1;
      },
    )
    by (Some stop) w = absurd (cc w.0)

-- ---- what is seen of its client

pub quiet_connected : (own own' : Own) → quiet own ≡ own' → is_connected own.client ≡ is_connected own'.client
quiet_connected own own' is = ap (λ (o : Own). is_connected o.client) is

pub quiet_settled : (own own' : Own) → quiet own ≡ own' → is_settled own.client ≡ is_settled own'.client
quiet_settled own own' is = ap (λ (o : Own). is_settled o.client) is

pub quiet_failed : (own own' : Own) → quiet own ≡ own' → own.client.is_failed ≡ own'.client.is_failed
quiet_failed own own' is = ap (λ (o : Own). o.client.is_failed) is

pub quiet_lines : (own own' : Own) → quiet own ≡ own' → line_texts (show_lines own) ≡ line_texts (show_lines own')
quiet_lines own own' is = ap (λ (o : Own). line_texts (show_lines o)) is
