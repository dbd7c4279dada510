-- The state of a client that lives through several links, behind what it did.
use Rattle.std.specs.Prelude.{◌≡◌, ◌<◌, ◌≤◌, ◌+◌, ◌++◌, ◌∷◌, [], ℕ, suc, List, length, Bool, true, false, Option, Some, None, is_some, Result, Ok, Err, OnOk, refl}
use Rattle.std.proofs.Common.{ap, ap₂, sym, subst, ◌∙◌, arith, drop, get_or, true≢false, length-append}
use Rattle.std.proofs.Math.Seq.{drop-cons}
use Rattle.std.proofs.lemmas.List.{drop_all}
use Rattle.client_model.specs.Asking.{can_take}
use Rattle.value_model.specs.Val.{Val}
use Rattle.client_core.specs.State.{Own}
use Rattle.client_model.specs.Showing.{IsShown}
use Rattle.client_core.specs.Asked.{next_number, called_by, IsSent}
use Rattle.client_core.specs.Taken.{Takes}
use Rattle.client_core.specs.declared.fault.ClientFault.{ClientFault}
use Rattle.client_core.specs.declared.fault.ClientFault.TheVariants as fault
use Rattle.client_core.specs.declared.fault.TakeFault.{TakeFault}
use Rattle.client_core.specs.declared.fault.TakeFault.TheVariants as take
use Rattle.client_script.specs.declared.line.Ask.{Ask}
use Rattle.client_script.specs.declared.line.Ask.TheVariants as ask
use Rattle.console_run.specs.Speaking.{can, asked, told}
use Rattle.reconnect_model.specs.Revival.{Revival}
use Rattle.reconnect_model.specs.Saying.{queues}
use Rattle.reconnect_model.specs.Giving.{hears}
use Rattle.revived_client.specs.declared.client.Stop.{Stop}
use Rattle.revived_client.specs.declared.client.Stop.TheVariants.{Refused, OutOfMemory}
use Rattle.revived_client.specs.declared.last.Last.{Last}
use Rattle.revived_client.specs.State.{RevivedState, quiet, all_queued, spoken}
use Rattle.client_model.specs.Client.{Client}
use Rattle.app_model.specs.App.{App}
use Rattle.console_run.specs.Console.{begun}
use Rattle.reconnect_model.specs.Revival.{new_revival}
use Rattle.reconnect_model.specs.Saying.{first_of, says, loses}
use Rattle.reconnect_laws.specs.Given.{all_given}
use Rattle.reconnect_laws.specs.Kept.{IsFaithful}
use Rattle.reconnect_laws.specs.GivenLaws.{faithful_new, faithful_as, faithful_queues, faithful_says, faithful_loses, faithful_hears, has_what_was_sent}
use Rattle.revived_client.specs.Copies.{AsksCopy}
use Rattle.revived_client.specs.Faithful.{HasWhatWasGiven, HasWhatWasSent}
use Rattle.revived_client.specs.Last.{caught_up, IsNext, IsGoing}
use Rattle.revived_client.specs.Asking.{fault_of, take_fault_of, Does, DoesUnless, MayRefuse, Asks, SaysUnless, Says}
use Rattle.revived_client.specs.Hearing.{given, refused_first, left_by, refusal, heard, AreFor, IsGiven, HearsOn, Hears, HearsUnless, HearsBoth, stop_of}
use Rattle.revived_client.proofs.Catching.{queues_broken, all_queued-broken, caught_up-broken}
use Rattle.revived_client.proofs.Hearing.{given_on, given_to, takes_on, told_breaks, going_whole, broken_off, failed_off}

-- a client without texts is itself without its texts
pub quiet_is : (own : Own) → own.client.waiting ≡ [] → quiet own ≡ own
quiet_is own e = ap (λ ws. record own { client = record own.client { waiting = ws } }) (sym e)

-- what is left of a state once the client did what it was asked for, and its text waits
pub asks_is : (ask : Ask) (a new : Own) (r : Revival) (text : List ℕ) (stop : Option Stop) → a.client.waiting ≡ [] → new ≡ asked ask a →
    new.client.waiting ≡ a.client.waiting ++ text ∷ [] →
    (let left : RevivedState = record { own = quiet new; revival = queues r text; stop = stop } in left)
    ≡ spoken (asked ask (quiet a)) (record { own = quiet a; revival = r; stop = stop })
asks_is ask a new r text stop none does texts =
    let one : new.client.waiting ≡ text ∷ [] = texts ∙ ap (λ ws. ws ++ text ∷ []) none in
    let same : asked ask (quiet a) ≡ new = ap (asked ask) (quiet_is a none) ∙ sym does in
    let said : RevivedState = record { own = quiet a; revival = r; stop = stop } in
    sym (ap (λ o. spoken o said) same ∙ ap (λ ws. record said { own = quiet new; revival = all_queued r ws }) one)

-- the next text of a list
next_of : (items : List (List ℕ)) (i : ℕ) (text : List ℕ) → i < length items → text ≡ get_or items i text → drop i items ≡ text ∷ drop (i + 1) items
next_of items i text less is =
    let next : suc i ≡ i + 1 = omega arith in
    drop-cons items i text less ∙ (ap (λ x. x ∷ drop (suc i) items) (sym is) ∙ ap (λ n. text ∷ drop n items) next)

pub given_next : (items : List (List ℕ)) (i : ℕ) (text : List ℕ) (own new : Own) → i < length items → text ≡ get_or items i text → new ≡ told text own →
    can_take new.client ≡ true → given (drop i items) own ≡ given (drop (i + 1) items) new
given_next items i text own new less is does on =
    ap (λ ts. given ts own) (next_of items i text less is) ∙ given_on text (drop (i + 1) items) own new does on

-- ---- a client that goes on

abbrev pub state_of : Own → Revival → Option Stop → RevivedState
state_of a r stop = record { own = quiet a; revival = r; stop = stop }

pub no_fault : (stop : Option Stop) → fault_of stop ≡ None → stop ≡ None
no_fault None e = refl
no_fault (Some (Refused n)) e = cc e
no_fault (Some OutOfMemory) e = cc e

pub no_take_fault : (stop : Option Stop) (failed : Bool) → take_fault_of stop failed ≡ None → (stop ≡ None) × (failed ≡ false)
no_take_fault None true e = absurd (cc e)
no_take_fault None false e = (refl, refl)
no_take_fault (Some (Refused n)) failed e = absurd (cc e)
no_take_fault (Some OutOfMemory) failed e = absurd (cc e)

-- ---- what it has

quiet_faithful : (own : Own) (r : Revival) → IsFaithful own.client r → IsFaithful (quiet own).client r
quiet_faithful own r w = faithful_as own.client (quiet own).client r refl w

queued_faithful : (c : Client) (r : Revival) (texts : List (List ℕ)) → IsFaithful c r → IsFaithful c (all_queued r texts)
queued_faithful c r [] w = w
queued_faithful c r (text ∷ texts) w = queued_faithful c (queues r text) texts (faithful_queues c r text w)

asked_server : (a : Ask) (own : Own) → (asked a own).client.documents.server ≡ own.client.documents.server
asked_server (ask.Sub id name params) own = refl
asked_server (ask.Unsub id) own = refl
asked_server (ask.Call method params) own = refl

-- it has what it is remembered to have been given, and so what was sent
pub has_given : (own : Own) (r : Revival) (last : Option Last) (stop : Option Stop) → (stop ≡ None → IsGoing own.client r last) →
    HasWhatWasGiven (state_of own (caught_up r last) stop)
has_given own r last stop goes going = (goes going).faithful.server

pub has_sent : (own : Own) (r : Revival) (last : Option Last) (stop : Option Stop) → (stop ≡ None → IsGoing own.client r last) →
    HasWhatWasSent (state_of own (caught_up r last) stop)
has_sent own r last stop goes going revived = has_what_was_sent own.client (caught_up r last) ((goes going).faithful) revived

-- at the beginning
pub goes_new : (app : App) (own : Own) (r : Revival) → own ≡ quiet (begun app) → r ≡ all_queued new_revival (begun app).client.waiting → IsGoing own.client r None
goes_new app own r is queued =
    let P : Own → Type 0 = λ o. IsFaithful o.client r in
    let Q : Revival → Type 0 = λ v. IsFaithful (quiet (begun app)).client v in
    record {
      quiet = ap (λ (o : Own). o.client.waiting) is;
      whole = ap (λ (o : Own). o.client.broken) is;
      unbroken = ap (λ (v : Revival). v.broken) queued ∙ all_queued-broken new_revival (begun app).client.waiting;
      next = tt;
      faithful = subst P (sym is) (subst Q (sym queued)
          (queued_faithful (quiet (begun app)).client new_revival (begun app).client.waiting (quiet_faithful (begun app) new_revival faithful_new)));
    }

-- ---- what it is asked for

can_quiet : (a : Own) (ask : Ask) → a.client.waiting ≡ [] → can (quiet a) ask ≡ can a ask
can_quiet a ask none = ap (λ o. can o ask) (quiet_is a none)

-- it did it, and its text waits
pub asks_done : {X : Type 0} (ask : Ask) (a a2 a3 : Own) (r : Revival) (text : List ℕ) (x : X) → a.client.waiting ≡ [] → AsksCopy ask a a2 (Ok text) → a3 ≡ quiet a2 →
    Asks ask (state_of a r None) (state_of a3 (queues r text) None) (Ok x)
asks_done ask a a2 a3 r text x none d same = (
  can_quiet a ask none ∙ d.0,
  ap (λ o. state_of o (queues r text) None) same ∙ asks_is ask a a2 r text None none d.1 d.2,
)

-- it refused
pub asks_refused : (X : Type 0) (ask : Ask) (a a2 : Own) (r : Revival) (f : ClientFault) → a.client.waiting ≡ [] → AsksCopy ask a a2 (Err f) →
    Asks {X = X} ask (state_of a r None) (state_of a2 r None) (Err f)
asks_refused X ask a a2 r fault.Idle none d = (can_quiet a ask none ∙ d.0, ap (λ o. state_of o r None) d.1)
asks_refused X ask a a2 r fault.Memory none d = ap (λ o. state_of o r None) d

asked_broken : (a : Ask) (own : Own) → (asked a own).client.broken ≡ own.client.broken
asked_broken (ask.Sub id name params) own = refl
asked_broken (ask.Unsub id) own = refl
asked_broken (ask.Call method params) own = refl

refused_same : (a : Ask) (old new : Own) (f : ClientFault) → AsksCopy a old new (Err f) → new ≡ old
refused_same a old new fault.Idle d = d.1
refused_same a old new fault.Memory d = d

-- it goes on then
pub goes_done : (a : Ask) (old new new2 : Own) (r : Revival) (text : List ℕ) → IsGoing old.client r None → AsksCopy a old new (Ok text) → new2 ≡ quiet new →
    IsGoing new2.client r (Some (record { text = text; unsaid = Some text }))
goes_done a old new new2 r text w d same = record {
  quiet = ap (λ (o : Own). o.client.waiting) same;
  whole = ap (λ (o : Own). o.client.broken) same ∙ (ap (λ (o : Own). o.client.broken) d.1 ∙ (asked_broken a old ∙ w.whole));
  unbroken = w.unbroken;
  next = refl;
  faithful =
      let P : Own → Type 0 = λ o. IsFaithful o.client (queues r text) in
      let server = ap (λ (o : Own). o.client.documents.server) d.1 ∙ asked_server a old in
      subst P (sym same) (quiet_faithful new (queues r text) (faithful_queues new.client r text (faithful_as old.client new.client r server w.faithful)));
}

pub goes_refused : (a : Ask) (old new : Own) (r : Revival) (f : ClientFault) → IsGoing old.client r None → AsksCopy a old new (Err f) → IsGoing new.client r None
goes_refused a old new r f w d = subst (λ (o : Own). IsGoing o.client r None) (sym (refused_same a old new f d)) w

-- once the reviver knows the text that was queued last
pub goes_caught_up : (own : Own) (r r2 : Revival) (last : Option Last) → IsGoing own.client r last → r2 ≡ caught_up r last → IsGoing own.client r2 None
goes_caught_up own r r2 last w is = record {
  quiet = w.quiet;
  whole = w.whole;
  unbroken = ap (λ (v : Revival). v.broken) is ∙ (caught_up-broken r last ∙ w.unbroken);
  next = tt;
  faithful = let P : Revival → Type 0 = λ v. IsFaithful own.client v in subst P (sym is) w.faithful;
}

-- once a text was said
pub goes_said : (own : Own) (r r2 : Revival) (last last2 : Option Last) → IsGoing own.client r last → caught_up r2 last2 ≡ says (caught_up r last) → IsNext r2 last2 →
    r2.broken ≡ r.broken → IsGoing own.client r2 last2
goes_said own r r2 last last2 w said next same = record {
  quiet = w.quiet;
  whole = w.whole;
  unbroken = same ∙ w.unbroken;
  next = next;
  faithful = let P : Revival → Type 0 = λ v. IsFaithful own.client v in subst P (sym said) (faithful_says own.client (caught_up r last) w.faithful);
}

-- once the link was lost
lost_goes : (own : Own) (r r2 : Revival) → IsGoing own.client r None → r2 ≡ loses r → IsGoing own.client r2 None
lost_goes own r r2 w is = record {
  quiet = w.quiet;
  whole = w.whole;
  unbroken = ap (λ (v : Revival). v.broken) is ∙ w.unbroken;
  next = tt;
  faithful = let P : Revival → Type 0 = λ v. IsFaithful own.client v in subst P (sym is) (faithful_loses own.client r w.faithful);
}

-- ---- what it hears

first_none : (a b : Option ℕ) → refused_first a b ≡ None → a ≡ None
first_none None b e = refl
first_none (Some n) b e = cc e

second_none : (a b : Option ℕ) → refused_first a b ≡ None → b ≡ None
second_none None b e = e
second_none (Some n) b e = cc e

refusal_is : (text : List ℕ) (a : Own) (r : Revival) → a.client.waiting ≡ [] →
    refusal text (state_of a r None) ≡ refused_first (hears r text).revival.broken (given (hears r text).texts a).client.broken
refusal_is text a r none = ap (λ o. refused_first (hears r text).revival.broken (given (hears r text).texts o).client.broken) (quiet_is a none)

-- what is left of it
left_is : (text : List ℕ) (a : Own) (r : Revival) (n : Option ℕ) → a.client.waiting ≡ [] → refusal text (state_of a r None) ≡ n →
    heard text (state_of a r None) ≡ left_by n (given (hears r text).texts a) (record { own = quiet a; revival = (hears r text).revival; stop = None })
left_is text a r n none is =
    let h = hears r text in
    let v : RevivedState = record { own = quiet a; revival = h.revival; stop = None } in
    ap (λ m. left_by m (given h.texts (quiet a)) v) is ∙ ap (λ o. left_by n (given h.texts o) v) (quiet_is a none)

pub hears_so : {X : Type 0} (text : List ℕ) (a a2 : Own) (r r2 : Revival) (result : Result X TakeFault) → a.client.waiting ≡ [] → HearsBoth text a r a2 r2 result →
    HearsOn text (state_of a r None) (state_of a2 r2 (stop_of result)) result
hears_so text a a2 r r2 (Ok x) none d =
    let is = refusal_is text a r none ∙ d.0 in
    (is, ap₂ (λ o v. state_of o v None) d.1 d.2 ∙ sym (left_is text a r None none is))
hears_so text a a2 r r2 (Err (take.ServerSent n)) none d =
    let is = refusal_is text a r none ∙ d.0 in
    let f : Own → Revival → RevivedState = λ o v. record { own = o; revival = v; stop = Some (Refused n) } in
    (is, ap₂ f d.1 d.2 ∙ sym (left_is text a r (Some n) none is))
hears_so text a a2 r r2 (Err take.Idle) none d = absurd (cc d)
hears_so text a a2 r r2 (Err take.Memory) none d = refl

pub goes_heard : {X : Type 0} (text : List ℕ) (a a2 : Own) (r r2 : Revival) (result : Result X TakeFault) → can_take a.client ≡ true → IsGoing a.client r None →
    HearsBoth text a r a2 r2 result → stop_of result ≡ None → IsGoing a2.client r2 None
goes_heard text a a2 r r2 (Ok x) on w d going =
    let h = hears r text in
    let g = given h.texts a in
    let whole : g.client.broken ≡ None = second_none h.revival.broken g.client.broken d.0 in
    let P : Own → Type 0 = λ o. IsFaithful o.client r2 in
    let Q : Revival → Type 0 = λ v. IsFaithful (quiet g).client v in
    record {
      quiet = ap (λ (o : Own). o.client.waiting) d.1;
      whole = ap (λ (o : Own). o.client.broken) d.1 ∙ whole;
      unbroken = ap (λ (v : Revival). v.broken) d.2 ∙ (all_queued-broken h.revival g.client.waiting ∙ first_none h.revival.broken g.client.broken d.0);
      next = tt;
      faithful = subst P (sym d.1) (subst Q (sym d.2)
          (queued_faithful (quiet g).client h.revival g.client.waiting (quiet_faithful g h.revival (faithful_hears a.client r text on whole w.faithful))));
    }
goes_heard text a a2 r r2 (Err (take.ServerSent n)) on w d going = absurd (cc going)
goes_heard text a a2 r r2 (Err take.Idle) on w d going = absurd (cc going)
goes_heard text a a2 r r2 (Err take.Memory) on w d going = absurd (cc going)

-- a client that takes texts
pub heard_so : {X : Type 0} (text : List ℕ) (old new : RevivedState) (result : Result X TakeFault) → take_fault_of old.stop old.own.client.is_failed ≡ None →
    HearsOn text old new result → Hears text old new result
heard_so text old new result on d = subst (λ f. HearsUnless f text old new result) (sym on) d

-- ---- the calls, from what each of their parts did

abbrev pub view_of : Own → Revival → Option Last → Option Stop → RevivedState
view_of a r last stop = record { own = quiet a; revival = caught_up r last; stop = stop }

refuses_by : (X : Type 0) (o : Option ClientFault) (done : RevivedState) (on : Bool) (old : RevivedState) (f : ClientFault) → MayRefuse o f →
    DoesUnless {X = X} o on done old old (Err f)
refuses_by X None done on old fault.Memory may = refl
refuses_by X None done on old fault.Idle may = absurd (cc may)
refuses_by X (Some reason) done on old f may = (ap Err may, refl)

-- it is not ready
pub not_ready : (X : Type 0) (on : Bool) (done : RevivedState) (a : Own) (r r2 : Revival) (last last2 : Option Last) (stop : Option Stop) (f : ClientFault) →
    MayRefuse (fault_of stop) f → r2 ≡ r → last2 ≡ last → DoesUnless {X = X} (fault_of stop) on done (view_of a r last stop) (view_of a r2 last2 stop) (Err f)
not_ready X on done a r r2 last last2 stop f may same still =
    let P : RevivedState → Type 0 = λ v. DoesUnless {X = X} (fault_of stop) on done (view_of a r last stop) v (Err f) in
    subst P (sym (ap₂ (λ v l. view_of a v l stop) same still)) (refuses_by X (fault_of stop) done on (view_of a r last stop) f may)

pub still_goes : (a : Own) (r r2 : Revival) (last last2 : Option Last) → IsGoing a.client r last → r2 ≡ r → last2 ≡ last → IsGoing a.client r2 last2
still_goes a r r2 last last2 w same still =
    let P : Revival → Type 0 = λ v. IsGoing a.client v last2 in
    let Q : Option Last → Type 0 = λ l. IsGoing a.client r l in
    subst P (sym same) (subst Q (sym still) w)

-- what is remembered, once the reviver knows the text that was queued last
known : (a : Own) (r r2 : Revival) (last last2 : Option Last) (stop : Option Stop) → stop ≡ None → r2 ≡ caught_up r last → last2 ≡ None →
    view_of a r last stop ≡ state_of a r2 None
known a r r2 last last2 stop on is none =
    let f : Revival → Option Stop → RevivedState = λ v s. record { own = quiet a; revival = v; stop = s } in
    ap₂ f (sym is) on

-- it was asked for something and did it
pub ask_ok : {X : Type 0} (ask : Ask) (a a2 a3 : Own) (r r2 : Revival) (last last2 last3 : Option Last) (stop : Option Stop) (text : List ℕ) (x : X) →
    (stop ≡ None → IsGoing a.client r last) → stop ≡ None → r2 ≡ caught_up r last → last2 ≡ None → AsksCopy ask a a2 (Ok text) → a3 ≡ quiet a2 →
    last3 ≡ Some (record { text = text; unsaid = Some text }) → Asks ask (view_of a r last stop) (view_of a3 r2 last3 stop) (Ok x)
ask_ok ask a a2 a3 r r2 last last2 last3 stop text x goes on is none d same left =
    let P : RevivedState → Type 0 = λ v. Asks ask v (view_of a3 r2 last3 stop) (Ok x) in
    let Q : RevivedState → Type 0 = λ v. Asks ask (state_of a r2 None) v (Ok x) in
    subst P (sym (known a r r2 last last2 stop on is none))
    (subst Q (sym (ap₂ (λ l s. view_of a3 r2 l s) left on)) (asks_done ask a a2 a3 r2 text x ((goes on).quiet) d same))

pub ask_err : (X : Type 0) (ask : Ask) (a a2 : Own) (r r2 : Revival) (last last2 : Option Last) (stop : Option Stop) (f : ClientFault) →
    (stop ≡ None → IsGoing a.client r last) → stop ≡ None → r2 ≡ caught_up r last → last2 ≡ None → AsksCopy ask a a2 (Err f) →
    Asks {X = X} ask (view_of a r last stop) (view_of a2 r2 last2 stop) (Err f)
ask_err X ask a a2 r r2 last last2 stop f goes on is none d =
    let P : RevivedState → Type 0 = λ v. Asks {X = X} ask v (view_of a2 r2 last2 stop) (Err f) in
    let Q : RevivedState → Type 0 = λ v. Asks {X = X} ask (state_of a r2 None) v (Err f) in
    subst P (sym (known a r r2 last last2 stop on is none))
    (subst Q (sym (ap₂ (λ l s. view_of a2 r2 l s) none on)) (asks_refused X ask a a2 r2 f ((goes on).quiet) d))

pub going_ok : (ask : Ask) (a a2 a3 : Own) (r r2 : Revival) (last last2 last3 : Option Last) (text : List ℕ) → IsGoing a.client r last → r2 ≡ caught_up r last → last2 ≡ None →
    AsksCopy ask a a2 (Ok text) → a3 ≡ quiet a2 → last3 ≡ Some (record { text = text; unsaid = Some text }) → IsGoing a3.client r2 last3
going_ok ask a a2 a3 r r2 last last2 last3 text w is none d same left =
    let P : Option Last → Type 0 = λ l. IsGoing a3.client r2 l in
    subst P (sym left) (goes_done ask a a2 a3 r2 text (goes_caught_up a r r2 last w is) d same)

pub going_err : (ask : Ask) (a a2 : Own) (r r2 : Revival) (last last2 : Option Last) (f : ClientFault) → IsGoing a.client r last → r2 ≡ caught_up r last → last2 ≡ None →
    AsksCopy ask a a2 (Err f) → IsGoing a2.client r2 last2
going_err ask a a2 r r2 last last2 f w is none d =
    let P : Option Last → Type 0 = λ l. IsGoing a2.client r2 l in
    subst P (sym none) (goes_refused ask a a2 r2 f (goes_caught_up a r r2 last w is) d)

-- the text that waits in the client, once it did what it was asked for
pub one_waits : (ask : Ask) (a a2 : Own) (text : List ℕ) → a.client.waiting ≡ [] → AsksCopy ask a a2 (Ok text) → a2.client.waiting ≡ text ∷ []
one_waits ask a a2 text none d = d.2 ∙ ap (λ ws. ws ++ text ∷ []) none

-- ---- a text that was heard

pub heard_goes : {X : Type 0} (text : List ℕ) (a a2 : Own) (r r2 : Revival) (last last2 : Option Last) (result : Result X TakeFault) → can_take a.client ≡ true →
    IsGoing a.client r last → HearsBoth text a (caught_up r last) a2 (caught_up r2 last2) result → (stop_of result ≡ None → last2 ≡ None) → stop_of result ≡ None →
    IsGoing a2.client r2 last2
heard_goes text a a2 r r2 last last2 result on w d none going =
    let P : Option Last → Type 0 = λ l. IsGoing a2.client r2 l in
    let Q : Option Last → Type 0 = λ l. HearsBoth text a (caught_up r last) a2 (caught_up r2 l) result in
    let gone : last2 ≡ None = none going in
    subst P (sym gone) (goes_heard text a a2 (caught_up r last) r2 result on (goes_caught_up a r (caught_up r last) last w refl) (subst Q gone d) going)

pub heard_is : {X : Type 0} (text : List ℕ) (a a2 : Own) (r r2 : Revival) (last last2 : Option Last) (stop stop2 : Option Stop) (failed : Bool) (result : Result X TakeFault) →
    (stop ≡ None → IsGoing a.client r last) → failed ≡ a.client.is_failed → None ≡ take_fault_of stop failed →
    HearsBoth text a (caught_up r last) a2 (caught_up r2 last2) result → stop2 ≡ stop_of result → Hears text (view_of a r last stop) (view_of a2 r2 last2 stop2) result
heard_is text a a2 r r2 last last2 stop stop2 failed result goes is free d ends =
    let on = no_take_fault stop failed (sym free) in
    let P : RevivedState → Type 0 = λ v. HearsOn text v (view_of a2 r2 last2 stop2) result in
    let Q : RevivedState → Type 0 = λ v. HearsOn text (state_of a (caught_up r last) None) v result in
    let same : stop ≡ None = on.0 in
    heard_so text (view_of a r last stop) (view_of a2 r2 last2 stop2) result (ap (take_fault_of stop) (sym is) ∙ sym free)
    (subst P (sym (ap (state_of a (caught_up r last)) same))
    (subst Q (sym (ap (state_of a2 (caught_up r2 last2)) ends)) (hears_so text a a2 (caught_up r last) (caught_up r2 last2) result ((goes same).quiet) d)))

-- ---- a link that was lost

pub lose_ok : {X : Type 0} (a : Own) (r r2 r3 : Revival) (last last2 : Option Last) (stop : Option Stop) (x : X) → stop ≡ None → r2 ≡ caught_up r last → last2 ≡ None → r3 ≡ loses r2 →
    DoesUnless (fault_of stop) true (record { own = quiet a; revival = loses (caught_up r last); stop = stop }) (view_of a r last stop) (view_of a r3 last2 stop) (Ok x)
lose_ok a r r2 r3 last last2 stop x on is none lost =
    let done : RevivedState = record { own = quiet a; revival = loses (caught_up r last); stop = stop } in
    let now : view_of a r3 last2 stop ≡ done = ap (λ l. view_of a r3 l stop) none ∙ ap (λ v. state_of a v stop) (lost ∙ ap loses is) in
    let P : Option ClientFault → Type 0 = λ f. DoesUnless f true done (view_of a r last stop) (view_of a r3 last2 stop) (Ok x) in
    subst P (sym (ap fault_of on)) (refl, now)

pub lose_err : (X : Type 0) (done : RevivedState) (a : Own) (r r2 r3 : Revival) (last last2 : Option Last) (stop : Option Stop) → stop ≡ None → r2 ≡ caught_up r last → last2 ≡ None → r3 ≡ r2 →
    DoesUnless {X = X} (fault_of stop) true done (view_of a r last stop) (view_of a r3 last2 stop) (Err fault.Memory)
lose_err X done a r r2 r3 last last2 stop on is none same =
    let now : view_of a r3 last2 stop ≡ view_of a r last stop = ap (λ l. view_of a r3 l stop) none ∙ ap (λ v. state_of a v stop) (same ∙ is) in
    let P : Option ClientFault → Type 0 = λ f. DoesUnless {X = X} f true done (view_of a r last stop) (view_of a r3 last2 stop) (Err fault.Memory) in
    subst P (sym (ap fault_of on)) now

pub goes_lost : (a : Own) (r r2 r3 : Revival) (last last2 : Option Last) → IsGoing a.client r last → r2 ≡ caught_up r last → last2 ≡ None → r3 ≡ loses r2 → IsGoing a.client r3 last2
goes_lost a r r2 r3 last last2 w is none lost =
    let P : Option Last → Type 0 = λ l. IsGoing a.client r3 l in
    subst P (sym none) (lost_goes a r2 r3 (goes_caught_up a r r2 last w is) lost)

pub goes_kept : (a : Own) (r r2 r3 : Revival) (last last2 : Option Last) → IsGoing a.client r last → r2 ≡ caught_up r last → last2 ≡ None → r3 ≡ r2 → IsGoing a.client r3 last2
goes_kept a r r2 r3 last last2 w is none same =
    let P : Option Last → Type 0 = λ l. IsGoing a.client r3 l in
    subst P (sym none) (goes_caught_up a r r3 last w (same ∙ is))

-- ---- a text that is said

pub said_ok : (a : Own) (r r2 : Revival) (last last2 : Option Last) (stop : Option Stop) (text : Option (List ℕ)) → stop ≡ None → text ≡ first_of (caught_up r last).waiting →
    caught_up r2 last2 ≡ says (caught_up r last) → Says (view_of a r last stop) (view_of a r2 last2 stop) text
said_ok a r r2 last last2 stop text on is says =
    let P : Option Stop → Type 0 = λ o. SaysUnless o (view_of a r last stop) (view_of a r2 last2 stop) text in
    subst P (sym on) (is, ap (λ v. state_of a v stop) says)

pub said_nothing : (v : RevivedState) (stop : Option Stop) → v.stop ≡ stop → is_some stop ≡ true → Says v v None
said_nothing v None is some = absurd (true≢false (sym some))
said_nothing v (Some stop) is some =
    let P : Option Stop → Type 0 = λ o. SaysUnless o v v None in
    subst P (sym is) (refl, refl)

pub not_stopped : (stop : Option Stop) → is_some stop ≡ false → stop ≡ None
not_stopped None e = refl
not_stopped (Some stop) e = absurd (true≢false e)

-- ---- one that is not ready does nothing that it is asked for

pub ask_not_ready : (X : Type 0) (ask : Ask) (a : Own) (r r2 : Revival) (last last2 : Option Last) (stop : Option Stop) (f : ClientFault) → MayRefuse (fault_of stop) f → r2 ≡ r →
    last2 ≡ last → Asks {X = X} ask (view_of a r last stop) (view_of a r2 last2 stop) (Err f)
ask_not_ready X ask a r r2 last last2 stop f may same still =
    not_ready X (can (quiet a) ask) (spoken (asked ask (quiet a)) (view_of a r last stop)) a r r2 last last2 stop f may same still

-- ---- the answers, from what was seen before

pub asks_at : (X : Type 0) (ask : Ask) (was old new : RevivedState) (f : ClientFault) (result : Result X ClientFault) → was ≡ old → result ≡ Err f →
    Asks {X = X} ask was new (Err f) → Asks {X = X} ask old new result
asks_at X ask was old new f result is err d =
    let P : RevivedState → Type 0 = λ v. Asks {X = X} ask v new result in
    let Q : Result X ClientFault → Type 0 = λ r. Asks {X = X} ask was new r in
    subst P is (subst Q (sym err) d)

abbrev pub Loses : (X : Type 0) → RevivedState → RevivedState → Result X ClientFault → Type 0
Loses X old new result = DoesUnless {X = X} (fault_of old.stop) true (record old { revival = loses old.revival }) old new result

pub loses_at : (X : Type 0) (was old new : RevivedState) (f : ClientFault) (result : Result X ClientFault) → was ≡ old → result ≡ Err f → Loses X was new (Err f) → Loses X old new result
loses_at X was old new f result is err d =
    let P : RevivedState → Type 0 = λ v. Loses X v new result in
    let Q : Result X ClientFault → Type 0 = λ r. Loses X was new r in
    subst P is (subst Q (sym err) d)

pub call_number : (method : List ℕ) (params : List Val) (a a2 a3 : Own) (old : RevivedState) (r : Revival) (last : Option Last) (stop : Option Stop) (text : List ℕ) (n : ℕ) →
    view_of a r last stop ≡ old → AsksCopy (ask.Call method params) a a2 (Ok text) → a3 ≡ quiet a2 → n ≡ length a3.client.calls → n ≡ next_number old.own
call_number method params a a2 a3 old r last stop text n is d same count =
    let more = length-append a.client.calls (record { outcome = None; is_updated = false } ∷ []) in
    let next : length (called_by method params a).client.calls ≡ next_number a = omega (arith, more) in
    count
    ∙ (ap (λ (o : Own). length o.client.calls) same
    ∙ (ap (λ (o : Own). length o.client.calls) d.1 ∙ (next ∙ ap (λ (v : RevivedState). next_number v.own) is)))

-- ---- what is heard where no text is taken

pub heard_not : {X : Type 0} (text : List ℕ) (v : RevivedState) (f : TakeFault) (result : Result X TakeFault) → Some f ≡ take_fault_of v.stop v.own.client.is_failed → result ≡ Err f →
    Hears text v v result
heard_not text v f result some err =
    let P : Option TakeFault → Type 0 = λ o. HearsUnless o text v v result in
    subst P some (err, refl)

-- ---- both hear a text, from what each of the parts did

pub both_memory : (X : Type 0) (text : List ℕ) (a a2 : Own) (r r2 : Revival) (result : Result X TakeFault) → result ≡ Err take.Memory → HearsBoth {X = X} text a r a2 r2 result
both_memory X text a a2 r r2 result err =
    let P : Result X TakeFault → Type 0 = λ o. HearsBoth {X = X} text a r a2 r2 o in
    subst P (sym err) tt

-- the text was refused by the reviver
both_refused : (X : Type 0) (text : List ℕ) (a : Own) (r1 r2 : Revival) (f : TakeFault) → AreFor text r1 r2 (Err f) → HearsBoth {X = X} text a r1 a r2 (Err f)
both_refused X text a r1 r2 (take.ServerSent n) d =
    let h = hears r1 text in
    let g = given h.texts a in (
      ap (λ o. refused_first o g.client.broken) (ap (λ (v : Revival). v.broken) (sym d.0) ∙ d.2),
      sym (ap (λ ts. quiet (given ts a)) d.1),
      d.0,
    )
both_refused X text a r1 r2 take.Idle d = d
both_refused X text a r1 r2 take.Memory d = tt

pub both_texts : (X : Type 0) (text : List ℕ) (a : Own) (r r1 r2 : Revival) (last2 : Option Last) (f : TakeFault) (result : Result X TakeFault) → r1 ≡ r → last2 ≡ None →
    AreFor text r1 r2 (Err f) → result ≡ Err f → HearsBoth {X = X} text a r a (caught_up r2 last2) result
both_texts X text a r r1 r2 last2 f result same none d err =
    let P : Revival → Type 0 = λ v. HearsBoth {X = X} text a v a (caught_up r2 last2) result in
    let Q : Option Last → Type 0 = λ l. HearsBoth {X = X} text a r1 a (caught_up r2 l) result in
    let R : Result X TakeFault → Type 0 = λ o. HearsBoth {X = X} text a r1 a r2 o in
    subst P same (subst Q (sym none) (subst R (sym err) (both_refused X text a r1 r2 f d)))

-- the client refused a text that it was given
both_broke : (X : Type 0) (text : List ℕ) (texts : List (List ℕ)) (a a2 : Own) (r1 r2 : Revival) (f : TakeFault) → AreFor text r1 r2 (Ok texts) → IsGiven {X = Unit {0}} texts a a2 (Err f) →
    HearsBoth {X = X} text a r1 a2 r2 (Err f)
both_broke X text texts a a2 r1 r2 (take.ServerSent n) d e =
    let h = hears r1 text in
    let g = given h.texts a in
    let is : a2 ≡ g = e.0 ∙ ap (λ ts. given ts a) d.1 in (
      ap (λ o. refused_first o g.client.broken) (ap (λ (v : Revival). v.broken) (sym d.0) ∙ d.2) ∙ (ap (λ (o : Own). o.client.broken) (sym is) ∙ e.1),
      ap quiet is,
      d.0,
    )
both_broke X text texts a a2 r1 r2 take.Idle d e = e
both_broke X text texts a a2 r1 r2 take.Memory d e = tt

pub both_given : (X : Type 0) (text : List ℕ) (texts : List (List ℕ)) (a a2 : Own) (r r1 r2 : Revival) (last2 : Option Last) (f : TakeFault) (result : Result X TakeFault) → r1 ≡ r →
    last2 ≡ None → AreFor text r1 r2 (Ok texts) → IsGiven {X = Unit {0}} texts a a2 (Err f) → result ≡ Err f → HearsBoth {X = X} text a r a2 (caught_up r2 last2) result
both_given X text texts a a2 r r1 r2 last2 f result same none d e err =
    let P : Revival → Type 0 = λ v. HearsBoth {X = X} text a v a2 (caught_up r2 last2) result in
    let Q : Option Last → Type 0 = λ l. HearsBoth {X = X} text a r1 a2 (caught_up r2 l) result in
    let R : Result X TakeFault → Type 0 = λ o. HearsBoth {X = X} text a r1 a2 r2 o in
    subst P same (subst Q (sym none) (subst R (sym err) (both_broke X text texts a a2 r1 r2 f d e)))

-- both took it, and what the client queued waits to be said
pub both_took : {X Y : Type 0} (text : List ℕ) (texts : List (List ℕ)) (a a2 a3 : Own) (r r1 r2 r3 : Revival) (last2 : Option Last) (x : X) (y : Y) → r1 ≡ r → last2 ≡ None →
    AreFor text r1 r2 (Ok texts) → IsGiven texts a a2 (Ok x) → a3 ≡ quiet a2 → r3 ≡ all_queued r2 a2.client.waiting → HearsBoth text a r a3 (caught_up r3 last2) (Ok y)
both_took text texts a a2 a3 r r1 r2 r3 last2 x y same none d e still queued =
    let h = hears r1 text in
    let g = given h.texts a in
    let is : a2 ≡ g = e.0 ∙ ap (λ ts. given ts a) d.1 in
    let P : Revival → Type 0 = λ v. HearsBoth text a v a3 (caught_up r3 last2) (Ok y) in
    let Q : Option Last → Type 0 = λ l. HearsBoth text a r1 a3 (caught_up r3 l) (Ok y) in
    subst P same (subst Q (sym none) (
      ap (λ o. refused_first o g.client.broken) (ap (λ (v : Revival). v.broken) (sym d.0) ∙ d.2) ∙ (ap (λ (o : Own). o.client.broken) (sym is) ∙ e.1),
      still ∙ ap quiet is,
      queued ∙ (ap (λ v. all_queued v a2.client.waiting) d.0 ∙ ap (λ (o : Own). all_queued h.revival o.client.waiting) is),
    ))

-- what it needs to hear one
pub still_whole : (r r1 : Revival) (last : Option Last) → r.broken ≡ None → r1 ≡ caught_up r last → r1.broken ≡ None
still_whole r r1 last whole is = ap (λ (v : Revival). v.broken) is ∙ (caught_up-broken r last ∙ whole)

pub takes_going : (a : Own) (r : Revival) (last : Option Last) (failed : Bool) → IsGoing a.client r last → failed ≡ a.client.is_failed → failed ≡ false → can_take a.client ≡ true
takes_going a r last failed w is unfailed = takes_on a.client (sym is ∙ unfailed) w.whole

pub failed_is : (a own : Own) (stop : Option Stop) (failed : Bool) → own ≡ a → failed ≡ own.client.is_failed → take_fault_of stop failed ≡ take_fault_of stop a.client.is_failed
failed_is a own stop failed is e = ap (take_fault_of stop) (e ∙ ap (λ (o : Own). o.client.is_failed) is)

-- behind a text that was taken the reviver knows the last one
pub none_left : {X : Type 0} (result : Result X TakeFault) (last : Option Last) → OnOk result (last ≡ None) → stop_of result ≡ None → last ≡ None
none_left (Ok x) last left going = left
none_left (Err take.Idle) last left going = absurd (cc going)
none_left (Err (take.ServerSent n)) last left going = absurd (cc going)
none_left (Err take.Memory) last left going = absurd (cc going)

-- ---- texts that a client is given, up to one of them

pub gave_refused : (texts : List (List ℕ)) (a old new : Own) (i : ℕ) (text : List ℕ) (f : TakeFault) → given (drop i texts) old ≡ given texts a → can_take old.client ≡ true →
    i < length texts → text ≡ get_or texts i text → Takes {X = Unit {0}} text old new (Err f) → IsGiven {X = Unit {0}} texts a new (Err f)
gave_refused texts a old new i text (take.ServerSent n) left on less is d =
    let broken : new.client.broken ≡ Some n = ap (λ (o : Own). o.client.broken) d.2 in
    let now : new ≡ told text old = told_breaks text old new n on d (going_whole old.client on) in (
      sym (given_to text (drop (i + 1) texts) old new now (broken_off new.client n broken)) ∙ (ap (λ ts. given ts old) (sym (next_of texts i text less is)) ∙ left),
      broken,
    )
gave_refused texts a old new i text take.Idle left on less is d = sym on ∙ d.0
gave_refused texts a old new i text take.Memory left on less is d = tt

pub gave_failed : {X Y : Type 0} (texts : List (List ℕ)) (a old new : Own) (i : ℕ) (text : List ℕ) (x : X) (y : Y) → given (drop i texts) old ≡ given texts a → i < length texts →
    text ≡ get_or texts i text → Takes text old new (Ok x) → new.client.is_failed ≡ true → IsGiven texts a new (Ok y)
gave_failed texts a old new i text x y left less is d failed = (
  sym (given_to text (drop (i + 1) texts) old new d.2 (failed_off new.client failed)) ∙ (ap (λ ts. given ts old) (sym (next_of texts i text less is)) ∙ left),
  ap (λ (o : Own). o.client.broken) d.2 ∙ d.1,
)

pub gave_on : {X : Type 0} (text : List ℕ) (old new : Own) (x : X) → Takes text old new (Ok x) → new.client.is_failed ≡ false → can_take new.client ≡ true
gave_on text old new x d going = takes_on new.client going (ap (λ (o : Own). o.client.broken) d.2 ∙ d.1)

pub gave_all : {X : Type 0} (texts : List (List ℕ)) (a now : Own) (i : ℕ) (x : X) → length texts ≤ i → given (drop i texts) now ≡ given texts a → can_take now.client ≡ true →
    IsGiven texts a now (Ok x)
gave_all texts a now i x past left on = (sym (ap (λ ts. given ts now) (drop_all i texts past)) ∙ left, going_whole now.client on)

-- ---- texts that are queued, one after another

pub queued_shorter : (old new : Own) (text : List ℕ) → IsSent old new (Some text) → length new.client.waiting < length old.client.waiting
queued_shorter old new text d = let more = ap length d.0 in omega (arith, more)

pub queued_quiet : (old new : Own) (text : List ℕ) → IsSent old new (Some text) → quiet new ≡ quiet old
queued_quiet old new text d = ap quiet d.1

pub queued_same : (old new : Own) (r r2 : Revival) (text : List ℕ) → IsSent old new (Some text) → r2 ≡ queues r text →
    all_queued r2 new.client.waiting ≡ all_queued r old.client.waiting
queued_same old new r r2 text d is = ap (λ v. all_queued v new.client.waiting) is ∙ ap (all_queued r) (sym d.0)

pub queued_end : (first old new : Own) → IsSent old new None → quiet old ≡ quiet first → new ≡ quiet first
queued_end first old new d same = d.1 ∙ (sym (quiet_is old d.0) ∙ same)

pub queued_all : (first : Revival) (texts : List (List ℕ)) (old new : Own) (r : Revival) → IsSent old new None → all_queued r old.client.waiting ≡ all_queued first texts →
    r ≡ all_queued first texts
queued_all first texts old new r d same = sym (ap (all_queued r) d.0) ∙ same

-- ---- what is known of it

pub whole_going : (a : Own) (r : Revival) (last : Option Last) (stop : Option Stop) → (stop ≡ None → IsGoing a.client r last) → stop ≡ None → (quiet a).client.broken ≡ None
whole_going a r last stop goes on = (goes on).whole

pub shown_quiet : (a own : Own) → own ≡ a → IsShown own.client → IsShown (quiet a).client
shown_quiet a own is w =
    let P : Own → Type 0 = λ o. IsShown o.client in
    let there : IsShown a.client = subst P is w in
    record { view = there.view; awaited = there.awaited }
