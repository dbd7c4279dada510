-- What a client keeps to that sends no text as it stands.
use Rattle.std.specs.Prelude.{◌≡◌, ◌⊎◌, ℕ, zero, suc, ◌<◌, List, [], ◌∷◌, ◌++◌, length, filter, map, slice_get, Bool, true, false, cond, ◌||◌, Option}
use Rattle.std.specs.Prelude.{Some, None, is_none, refl}
use Rattle.std.specs.List.{list_any}
use Rattle.std.proofs.Common.{ap, sym, subst, ◌∙◌, arith, append-nil, inl, inr, length-append}
use Rattle.std.proofs.lemmas.List.{append_assoc, map-append}
use Rattle.std.proofs.lemmas.List.Folds.{list_any-append}
use Rattle.std.proofs.lemmas.Bool.{or_parts}
use Rattle.ejson_value.specs.declared.fault.Fault.{Fault}
use Rattle.ddp_messages.specs.ClientMessage.{ClientMessage}
use Rattle.ddp_messages.specs.Answers.{server_answer}
use Rattle.ddp_messages.specs.ServerMessage.{ServerMessage}
use Rattle.ddp_messages.specs.ServerMessage as server
use Rattle.program_steps.specs.Runs.{Outcome, done, failed, End}
use Rattle.app_model.specs.App.{App}
use Rattle.headline.specs.history_model.declared.entry.Entry.{Entry}
use Rattle.client_model.specs.Client.{Call, Client}
use Rattle.client_model.specs.Taking.{numbers_of, outcome_by, with_outcome, with_update, call_at, call_changed, number_changed, all_changed}
use Rattle.client_model.specs.Taking.{failed_in, answers_in, calls_in, breaks, told_message, told_answer, told_text}
use Rattle.headline.specs.session_model.Texts.{message_in, messages_in}
use Rattle.headline.specs.session_model.Items.{Item, id_of}
use Rattle.headline.specs.session_model.Items as item
use Rattle.headline.specs.session_model.Subscriptions.{ids_of}
use Rattle.headline.specs.session_model.Methods.{id_at}
use Rattle.headline.specs.session_model.State.{State, started, after}
use Rattle.headline.specs.session_model.Moments.{Moment, end_at}
use Rattle.headline.specs.session_model.Shown.{Calls, call_of, merge_of, difference}
use Rattle.headline.specs.session_model.Out.{about, ready, updated, result_by, results_by, history_full, refused_with, all_refused_with, own_messages}
use Rattle.headline.specs.session_model.Out.{told_after, words_of, messages_of, out_from, out, out_texts}
use Rattle.headline.specs.session_model.Kept.{AreKept}
use Rattle.headline.specs.session_model.Taking.{answered_from}
use Rattle.headline.specs.session_model.Answering.{is_at_once, at_once_in, Answers}
use Rattle.headline.specs.session_journal_laws_for_proofs.ReadableLaws.{out_reads}
use Rattle.headline.specs.world_model.Store.{moments}
use Rattle.headline.specs.world_model.Conn.{Conn}
use Rattle.headline.specs.world_model.Headline.{is_bad, is_long}
use Rattle.headline.specs.world_invariant_laws.Links.{IsLinked}
use Rattle.headline.specs.Fitting.{IsPlain}
use Rattle.headline.specs.Calls.{AreCounted, has_outcome, has_update, many}
use Rattle.headline.specs.Known.{IsKnown, AreAsked}
use Rattle.headline.specs.AskedLaws.{all_asked}
use Rattle.headline.specs.Next.{next_plain, next_text_fits, known_next}
use Rattle.headline.specs.Texts.{is_fail, IsAsking}
use Rattle.headline.specs.TextsLaws.{mild_answered, mild_first, calls_asks}

-- ---- what it keeps to

-- the texts that it made so far: those that its session took, those on the link to it, and those that wait
abbrev pub texts_of : Conn → List (List ℕ)
texts_of c = c.received ++ (c.upward ++ c.client.waiting)

-- it refused none of the texts that it took, or the last one as one that is too long
abbrev pub IsAlone : Option ℕ → List (List ℕ) → Type 0
IsAlone broken taken = ((broken ≡ None) × (list_any is_long taken ≡ false)) ⊎ ((broken ≡ Some 1) × (list_any is_long taken ≡ true))

pub record IsTaking (client : Client) (sent downward : List (List ℕ)) : Type 0 where
  pub accepted : client.is_failed ≡ false
  pub known : client.broken ≡ None → IsKnown client sent downward
  pub taken : List (List ℕ)
  pub is : taken ++ downward ≡ sent
  pub alone : IsAlone client.broken taken

pub record IsPolite (c : Conn) : Type 0 where
  pub asking : IsAsking (texts_of c) (length c.client.calls)
  pub taking : IsTaking c.client c.sent c.downward

-- ---- no version is refused

at_once_alone : (p : Item → Bool) → ((i : Item) → is_at_once i ≡ false → p i ≡ false) → (items : List Item) → list_any p (at_once_in items) ≡ list_any p items
at_once_alone p none [] = refl
at_once_alone p none (i ∷ items) =
    elim (is_at_once i) as (λ b. is_at_once i ≡ b → list_any p (cond b (i ∷ filter is_at_once items) (filter is_at_once items)) ≡ (p i || list_any p items)) [
      | true ↦ λ e. ap (λ b. p i || b) (at_once_alone p none items)
      | false ↦ λ e. at_once_alone p none items ∙ ap (λ b. b || list_any p items) (sym (none i e))
    ] refl

later_unfailed : (i : Item) → is_at_once i ≡ false → is_fail i ≡ false
later_unfailed item.fail e = cc e
later_unfailed i e = refl

later_good : (i : Item) → is_at_once i ≡ false → is_bad i ≡ false
later_good (item.bad reason offending) e = cc e
later_good i e = refl

-- no text of these was refused where the journal has no such item
pub none_refused : (taken : List (List ℕ)) (items : List Item) (waiting : List ClientMessage) → Answers taken items waiting →
    list_any is_bad items ≡ false → list_any is_bad (answered_from false taken) ≡ false
none_refused taken items waiting a e = ap (list_any is_bad) a.at_once ∙ (at_once_alone is_bad later_good items ∙ e)

-- the session of such a client refuses no version
pub none_fails : (taken rest : List (List ℕ)) (items : List Item) (waiting : List ClientMessage) (calls : ℕ) → Answers taken items waiting →
    IsAsking (taken ++ rest) calls → list_any is_fail items ≡ false
none_fails taken rest items waiting calls a asking =
    sym (at_once_alone is_fail later_unfailed items) ∙ (ap (list_any is_fail) (sym a.at_once) ∙ mild_answered false taken (mild_first taken rest asking.mild))

-- no `failed`
abbrev IsUnfailed : ServerMessage → Type 0
IsUnfailed (server.failed version) = ⊥
IsUnfailed m = Unit {0}

abbrev AreUnfailed : List ServerMessage → Type 0
AreUnfailed [] = Unit {0}
AreUnfailed (m ∷ ms) = IsUnfailed m × AreUnfailed ms

unfailed_more : (xs ys : List ServerMessage) → AreUnfailed xs → AreUnfailed ys → AreUnfailed (xs ++ ys)
unfailed_more [] ys p q = q
unfailed_more (x ∷ xs) ys p q = (p.0, unfailed_more xs ys p.1 q)

unfailed_at : (xs : List ServerMessage) (m : ServerMessage) (ys : List ServerMessage) → AreUnfailed (xs ++ m ∷ ys) → IsUnfailed m
unfailed_at [] m ys p = p.0
unfailed_at (x ∷ xs) m ys p = unfailed_at xs m ys p.1

each_unfailed : {X : Type 0} (f : X → ServerMessage) → ((x : X) → IsUnfailed (f x)) → (xs : List X) → AreUnfailed (map f xs)
each_unfailed f one [] = tt
each_unfailed f one (x ∷ xs) = (one x, each_unfailed f one xs)

result_unfailed : (o : Outcome) (id : List ℕ) → IsUnfailed (result_by o id)
result_unfailed (done value) id = tt
result_unfailed (failed fault) id = tt

ends_unfailed : (o : Option End) (ids : List (List ℕ)) → AreUnfailed (results_by o ids)
ends_unfailed None ids = tt
ends_unfailed (Some end) ids = each_unfailed (result_by end.outcome) (result_unfailed end.outcome) ids

refused_unfailed : (fault : Fault) (ids : List (List ℕ)) → AreUnfailed (all_refused_with fault ids)
refused_unfailed fault [] = tt
refused_unfailed fault (id ∷ ids) = unfailed_more (refused_with fault id) (all_refused_with fault ids) (tt, (tt, tt)) (refused_unfailed fault ids)

module _ (C : List Moment) (number : ℕ) where
  own_unfailed : (st : State) (i : Item) → is_fail i ≡ false → AreUnfailed (own_messages C number st i)
  own_unfailed st item.connect e = (tt, tt)
  own_unfailed st item.fail e = cc e
  own_unfailed st (item.ping id) e = (tt, tt)
  own_unfailed st (item.bad reason offending) e = (tt, tt)
  own_unfailed st (item.nosub message fault) e = (tt, tt)
  own_unfailed st (item.load s place) e = each_unfailed ready (λ id. tt) (ids_of s st.subs)
  own_unfailed st (item.close s message) e = (tt, tt)
  own_unfailed st (item.unknown message) e = (tt, (tt, tt))
  own_unfailed st (item.refused k place) e = refused_unfailed history_full (id_at k st.methods)
  own_unfailed st (item.finished k place) e = ends_unfailed (end_at C place k) (id_at k st.methods)
  own_unfailed st i e = tt

  out_unfailed : (past : Calls) (st : State) (items : List Item) → list_any is_fail items ≡ false → AreUnfailed (out_from C number past st items)
  out_unfailed past st [] e = tt
  out_unfailed past st (i ∷ items) e =
      let parts = or_parts (is_fail i) (list_any is_fail items) e in
      let past2 = call_of C st i ∷ past in
      let ds = difference (merge_of past) (merge_of past2) in
      unfailed_more (messages_of C number past st i) (out_from C number past2 (after st i) items)
      (unfailed_more (map about ds) (words_of C number st i) (each_unfailed about (λ d. tt) ds)
      (unfailed_more (own_messages C number st i) (map updated (told_after st i)) (own_unfailed st i parts.0)
      (each_unfailed updated (λ id. tt) (told_after st i))))
      (out_unfailed past2 (after st i) items parts.1)

-- ---- a text is taken

unfailed_stays : (was : Bool) (m : ServerMessage) → IsUnfailed m → failed_in was m ≡ was
unfailed_stays was (server.failed version) p = absurd p
unfailed_stays was m p = refl

plain_silent : (m : ServerMessage) → IsPlain m → answers_in m ≡ []
plain_silent (server.ping id) p = absurd p
plain_silent m p = refl

changed_length : (place : ℕ) (f : Call → Call) (calls : List Call) → length (call_changed place f calls) ≡ length calls
changed_length place f [] = refl
changed_length zero f (call ∷ calls) = refl
changed_length (suc place) f (call ∷ calls) = ap suc (changed_length place f calls)

number_length : (n : ℕ) (f : Call → Call) (calls : List Call) → length (number_changed n f calls) ≡ length calls
number_length zero f calls = refl
number_length (suc n) f calls = changed_length n f calls

all_length : (ns : List ℕ) (f : Call → Call) (calls : List Call) → length (all_changed ns f calls) ≡ length calls
all_length [] f calls = refl
all_length (n ∷ ns) f calls = all_length ns f (number_changed n f calls) ∙ number_length n f calls

calls_length : (calls : List Call) (m : ServerMessage) → length (calls_in calls m) ≡ length calls
calls_length calls (server.finished id fault value) = all_length (numbers_of (length calls) (id ∷ [])) (with_outcome (outcome_by fault value)) calls
calls_length calls (server.updated ids) = all_length (numbers_of (length calls) ids) with_update calls
calls_length calls m = refl

pub is_none_is : (o : Option ℕ) → is_none o ≡ true → o ≡ None
is_none_is None e = refl
is_none_is (Some x) e = cc e

or_false : (b : Bool) → (b || false) ≡ b
or_false true = refl
or_false false = refl

one_longer : (taken : List (List ℕ)) (t : List ℕ) (b : Bool) → list_any is_long taken ≡ false → is_long t ≡ b → list_any is_long (taken ++ t ∷ []) ≡ b
one_longer taken t b none e = list_any-append is_long taken (t ∷ []) ∙ (ap (λ x. x || (is_long t || false)) none ∙ (or_false (is_long t) ∙ e))

none_long : (broken : Option ℕ) (taken : List (List ℕ)) → broken ≡ None → IsAlone broken taken → list_any is_long taken ≡ false
none_long broken taken e (inl p) = p.1
none_long broken taken e (inr p) = let differ : None ≡ Some 1 = sym e ∙ p.0 in cc differ

module _ (app : App) (h : List Entry) (c : Conn) (l : IsLinked app h c) (kept : AreKept (moments app c.number h)) (p : IsPolite c) (t : List ℕ)
    (ts : List (List ℕ)) (next : c.downward ≡ t ∷ ts) (whole : c.client.broken ≡ None) where
  abbrev k : IsKnown c.client c.sent c.downward
  k = p.taking.known whole

  abbrev Goes : Client → Type 0
  Goes client = IsAsking (c.received ++ (c.upward ++ client.waiting)) (length client.calls) × IsTaking client c.sent ts

  said : AreUnfailed (out (moments app c.number h) c.number c.items)
  said = out_unfailed (moments app c.number h) c.number [] started c.items
      (none_fails c.received (c.upward ++ c.client.waiting) c.items _ (length c.client.calls) l.served.session.answers p.asking)

  next_unfailed : IsUnfailed (message_in t)
  next_unfailed =
      let texts : k.taken ++ (t ∷ (ts ++ c.outbox)) ≡ out_texts (moments app c.number h) c.number c.items =
      sym (append_assoc k.taken (t ∷ ts) c.outbox)
      ∙ (ap (λ (xs : List (List ℕ)). (k.taken ++ xs) ++ c.outbox) (sym next) ∙ (ap (λ (xs : List (List ℕ)). xs ++ c.outbox) k.is ∙ l.served.session.texts)) in
      let all : messages_in k.taken ++ (message_in t ∷ messages_in (ts ++ c.outbox)) ≡ out (moments app c.number h) c.number c.items =
      sym (map-append message_in k.taken (t ∷ (ts ++ c.outbox)))
      ∙ (ap messages_in texts ∙ (out_reads app c.number (moments app c.number h) c.items kept l.served.session.fits).1) in
      unfailed_at (messages_in k.taken) (message_in t) (messages_in (ts ++ c.outbox)) (subst AreUnfailed (sym all) said)

  taken_more : (p.taking.taken ++ t ∷ []) ++ ts ≡ c.sent
  taken_more = append_assoc p.taking.taken (t ∷ []) ts ∙ (ap (λ (xs : List (List ℕ)). p.taking.taken ++ xs) (sym next) ∙ p.taking.is)

  asked : AreAsked c.items (length c.client.calls)
  asked =
      all_asked app c.number (moments app c.number h) c.received (c.upward ++ c.client.waiting) c.items _
      (length c.client.calls) l.served.session.fits l.served.session.answers
      (calls_asks (texts_of c) (length c.client.calls) p.asking.each)

  long_goes : is_long t ≡ true → Goes (breaks 1 c.client)
  long_goes long = (
    p.asking,
    record {
      accepted = p.taking.accepted;
      known = λ e. cc e;
      taken = p.taking.taken ++ t ∷ [];
      is = taken_more;
      alone = inr (refl, one_longer p.taking.taken t true (none_long c.client.broken p.taking.taken whole p.taking.alone) long);
    },
  )

  short_goes : is_long t ≡ false → Goes (told_message c.client (message_in t))
  short_goes short =
      let m = message_in t in
      let plain : IsPlain m = next_plain app h c l k kept t ts next in
      let waits : c.client.waiting ++ answers_in m ≡ c.client.waiting = ap (λ (xs : List (List ℕ)). c.client.waiting ++ xs) (plain_silent m plain)
      ∙ append-nil c.client.waiting in (
        subst (λ n. IsAsking (c.received ++ (c.upward ++ (c.client.waiting ++ answers_in m))) n) (sym (calls_length c.client.calls m))
            (subst (λ (ws : List (List ℕ)). IsAsking (c.received ++ (c.upward ++ ws)) (length c.client.calls)) (sym waits) p.asking),
        record {
          accepted = unfailed_stays c.client.is_failed m next_unfailed ∙ p.taking.accepted;
          known = λ e. known_next app h c l k kept t ts next asked;
          taken = p.taking.taken ++ t ∷ [];
          is = taken_more;
          alone = inl (whole, one_longer p.taking.taken t false (none_long c.client.broken p.taking.taken whole p.taking.alone) short);
        },
      )

  pub text_goes : Goes (told_text c.client t)
  text_goes = by (is_long t) refl
    where
      by : (b : Bool) → is_long t ≡ b → Goes (told_text c.client t)
      by true e = subst Goes (sym (ap (λ b. cond b (breaks 1 c.client) (told_answer c.client (server_answer t))) e)) (long_goes e)
      by false e = subst Goes (sym (next_text_fits app h c l k kept t ts next asked e)) (short_goes e)

-- ---- one call more

module _ (g : Option Call → ℕ) (none : g None ≡ 0) (new : Call) (zero_ : g (Some new) ≡ 0) where
  place_more : (calls : List Call) (i : ℕ) → g (slice_get (calls ++ new ∷ []) i) ≡ g (slice_get calls i)
  place_more [] zero = zero_ ∙ sym none
  place_more [] (suc i) = refl
  place_more (call ∷ calls) zero = refl
  place_more (call ∷ calls) (suc i) = place_more calls i

  number_more : (calls : List Call) (n : ℕ) → g (call_at (calls ++ new ∷ []) n) ≡ g (call_at calls n)
  number_more calls zero = refl
  number_more calls (suc n) = place_more calls n

pub call_counted : (calls : List Call) (ms : List ServerMessage) → suc (length calls) < many → AreCounted calls ms →
    AreCounted (calls ++ record { outcome = None; is_updated = false } ∷ []) ms
call_counted calls ms less k =
    let new : Call = record { outcome = None; is_updated = false } in record {
      few = omega (arith, less, length-append calls (new ∷ []));
      outcomes = λ n l. number_more has_outcome refl new refl calls n ∙ k.outcomes n l;
      updates = λ n l. number_more has_update refl new refl calls n ∙ k.updates n l;
    }
