-- A quiescent session is whole.
use Rattle.std.specs.Prelude.{◌≡◌, ℕ, zero, suc, ◌+◌, ◌<◌, ◌≤◌, ◌==◌, List, [], ◌∷◌, ◌++◌, length, Bool, true, false, cond, not, ◌&&◌, ◌||◌, Option}
use Rattle.std.specs.Prelude.{Some, None, is_some, option_map, option_and_then, refl}
use Rattle.std.proofs.Common.{ap, ap₂, sym, subst, ◌∙◌, arith, append-nil}
use Rattle.std.proofs.lemmas.Bool.{and_parts, eq-eqb, lt-ltb, le-leb}
use Rattle.map_model.specs.Differences.{all_taken}
use Rattle.merge_model.specs.Merge.{IsMerge}
use Rattle.value_model.specs.Order.{text_cmp}
use Rattle.value_model.specs.Size.{is_name}
use Rattle.ejson_value.specs.Key.{key_cmp}
use Rattle.ejson_value.specs.Rows.{Rows}
use Rattle.program_steps.specs.declared.outcome.Status.{Status}
use Rattle.program_steps.specs.Runs.{End}
use Rattle.app_model.specs.App.{App}
use Rattle.world_model.specs.history_model.declared.entry.Entry.{Entry}
use Rattle.client_model.specs.TakingLaws.{rest_shown}
use Rattle.world_model.specs.session_model.Publication.{queried}
use Rattle.world_model.specs.session_model.Texts.{messages_in}
use Rattle.world_model.specs.session_model.Items.{Item, id_of}
use Rattle.world_model.specs.session_model.Items as item
use Rattle.world_model.specs.session_model.Subscriptions.{Live, is_live, cursor_of, past, is_open}
use Rattle.world_model.specs.session_model.Methods.{Phase, running, refused, finished, told, Method, Blocking, is_blocked_by, phase_at, turned, fired, fire}
use Rattle.world_model.specs.session_model.State.{State, started, own_after, after, state_from}
use Rattle.world_model.specs.session_model.Moments.{Moment, moment_at, run_of, end_at, rows_at}
use Rattle.world_model.specs.session_model.Shown.{shown_at, shown_in, merged}
use Rattle.world_model.specs.session_model.Data.{data_of}
use Rattle.world_model.specs.session_model.Out.{out_texts}
use Rattle.world_model.specs.session_model.Fits.{CanFollow, FitsFrom, Fits}
use Rattle.world_model.specs.session_model.Kept.{AreKept}
use Rattle.world_model.specs.session_model.Counting.{one_if, is_running, is_armed, number_in}
use Rattle.world_model.specs.session_model.LooksBack.{opened_in, loaded_at, advances, is_closed}
use Rattle.session_journal_laws.specs.Shows.{merge_same, journal_merge}
use Rattle.session_journal_laws.specs.Taken.{out-taken}
use Rattle.session_journal_laws.specs.ReadableLaws.{out_reads}
use Rattle.session_journal_laws.specs.Blocking.{BlocksLast}
use Rattle.session_journal_laws.specs.BlockingLaws.{last_from}
use Rattle.session_journal_laws.specs.CountsLaws.{none_blocks, methods_are_answered}
use Rattle.session_journal_laws.specs.Fences.{IsShut, AreShut}
use Rattle.session_journal_laws.specs.FencesLaws.{after_shut}
use Rattle.session_journal_laws.specs.TrackingLaws.{tracks}
use Rattle.world_model.specs.Store.{held_in, moments}
use Rattle.world_model.specs.Conn.{Conn, state_in}
use Rattle.world_model.specs.Headline.{AreAtEnd, have_ended, IsQuiescent, whole_shown, since_in, standing, begun_in, IsAnswered, IsWhole}
use Rattle.world_invariant_laws.specs.Moments.{moments_length, rows_now, moments_in_order}
use Rattle.world_invariant_laws.specs.Begun.{runs_of, unrun}
use Rattle.world_invariant_laws.specs.Links.{IsLinked}
use Rattle.world_invariant_laws.specs.Sessions.{answering}

-- ---- at the end of the history

at_end_shown : (C : List Moment) (rows : Rows) (n : ℕ) (ls : List Live) (s : ℕ) → rows_at C n ≡ rows → AreAtEnd n ls → shown_in C ls s ≡ whole_shown rows ls s
at_end_shown C rows n [] s e a = refl
at_end_shown C rows n (l ∷ ls) s e a = ap₂ (cond (s == l.sub)) (ap (shown_at C l.cursors) a.0 ∙ ap (queried l.cursors) e) (at_end_shown C rows n ls s e a.1)

at_end_cursor : (n : ℕ) (ls : List Live) (s : ℕ) → AreAtEnd n ls → is_live s ls ≡ true → cursor_of s ls ≡ Some n
at_end_cursor n [] s a e = cc e
at_end_cursor n (l ∷ ls) s a e =
    elim (s == l.sub) as
    (λ b. cond b true (is_live s ls) ≡ true → cond b l.cursor (cursor_of s ls) ≡ Some n) [ true ↦ λ f. a.0 | false ↦ λ f. at_end_cursor n ls s a.1 f ] e

at_end_open : (place n : ℕ) (ls : List Live) → place ≤ n → AreAtEnd n ls → is_open place ls ≡ true
at_end_open place n [] le a = refl
at_end_open place n (l ∷ ls) le a = ap₂ (λ x y. x && y) (ap (past place) a.0 ∙ le-leb place n le) (at_end_open place n ls le a.1)

-- ---- ended calls

ended_runs : (id : List ℕ) (ms : List Method) → have_ended ms ≡ true → number_in is_running id ms ≡ 0
ended_runs id [] e = refl
ended_runs id (m ∷ ms) e =
    let parts = and_parts (not (is_running m.phase)) (have_ended ms) e in
    let rest = ended_runs id ms parts.1 in
    elim (is_running m.phase) as
    (λ b. not b ≡ true → cond b (one_if (is_name id m.id)) 0 + number_in is_running id ms ≡ 0) [ true ↦ λ f. cc f | false ↦ λ f. omega (arith, rest) ] parts.0

-- each finished call is at a place of the history
abbrev IsAt : ℕ → Phase → Type 0
IsAt n (finished place) = place < n
IsAt n (told place) = place < n
IsAt n p = Unit {0}

abbrev AreAt : ℕ → List Method → Type 0
AreAt n [] = Unit {0}
AreAt n (m ∷ ms) = IsAt n m.phase × AreAt n ms

at_more : (n : ℕ) (ms : List Method) (m : Method) → AreAt n ms → IsAt n m.phase → AreAt n (ms ++ m ∷ [])
at_more n [] m p q = (q, tt)
at_more n (x ∷ ms) m p q = (p.0, at_more n ms m p.1 q)

at_turned : (n k : ℕ) (p : Phase) (ms : List Method) → IsAt n p → AreAt n ms → AreAt n (turned k p ms)
at_turned n k p [] q a = tt
at_turned n zero p (m ∷ ms) q a = (q, a.1)
at_turned n (suc k) p (m ∷ ms) q a = (a.0, at_turned n k p ms q a.1)

at_fired : (n : ℕ) (ls : List Live) (p : Phase) → IsAt n p → IsAt n (fired ls p)
at_fired n ls (finished place) q = elim (is_open place ls) as (λ b. IsAt n (cond b (told place) (finished place))) [ true ↦ q | false ↦ q ]
at_fired n ls p q = q

at_fire : (n : ℕ) (ls : List Live) (ms : List Method) → AreAt n ms → AreAt n (fire ls ms)
at_fire n ls [] a = tt
at_fire n ls (m ∷ ms) a = (at_fired n ls m.phase a.0, at_fire n ls ms a.1)

-- an end is at a moment
within : (C : List Moment) (place : ℕ) (m : Moment) → moment_at C place ≡ Some m → place < length C
within [] place m e = cc e
within (x ∷ C) zero m e = omega arith
within (x ∷ C) (suc place) m e = omega (arith, within C place m e)

end_within : (C : List Moment) (place k : ℕ) (end : End) → end_at C place k ≡ Some end → place < length C
end_within C place k end e = by (moment_at C place) refl e
  where
    by : (o : Option Moment) → moment_at C place ≡ o → option_and_then (λ (s : Status). s.ended) (run_of k o) ≡ Some end → place < length C
    by None is f = cc f
    by (Some m) is f = within C place m is

own_at : (app : App) (number : ℕ) (C : List Moment) (st : State) (i : Item) → CanFollow app number C st i → AreAt (length C) st.methods →
    AreAt (length C) (own_after st i).methods
own_at app number C st (item.call k message seed) f a = at_more (length C) st.methods (record { id = id_of message; phase = running }) a tt
own_at app number C st (item.refused k place) f a = at_turned (length C) k refused st.methods tt a
own_at app number C st (item.finished k place) f a = at_turned (length C) k (finished place) st.methods (end_within C place k f.1.end f.1.is) a
own_at app number C st i f a = a

at_from : (app : App) (number : ℕ) (C : List Moment) (st : State) (items : List Item) → FitsFrom app number C st items → AreAt (length C) st.methods →
    AreAt (length C) (state_from st items).methods
at_from app number C st [] f a = a
at_from app number C st (i ∷ items) f a = let own = own_after st i in at_from app number C (after st i) items f.1
    (at_fire (length C) own.subs own.methods (own_at app number C st i f.0 a))

shut_from : (st : State) (items : List Item) → AreShut st.subs st.methods → let next = state_from st items in AreShut next.subs next.methods
shut_from st [] s = s
shut_from st (i ∷ items) s = shut_from (after st i) items (after_shut st i)

-- with each subscription at the end no finished call is still to be told
none_armed : (id : List ℕ) (n : ℕ) (ls : List Live) (ms : List Method) → AreAtEnd n ls → AreShut ls ms → AreAt (suc n) ms → number_in is_armed id ms ≡ 0
none_armed id n ls [] e s a = refl
none_armed id n ls (m ∷ ms) e s a = omega (arith, one m.phase s.0 a.0, none_armed id n ls ms e s.1 a.1)
  where
    one : (p : Phase) → IsShut ls p → IsAt (suc n) p → cond (is_armed p) (one_if (is_name id m.id)) 0 ≡ 0
    one (finished place) s a = let differ : true ≡ false = sym (at_end_open place n ls (omega (arith, a)) e) ∙ s in absurd (cc differ)
    one p s a = refl

-- no call blocks where each has ended
ended_phase : (k : ℕ) (ms : List Method) → have_ended ms ≡ true → phase_at k ms ≡ Some running → ⊥
ended_phase k [] e f = cc f
ended_phase zero (m ∷ ms) e f =
    let same : m.phase ≡ running = cc f in
    let parts = and_parts (not (is_running m.phase)) (have_ended ms) e in
    let differ : false ≡ true = sym (ap (λ p. not (is_running p)) same) ∙ parts.0 in cc differ
ended_phase (suc k) (m ∷ ms) e f = ended_phase k ms (and_parts (not (is_running m.phase)) (have_ended ms) e).1 f

none_blocking : (st : State) → BlocksLast st → have_ended st.methods ≡ true → st.blocking ≡ None
none_blocking st l e = by st.blocking refl
  where
    by : (o : Option Blocking) → st.blocking ≡ o → o ≡ None
    by None is = refl
    by (Some b) is = absurd (ended_phase b.k st.methods e (l b.k (ap (is_blocked_by b.k) is ∙ eq-eqb b.k b.k refl)).runs)

-- ---- the session

module _ (app : App) (h : List Entry) (c : Conn) (p : IsLinked app h c) (q : IsQuiescent h c) where
  abbrev pub C : List Moment
  C = moments app c.number h

  fits : Fits app c.number C c.items
  fits = p.served.session.fits

  subs_answered : (s : ℕ) → s < opened_in c.items → (is_some (loaded_at s c.items) || is_closed s c.items) ≡ true
  subs_answered s less =
      let t = tracks app c.number C c.items fits in
      elim (is_closed s c.items) as (λ b. is_closed s c.items ≡ b → (is_some (loaded_at s c.items) || b) ≡ true) [
        | true ↦ λ e. or_true (is_some (loaded_at s c.items))
        | false ↦ λ e.
            let live : is_live s (state_in c).subs ≡ true = t.live s
            ∙ ap₂ (λ x y. x && not y) (lt-ltb s (state_in c).opened (subst (λ n. s < n) (sym t.opened) less)) e in
            or_left (is_some (loaded_at s c.items))
            (loaded (loaded_at s c.items) (ap (λ b. cond b None (option_map (λ place. place + advances s c.items) (loaded_at s c.items))) (sym e)
            ∙ (sym (t.cursors s) ∙ at_end_cursor (length h) (state_in c).subs s q.at_end live)))
      ] refl
    where
      or_true : (b : Bool) → (b || true) ≡ true
      or_true true = refl
      or_true false = refl

      or_left : (b : Bool) → b ≡ true → (b || false) ≡ true
      or_left true e = refl
      or_left false e = e

      loaded : (o : Option ℕ) → option_map (λ place. place + advances s c.items) o ≡ Some (length h) → is_some o ≡ true
      loaded None e = cc e
      loaded (Some place) e = refl

  answered : IsAnswered c.number C c.items
  answered = record {
    so_far = answering app h c p;
    subs = subs_answered;
    result = λ id. let m = methods_are_answered app c.number C c.items fits id in omega (arith, m.0, ended_runs id (state_in c).methods q.ended);
    updated = λ id.
        let m = methods_are_answered app c.number C c.items fits id in
        omega (
          arith,
          m.0,
          m.1,
          ended_runs id (state_in c).methods q.ended,
          none_armed id (length h) (state_in c).subs (state_in c).methods q.at_end (shut_from started c.items tt)
              (subst (λ n. AreAt n (state_in c).methods) (moments_length app c.number h) (at_from app c.number C started c.items fits tt)),
        );
  }

  once : begun_in c.number h ≡ standing c.items
  once =
      let free : (state_in c).blocking ≡ None = none_blocking (state_in c) (last_from app c.number C started c.items fits none_blocks) q.ended in
      sym (append-nil (begun_in c.number h)) ∙ (ap (λ o. begun_in c.number h ++ unrun (runs_of app c.number h) o) (sym free) ∙ p.served.begun.begun)

  -- the client took all texts of its session
  server_is : AreKept C → c.client.documents.server ≡ merged C c.items
  server_is kept =
      let heard = p.heard.heard q.unbroken in
      let all : heard.taken ≡ out_texts C c.number c.items =
      sym (append-nil heard.taken)
      ∙ (ap (λ ts. heard.taken ++ ts) (sym q.downward)
      ∙ (heard.is ∙ (sym (append-nil c.sent) ∙ (ap (λ ts. c.sent ++ ts) (sym q.outbox) ∙ p.served.session.texts)))) in
      heard.server
      ∙ (ap (λ ts. all_taken text_cmp key_cmp [] (data_of (messages_in ts))) all
      ∙ (ap (λ ms. all_taken text_cmp key_cmp [] (data_of ms)) (out_reads app c.number C c.items kept fits).1 ∙ out-taken C c.number c.items))

  pub quiescent_is_whole : AreKept C → IsWhole app h c
  quiescent_is_whole kept =
      let real : c.client.documents.view ≡ c.client.documents.server = rest_shown c.client p.heard.shown q.updated in
      record {
        real = real;
        merged = subst (λ (rows : Rows). IsMerge key_cmp text_cmp (whole_shown (held_in app h).rows (state_in c).subs) (since_in app h c) rows)
            (sym (real ∙ server_is kept))
            (merge_same (shown_in C (state_in c).subs) (whole_shown (held_in app h).rows (state_in c).subs) (since_in app h c) (merged C c.items)
            (λ s. at_end_shown C (held_in app h).rows (length h) (state_in c).subs s (rows_now app c.number h) q.at_end)
            (journal_merge C (moments_in_order app c.number h) c.items));
        answered = answered;
        once = once;
      }
