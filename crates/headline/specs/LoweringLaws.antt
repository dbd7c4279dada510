-- Laws: Each act that is made leaves less to be done.
use Rattle.std.specs.Prelude.{◌≡◌, ◌⊎◌, ℕ, ◌+◌, ◌<◌, nat_lt, nat_le, List, [], ◌∷◌, ◌++◌, length, Bool, true, false, cond, not, ◌&&◌, Option, Some}
use Rattle.std.specs.Prelude.{None, is_some, is_none, IfSome, refl, if◌then◌else◌}
use Rattle.std.specs.BTreeMap.{insert_entry}
use Rattle.std.proofs.Common.{ap, sym, subst, ◌∙◌, append-nil, arith, inl, inr}
use Rattle.std.proofs.lemmas.Bool.{not-true, eq-eqb}
use Rattle.map_model.specs.Maps.{at, IsSorted}
use Rattle.value_model.specs.Order.{text_cmp}
use Rattle.app_model.specs.App.{App}
use Rattle.world_model.specs.history_model.declared.entry.Entry.{Entry}
use Rattle.world_model.specs.history_model.declared.entry.Entry.TheVariants as entry
use Rattle.world_model.specs.history_model.History.{run_cmp, goes_on}
use Rattle.client_model.specs.Asking.{can_take}
use Rattle.world_model.specs.session_model.Items.{Item}
use Rattle.world_model.specs.session_model.Items as item
use Rattle.world_model.specs.session_model.Subscriptions.{cursor_of, may_load, loaded, advanced}
use Rattle.world_model.specs.session_model.Counting.{one_if}
use Rattle.world_model.specs.session_model.Methods.{Blocking}
use Rattle.world_model.specs.session_model.Taking.{Taken, at_once, to_queue, taken_text}
use Rattle.rounds_model.specs.Tower.{Below}
use Rattle.world_model.specs.declared.events.Act.{Act}
use Rattle.world_model.specs.declared.events.Act.TheVariants as act
use Rattle.world_model.specs.declared.events.Answer.TheVariants as answer
use Rattle.world_model.specs.Store.{held_in}
use Rattle.world_model.specs.Conn.{Waiting, Refusal, Conn, state_in, link_limit, outbox_limit, is_full, is_at_work, has_some}
use Rattle.world_model.specs.Acts.{goes_up, received_as, receives, handles, with_item, is_kept, unbegun, is_refused, begin_entry, begun, refusal_kept}
use Rattle.world_model.specs.Acts.{learnt, learns_item, learns, may_advance, sends, takes, enabled, is_of_session, is_queue_full, is_done, can, does}
use Rattle.world_model.specs.Acts.{entries}
use Rattle.world_model.specs.World.{World, conn_of, with_conn, acted, done_by, done, can_by, can_in}
use Rattle.world_model.specs.Settle.{texts_in, cursors_in, cursors, learns_in, all_learns, calls_in, calls, asks_in, asks, measures}
use Rattle.headline.specs.SumsLaws.{present_less, present_same, present_lower, present_equal}
use Rattle.headline.specs.RunsLaws.{step_begins_none, run_stays, begun_runs, step_leaves_fewer}
use Rattle.headline.specs.Clients.{state_learns, IsTidy}
use Rattle.headline.specs.ClientsLaws.{item_state, up_less, recv_less, handle_less, send_less, take_less, take_asks, load_less, advance_less, fire_same}
use Rattle.headline.specs.LearningLaws.{learn_less, learn_calls, item_calls, calls_fewer, calls_same, unbegun_free, run_begun, kept_begun}
use Rattle.headline.specs.Lowering.{AreTidy}

-- ---- what is made is enabled

enabled_by : (b c d : Bool) →
    is_done (if not b then answer.Idle else (if c then answer.JournalFull else (if d then answer.QueueFull else answer.Done))) ≡ true → b ≡ true
enabled_by true c d e = refl
enabled_by false c d e = cc e

pub can_enabled : (app : App) (history : List Entry) (c : Conn) (a : Act) → can app history c a ≡ true → enabled app history c a ≡ true
can_enabled app history c a e = enabled_by (enabled app history c a) (is_of_session a && is_full c) (is_queue_full c a) e

both : (a b : Bool) → (a && b) ≡ true → (a ≡ true) × (b ≡ true)
both true b e = (refl, e)
both false b e = cc e

all_three : (a b c : Bool) → (a && b && c) ≡ true → (a ≡ true) × (b ≡ true) × (c ≡ true)
all_three true true c e = (refl, refl, e)
all_three true false c e = cc e
all_three false b c e = cc e

at_work : (c : Conn) → is_at_work c ≡ true → c.is_dropped ≡ false
at_work c e = not-true c.is_dropped (all_three (not c.is_dropped) (not (state_in c).failed) (nat_lt (length c.outbox) outbox_limit) e).0

-- ---- a client that is there stays so

up_there : (c : Conn) (ts : List (List ℕ)) → (goes_up c ts).is_dropped ≡ c.is_dropped
up_there c [] = refl
up_there c (t ∷ ts) = refl

recv_there : (app : App) (history : List Entry) (c : Conn) (ts : List (List ℕ)) → (receives app history c ts).is_dropped ≡ c.is_dropped
recv_there app history c [] = refl
recv_there app history c (t ∷ ts) = by (taken_text (state_in c).connected t)
  where
    by : (taken : Taken) → (received_as app history (record c { upward = ts; received = c.received ++ t ∷ [] }) (length t) taken).is_dropped ≡ c.is_dropped
    by (at_once i) = refl
    by (to_queue message) = refl

handle_there : (app : App) (history : List Entry) (c : Conn) (ws : List Waiting) → (handles app history c ws).is_dropped ≡ c.is_dropped
handle_there app history c [] = refl
handle_there app history c (w ∷ ws) = refl

learn_there : (app : App) (history : List Entry) (c d : Conn) (o : Option Item) → d.is_dropped ≡ c.is_dropped →
    (learns_item app history d o).is_dropped ≡ c.is_dropped
learn_there app history c d None e = e
learn_there app history c d (Some i) e = e

send_there : (c : Conn) (ts : List (List ℕ)) → (sends c ts).is_dropped ≡ c.is_dropped
send_there c [] = refl
send_there c (t ∷ ts) = refl

take_there : (c : Conn) (ts : List (List ℕ)) → (takes c ts).is_dropped ≡ c.is_dropped
take_there c [] = refl
take_there c (t ∷ ts) = refl

-- ---- what stays the same

learn_asks : (app : App) (history : List Entry) (c d : Conn) (o : Option Item) → asks_in d ≡ asks_in c → asks_in (learns_item app history d o) ≡ asks_in c
learn_asks app history c d None e = e
learn_asks app history c d (Some i) e = e

send_same : (f : Conn → ℕ) (c : Conn) (ts : List (List ℕ)) →
    ((d : Conn) (t : List ℕ) (rest : List (List ℕ)) → f (record d { outbox = rest; sent = d.sent ++ t ∷ []; downward = d.downward ++ t ∷ [] }) ≡ f d) →
    f (sends c ts) ≡ f c
send_same f c [] same = refl
send_same f c (t ∷ ts) same = same c t ts

take_calls : (app : App) (history : List Entry) (c : Conn) (ts : List (List ℕ)) → calls_in app history (takes c ts) ≡ calls_in app history c
take_calls app history c [] = refl
take_calls app history c (t ∷ ts) = refl

take_learns : (c : Conn) (ts : List (List ℕ)) → learns_in (takes c ts) ≡ learns_in c
take_learns c [] = refl
take_learns c (t ∷ ts) = refl

take_cursors : (entries : ℕ) (c : Conn) (ts : List (List ℕ)) → cursors_in entries (takes c ts) ≡ cursors_in entries c
take_cursors entries c [] = refl
take_cursors entries c (t ∷ ts) = refl

load_learns : (app : App) (history : List Entry) (c : Conn) (s place : ℕ) → learns_in (with_item app history c (item.load s place)) ≡ learns_in c
load_learns app history c s place =
    ap state_learns (item_state app history c (item.load s place))
    ∙ ap (λ n. n + one_if (is_some (state_in c).blocking)) (fire_same (loaded s place (state_in c).subs) (state_in c).methods)

advance_learns : (app : App) (history : List Entry) (c : Conn) (s count : ℕ) → learns_in (with_item app history c (item.advance s count)) ≡ learns_in c
advance_learns app history c s count =
    ap state_learns (item_state app history c (item.advance s count))
    ∙ ap (λ n. n + one_if (is_some (state_in c).blocking)) (fire_same (advanced s count (state_in c).subs) (state_in c).methods)

-- ---- the world with one client changed

module _ (w : World) (name : List ℕ) (c : Conn) (sorted : IsSorted text_cmp w.conns) (is : conn_of w name ≡ Some c) where
  abbrev put : Conn → World
  put d = with_conn w name d

  by_asks : (d : Conn) → c.is_dropped ≡ false → d.is_dropped ≡ c.is_dropped → asks_in d < asks_in c → Below measures (put d) w
  by_asks d there same less = inl (inl (inl (inl (inl (inr (tt, present_less asks_in w.conns name c d sorted is there (same ∙ there) less))))))

  same_asks : (d : Conn) → d.is_dropped ≡ c.is_dropped → asks_in d ≡ asks_in c → asks (put d) ≡ asks w
  same_asks d there same = present_same asks_in w.conns name c d sorted is (sym there) (sym same)

  same_calls : (d : Conn) → d.is_dropped ≡ c.is_dropped → calls_in w.app w.history d ≡ calls_in w.app w.history c → calls (put d) ≡ calls w
  same_calls d there same = present_same (calls_in w.app w.history) w.conns name c d sorted is (sym there) (sym same)

  same_learns : (d : Conn) → d.is_dropped ≡ c.is_dropped → learns_in d ≡ learns_in c → all_learns (put d) ≡ all_learns w
  same_learns d there same = present_same learns_in w.conns name c d sorted is (sym there) (sym same)

  same_cursors : (d : Conn) → d.is_dropped ≡ c.is_dropped → cursors_in (length w.history) d ≡ cursors_in (length w.history) c → cursors (put d) ≡ cursors w
  same_cursors d there same = present_same (cursors_in (length w.history)) w.conns name c d sorted is (sym there) (sym same)

  by_learns : (d : Conn) → c.is_dropped ≡ false → d.is_dropped ≡ c.is_dropped → asks_in d ≡ asks_in c →
      calls_in w.app w.history d ≡ calls_in w.app w.history c → learns_in d < learns_in c → Below measures (put d) w
  by_learns d there same a k less = inl
      (inl (inr ((refl, (same_calls d same k, (same_asks d same a, tt))), present_less learns_in w.conns name c d sorted is there (same ∙ there) less)))

  by_cursors : (d : Conn) → c.is_dropped ≡ false → d.is_dropped ≡ c.is_dropped → asks_in d ≡ asks_in c →
      calls_in w.app w.history d ≡ calls_in w.app w.history c → learns_in d ≡ learns_in c →
      cursors_in (length w.history) d < cursors_in (length w.history) c → Below measures (put d) w
  by_cursors d there same a k l less =
      inl (inr (
        (same_learns d same l, (refl, (same_calls d same k, (same_asks d same a, tt)))),
        present_less (cursors_in (length w.history)) w.conns name c d sorted is there (same ∙ there) less,
      ))

  by_texts : (d : Conn) → c.is_dropped ≡ false → d.is_dropped ≡ c.is_dropped → asks_in d ≡ asks_in c →
      calls_in w.app w.history d ≡ calls_in w.app w.history c → learns_in d ≡ learns_in c →
      cursors_in (length w.history) d ≡ cursors_in (length w.history) c → texts_in d < texts_in c → Below measures (put d) w
  by_texts d there same a k l q less =
      inr (
        (same_cursors d same q, (same_learns d same l, (refl, (same_calls d same k, (same_asks d same a, tt))))),
        present_less texts_in w.conns name c d sorted is there (same ∙ there) less,
      )

  -- ---- entries

  abbrev entered : Entry → Conn → World
  entered e d = record w { history = w.history ++ e ∷ []; conns = insert_entry text_cmp w.conns name d }

  by_step : (k : ℕ) → goes_on (at run_cmp (held_in w.app w.history).runs (c.number, k)) ≡ true → Below measures (entered (entry.Step c.number k) c) w
  by_step k goes =
      let later = w.history ++ entry.Step c.number k ∷ [] in
      let as_many = present_equal (calls_in w.app w.history) (calls_in w.app later) (insert_entry text_cmp w.conns name c)
      (λ d. calls_same w.app w.history later d (λ j. step_begins_none w.app w.history c.number k d.number j)) in
      inl (inl (inl (inr ((as_many ∙ same_calls c refl refl, (same_asks c refl refl, tt)), step_leaves_fewer w.app w.history c.number k goes))))

  by_begin : (b : Blocking) → c.is_dropped ≡ false → unbegun w.app w.history c ≡ Some b → Below measures (entered (begin_entry c.number b) c) w
  by_begin b there free =
      let later = w.history ++ begin_entry c.number b ∷ [] in
      let fewer = λ (d : Conn). calls_fewer w.app w.history later d (λ j ran. run_stays w.app w.history (begin_entry c.number b) d.number j ran) in
      let was : calls_in w.app w.history c ≡ 1 = ap (λ (o : Option Blocking). if is_some o then 1 else 0) free in
      let now : calls_in w.app later c ≡ 0 = run_begun w.app later c b (unbegun_free w.app w.history c b free) (begun_runs w.app w.history c.number b) in
      let less = present_lower (calls_in w.app w.history) (calls_in w.app later) w.conns name c fewer is there (omega (arith, was, now)) in
      let same = present_same (calls_in w.app later) w.conns name c c sorted is refl refl in
      inl (inl (inl (inl (inr ((same_asks c refl refl, tt), omega (arith, less, same))))))

  by_refusal : (b : Blocking) (r : Refusal) → c.is_dropped ≡ false → unbegun w.app w.history c ≡ Some b → is_kept b.k (Some r) ≡ true →
      Below measures (put (record c { kept = Some r })) w
  by_refusal b r there free kept =
      let d : Conn = record c { kept = Some r } in
      let was : calls_in w.app w.history c ≡ 1 = ap (λ (o : Option Blocking). if is_some o then 1 else 0) free in
      let now : calls_in w.app w.history d ≡ 0 = kept_begun w.app w.history d b (unbegun_free w.app w.history c b free) kept in
      let less = present_less (calls_in w.app w.history) w.conns name c d sorted is there there (omega (arith, was, now)) in
      inl (inl (inl (inl (inr ((same_asks d refl refl, tt), less)))))

  -- ---- all acts

  abbrev made : Act → Conn
  made a = does w.app w.history c a

  -- no entry is made
  plain : (d : Conn) (es : List Entry) → es ≡ [] → Below measures (put d) w →
      Below measures (record w { history = w.history ++ es; conns = insert_entry text_cmp w.conns name d }) w
  plain d es none below = subst (λ (h : List Entry). Below measures (record w { history = h; conns = insert_entry text_cmp w.conns name d }) w)
      (sym (ap (λ (xs : List Entry). w.history ++ xs) none ∙ append-nil w.history)) below

  begin_lowers : (o : Option Blocking) → unbegun w.app w.history c ≡ o → is_some o ≡ true → c.is_dropped ≡ false →
      Below measures
      (record w {
        history = w.history ++ begun w.app w.history c.number o;
        conns = insert_entry text_cmp w.conns name (record c { kept = refusal_kept w.app w.history o c.kept });
      }) w
  begin_lowers None free some there = absurd (cc some)
  begin_lowers (Some b) free some there =
      let r : Refusal = record { k = b.k; at = length w.history } in
      elim (is_refused w.app w.history b)
      as (λ x. Below measures (record w {
        history = w.history ++ cond x [] (begin_entry c.number b ∷ []);
        conns = insert_entry text_cmp w.conns name (record c { kept = cond x (Some r) c.kept });
      }) w) [
        | true ↦ plain (record c { kept = Some r }) [] refl (by_refusal b r there free (eq-eqb b.k b.k refl))
        | false ↦ by_begin b there free
      ]

  learn_lowers : (k place : ℕ) (o : Option Item) → learnt w.app w.history c k place ≡ o → is_some o ≡ true → c.is_dropped ≡ false → IsTidy c →
      Below measures (put (learns w.app w.history c k place)) w
  learn_lowers k place None e some there tidy = absurd (cc some)
  learn_lowers k place (Some i) e some there tidy =
      let d : Conn = record c { kept = if is_kept k c.kept then None else c.kept } in
      by_learns (learns w.app w.history c k place) there (learn_there w.app w.history c d (learnt w.app w.history c k place) refl)
      (learn_asks w.app w.history c d (learnt w.app w.history c k place) refl)
      (learn_calls w.app w.history c k place i tidy e) (learn_less w.app w.history c k place i tidy e)

  pub lowers : (a : Act) → IsTidy c → enabled w.app w.history c a ≡ true → Below measures (acted w name a c) w
  lowers act.Up tidy e =
      let is_there = all_three (not c.is_dropped) (has_some c.client.waiting) (nat_lt (length c.upward) link_limit) e in
      plain (goes_up c c.client.waiting) [] refl
      (by_asks (goes_up c c.client.waiting) (not-true c.is_dropped is_there.0) (up_there c c.client.waiting) (up_less c c.client.waiting refl is_there.1))
  lowers act.Recv tidy e =
      let is_there = both (is_at_work c) (has_some c.upward) e in
      plain (receives w.app w.history c c.upward) [] refl
      (by_asks (receives w.app w.history c c.upward) (at_work c is_there.0) (recv_there w.app w.history c c.upward)
      (recv_less w.app w.history c c.upward refl is_there.1))
  lowers act.Handle tidy e =
      let is_there = all_three (is_at_work c) (has_some c.queue) (is_none (state_in c).blocking) e in
      plain (handles w.app w.history c c.queue) [] refl
      (by_asks (handles w.app w.history c c.queue) (at_work c is_there.0) (handle_there w.app w.history c c.queue)
      (handle_less w.app w.history c c.queue refl is_there.1))
  lowers act.Begin tidy e =
      let is_there = both (not c.is_dropped) (is_some (unbegun w.app w.history c)) e in
      begin_lowers (unbegun w.app w.history c) refl is_there.1 (not-true c.is_dropped is_there.0)
  lowers (act.Step k) tidy e = by_step k e
  lowers (act.Learn k place) tidy e =
      let is_there = both (is_at_work c) (is_some (learnt w.app w.history c k place)) e in
      plain (learns w.app w.history c k place) [] refl (learn_lowers k place (learnt w.app w.history c k place) refl is_there.1 (at_work c is_there.0) tidy)
  lowers (act.Load sub place) tidy e =
      let is_there = all_three (is_at_work c) (nat_le place (length w.history)) (may_load sub place (state_in c).subs) e in
      let d = with_item w.app w.history c (item.load sub place) in
      plain d [] refl
      (by_cursors d (at_work c is_there.0) refl refl (item_calls w.app w.history c (item.load sub place) refl)
      (load_learns w.app w.history c sub place) (load_less w.app w.history c sub place is_there.2))
  lowers (act.Advance sub count) tidy e =
      let is_there = both (is_at_work c) (may_advance (length w.history) count (cursor_of sub (state_in c).subs)) e in
      let d = with_item w.app w.history c (item.advance sub count) in
      plain d [] refl
      (by_cursors d (at_work c is_there.0) refl refl (item_calls w.app w.history c (item.advance sub count) refl)
      (advance_learns w.app w.history c sub count) (advance_less w.app w.history c sub count is_there.1))
  lowers act.Send tidy e =
      let is_there = all_three (not c.is_dropped) (has_some c.outbox) (nat_lt (length c.downward) link_limit) e in
      let d = sends c c.outbox in
      plain d [] refl
      (by_texts d (not-true c.is_dropped is_there.0) (send_there c c.outbox) (send_same asks_in c c.outbox (λ x t ts. refl))
      (send_same (calls_in w.app w.history) c c.outbox (λ x t ts. refl))
      (send_same learns_in c c.outbox (λ x t ts. refl)) (send_same (cursors_in (length w.history)) c c.outbox (λ x t ts. refl))
      (send_less c c.outbox refl is_there.1))
  lowers act.Take tidy e =
      let is_there = all_three (not c.is_dropped) (has_some c.downward) (can_take c.client) e in
      let d = takes c c.downward in
      plain d [] refl
      (by_texts d (not-true c.is_dropped is_there.0) (take_there c c.downward) (take_asks c c.downward (tidy.calm is_there.2))
      (take_calls w.app w.history c c.downward)
      (take_learns c c.downward) (take_cursors (length w.history) c c.downward) (take_less c c.downward refl is_there.1))

-- ---- in any world

goes_by : (w : World) (name : List ℕ) (a : Act) (o : Option Conn) → conn_of w name ≡ o → IsSorted text_cmp w.conns → IfSome o IsTidy →
    ((can_by w a o ≡ false) × (done_by w name a o ≡ w)) ⊎ ((can_by w a o ≡ true) × Below measures (done_by w name a o) w)
goes_by w name a None is sorted tidy = inl (refl, refl)
goes_by w name a (Some c) is sorted tidy =
    elim (can w.app w.history c a) as
    (λ b. can w.app w.history c a ≡ b → ((b ≡ false) × (cond b (acted w name a c) w ≡ w)) ⊎ ((b ≡ true) × Below measures (cond b (acted w name a c) w) w)) [
      | true ↦ λ may. inr (refl, lowers w name c sorted is a tidy (can_enabled w.app w.history c a may))
      | false ↦ λ may. inl (refl, refl)
    ] refl

-- an act that isn't made leaves the world, and any other leaves less to be done
pub acts_lower : (e : List ℕ × Act) (w : World) → AreTidy w → ((can_in w e ≡ false) × (done e w ≡ w)) ⊎ ((can_in w e ≡ true) × Below measures (done e w) w)
acts_lower e w t = goes_by w e.0 e.1 (conn_of w e.0) refl t.sorted (t.tidy e.0)
