-- Laws: Calls of a timed link one after another, and that they keep time.
use Rattle.std.specs.Prelude.{◌≡◌, ◌⊎◌, ◌+◌, ℕ, List, [], ◌∷◌, ◌++◌, Bool, true, false, ◌||◌, Option, None, Some, is_some, refl}
use Rattle.std.proofs.Common.{ap, ap₂, sym, subst, ◌∙◌, arith, inl, inr}
use Rattle.std.proofs.lemmas.List.{append_assoc, append-nil}
use Rattle.duct.specs.declared.link.Polled.{Polled}
use Rattle.duct.specs.declared.link.Polled.TheVariants.{Message, Quiet, Closed, Failed, Memory}
use Rattle.duct.specs.Calls.{Call, Leads, answers_in}
use Rattle.duct.specs.Calls as call
use Rattle.duct.specs.CallLaws.{answers_in-append}
use Rattle.duct.specs.Polls.{has_closed}
use Rattle.heartbeat.specs.declared.heart.Beat.{Beat}
use Rattle.heartbeat.specs.declared.heart.Beat.TheVariants as beats
use Rattle.heartbeat.specs.Beats.{Times, History, heard, ticked, beat, is_over, closes}
use Rattle.heartbeat.specs.Pulse.{Pulse, pulse_of, pulse_heard, pulse_beat}
use Rattle.heartbeat.specs.PulseLaws.{pulse_ticked-history}
use Rattle.timed_link.specs.Acts.{Act, polled, offered, pinged, calls_in, own_calls, moments_in, pings_in, ArePings, with_texts, HasTold}
use Rattle.timed_link.specs.Watch.{Watch, given_up_by, pings_by, after, all_after, pings_due, MayAct, MayAll}
use Rattle.timed_link.specs.Watch as watch
use Rattle.timed_link.specs.Timed.{Timed, Within, TimedStep}
use Rattle.timed_link.specs.Times.{IsNew, history_behind, pings_of, GivesUp, KeepsTime}
use Rattle.timed_link.specs.Keeping.{Knows}

-- ---- lists of acts

calls_in-append : (xs ys : List Act) → calls_in (xs ++ ys) ≡ calls_in xs ++ calls_in ys
calls_in-append [] ys = refl
calls_in-append (polled t answer ∷ xs) ys = ap (λ cs. call.heard answer ∷ cs) (calls_in-append xs ys)
calls_in-append (offered c ∷ xs) ys = ap (λ cs. c ∷ cs) (calls_in-append xs ys)
calls_in-append (pinged c ∷ xs) ys = ap (λ cs. c ∷ cs) (calls_in-append xs ys)

own_calls-append : (xs ys : List Act) → own_calls (xs ++ ys) ≡ own_calls xs ++ own_calls ys
own_calls-append [] ys = refl
own_calls-append (polled t answer ∷ xs) ys = ap (λ cs. call.heard answer ∷ cs) (own_calls-append xs ys)
own_calls-append (offered c ∷ xs) ys = ap (λ cs. c ∷ cs) (own_calls-append xs ys)
own_calls-append (pinged c ∷ xs) ys = own_calls-append xs ys

moments_in-append : (xs ys : List Act) → moments_in (xs ++ ys) ≡ moments_in xs ++ moments_in ys
moments_in-append [] ys = refl
moments_in-append (polled t answer ∷ xs) ys = ap (λ ts. t ∷ ts) (moments_in-append xs ys)
moments_in-append (offered c ∷ xs) ys = moments_in-append xs ys
moments_in-append (pinged c ∷ xs) ys = moments_in-append xs ys

pings_in-append : (xs ys : List Act) → pings_in (xs ++ ys) ≡ pings_in xs + pings_in ys
pings_in-append [] ys = omega arith
pings_in-append (polled t answer ∷ xs) ys = pings_in-append xs ys
pings_in-append (offered c ∷ xs) ys = pings_in-append xs ys
pings_in-append (pinged c ∷ xs) ys = omega (arith, pings_in-append xs ys)

are_pings-append : (xs ys : List Act) → ArePings xs → ArePings ys → ArePings (xs ++ ys)
are_pings-append [] ys p q = q
are_pings-append (polled t answer ∷ xs) ys p q = are_pings-append xs ys p q
are_pings-append (offered c ∷ xs) ys p q = are_pings-append xs ys p q
are_pings-append (pinged c ∷ xs) ys p q = (p.0, are_pings-append xs ys p.1 q)

all_after-append : (w : Watch) (xs ys : List Act) → all_after w (xs ++ ys) ≡ all_after (all_after w xs) ys
all_after-append w [] ys = refl
all_after-append w (x ∷ xs) ys = all_after-append (after w x) xs ys

pings_due-append : (w : Watch) (xs ys : List Act) → pings_due w (xs ++ ys) ≡ pings_due w xs + pings_due (all_after w xs) ys
pings_due-append w [] ys = omega arith
pings_due-append w (x ∷ xs) ys = omega (arith, pings_due-append (after w x) xs ys)

may-append : (w : Watch) (xs ys : List Act) → MayAll w xs → MayAll (all_after w xs) ys → MayAll w (xs ++ ys)
may-append w [] ys p q = q
may-append w (x ∷ xs) ys p q = (p.0, may-append (after w x) xs ys p.1 q)

with_texts-append : (xs ys : List Call) → with_texts (xs ++ ys) ≡ with_texts xs ++ with_texts ys
with_texts-append [] ys = refl
with_texts-append (call.heard (Message text) ∷ xs) ys = ap (λ cs. call.heard (Message text) ∷ cs) (with_texts-append xs ys)
with_texts-append (call.heard Quiet ∷ xs) ys = with_texts-append xs ys
with_texts-append (call.heard Closed ∷ xs) ys = with_texts-append xs ys
with_texts-append (call.heard Failed ∷ xs) ys = with_texts-append xs ys
with_texts-append (call.heard Memory ∷ xs) ys = with_texts-append xs ys
with_texts-append (call.said text ∷ xs) ys = ap (λ cs. call.said text ∷ cs) (with_texts-append xs ys)
with_texts-append (call.handed_back text fault ∷ xs) ys = ap (λ cs. call.handed_back text fault ∷ cs) (with_texts-append xs ys)

answers_closed : (xs ys : List Polled) → has_closed (xs ++ ys) ≡ (has_closed xs || has_closed ys)
answers_closed [] ys = refl
answers_closed (Closed ∷ xs) ys = refl
answers_closed (_ ∷ xs) ys = answers_closed xs ys

closed-append : (xs ys : List Call) → has_closed (answers_in (xs ++ ys)) ≡ (has_closed (answers_in xs) || has_closed (answers_in ys))
closed-append xs ys = ap has_closed (answers_in-append xs ys) ∙ answers_closed (answers_in xs) (answers_in ys)

own_closed-append : (xs ys : List Act) →
    has_closed (answers_in (own_calls (xs ++ ys))) ≡ (has_closed (answers_in (own_calls xs)) || has_closed (answers_in (own_calls ys)))
own_closed-append xs ys = ap (λ cs. has_closed (answers_in cs)) (own_calls-append xs ys) ∙ closed-append (own_calls xs) (own_calls ys)

either : (a b : Bool) → (a || b) ≡ true → (a ≡ true) ⊎ (b ≡ true)
either true b is = inl refl
either false b is = inr is

first_of : (a b : Bool) → a ≡ true → (a || b) ≡ true
first_of true b is = refl
first_of false b is = cc is

second_of : (a b : Bool) → b ≡ true → (a || b) ≡ true
second_of true b is = refl
second_of false b is = is

by_parts : {A B X : Type 0} → (A → X) → (B → X) → A ⊎ B → X
by_parts f g (inl a) = f a
by_parts f g (inr b) = g b

-- ---- a peer that was given up stays so

no_option : {A : Type 0} (o : Option A) → is_some o ≡ true → o ≡ None → ⊥
no_option (Some x) is none = cc none
no_option None is none = cc is

stays_one : (w : Watch) (x : Act) → is_some w.given_up ≡ true → MayAct w x → after w x ≡ w
stays_one w (polled t answer) is may = absurd (no_option w.given_up is may)
stays_one w (offered c) is may = refl
stays_one w (pinged c) is may = refl

pub stays_given_up : (xs : List Act) (w : Watch) → is_some w.given_up ≡ true → MayAll w xs → is_some (all_after w xs).given_up ≡ true
stays_given_up [] w is may = is
stays_given_up (x ∷ xs) w is may = stays_given_up xs (after w x) (ap (λ (v : Watch). is_some v.given_up) (stays_one w x is may.0) ∙ is) may.1

-- ---- calls one after another

told_none : (o o' : Option (List ℕ)) → o' ≡ o → HasTold o o' []
told_none o o' same now is = (now, sym same ∙ is, append-nil now)

told_then : (a b c : Option (List ℕ)) (xs ys : List ℕ) → HasTold a b xs → HasTold b c ys → HasTold a c (xs ++ ys)
told_then a b c xs ys p q now is =
    let t = q now is in
    let o = p t.0 t.1 in
    (o.0, o.1, sym (append_assoc o.0 xs ys) ∙ (ap (λ zs. zs ++ ys) o.2 ∙ t.2))

module _ {L : Type 0} (steps : L → Call → L → Type 0) where
  leads_append : (a b c : L) (xs ys : List Call) → Leads steps a xs b → Leads steps b ys c → Leads steps a (xs ++ ys) c
  leads_append a b c [] ys is next = let P : L → Type 0 = λ x. Leads steps x ys c in subst P is next
  leads_append a b c (x ∷ xs) ys q next = (q.0, q.1, leads_append q.0 b c xs ys q.2 next)

module _ {L C : Type 0} (steps : L → Call → L → Type 0) (told : C → Option (List ℕ)) where
  within_none : (a b : Timed L C) → b ≡ a → Within steps told a [] b
  within_none a b same = record {
    acts = [];
    leads = ap (λ (t : Timed L C). t.link) same;
    asked = told_none (told a.clock) (told b.clock) (ap (λ (t : Timed L C). told t.clock) same);
    watch = ap (λ (t : Timed L C). t.watch) same;
    may = tt;
    pings = tt;
    due = refl;
    texts = refl;
    closed = λ is. absurd (cc is);
    told_on = λ is. is;
    gives_up = λ is. inl (sym (ap (λ (t : Timed L C). is_some t.watch.given_up) same) ∙ is);
  }

  within_then : (a m b : Timed L C) (xs ys : List Call) → Within steps told a xs m → Within steps told m ys b → Within steps told a (xs ++ ys) b
  within_then a m b xs ys p q =
      let may = subst (λ (w : Watch). MayAll w q.acts) p.watch q.may in
      let watch : b.watch ≡ all_after a.watch (p.acts ++ q.acts) = q.watch
      ∙ (ap (λ (w : Watch). all_after w q.acts) p.watch ∙ sym (all_after-append a.watch p.acts q.acts)) in
      let on : is_some m.watch.given_up ≡ true → is_some b.watch.given_up ≡ true = λ is. ap (λ (w : Watch). is_some w.given_up) q.watch
      ∙ stays_given_up q.acts m.watch is q.may in
      let own = own_closed-append p.acts q.acts in
      let all = closed-append xs ys in
      let due = subst (λ (w : Watch). pings_in q.acts ≡ pings_due w q.acts) p.watch q.due in
      record {
        acts = p.acts ++ q.acts;
        leads = subst (λ cs. Leads steps a.link cs b.link) (sym (calls_in-append p.acts q.acts))
            (leads_append steps a.link m.link b.link (calls_in p.acts) (calls_in q.acts) p.leads q.leads);
        asked = subst (λ ts. HasTold (told a.clock) (told b.clock) ts) (sym (moments_in-append p.acts q.acts))
            (told_then (told a.clock) (told m.clock) (told b.clock) (moments_in p.acts) (moments_in q.acts) p.asked q.asked);
        watch = watch;
        may = may-append a.watch p.acts q.acts p.may may;
        pings = are_pings-append p.acts q.acts p.pings q.pings;
        due = omega (arith, pings_in-append p.acts q.acts, pings_due-append a.watch p.acts q.acts, p.due, due);
        texts = ap with_texts (own_calls-append p.acts q.acts)
            ∙ (with_texts-append (own_calls p.acts) (own_calls q.acts) ∙ (ap₂ (λ cs ds. cs ++ ds) p.texts q.texts ∙ sym (with_texts-append xs ys)));
        closed = λ is. by_parts
            (λ (one : has_closed (answers_in xs) ≡ true). by_parts
            (λ (c : has_closed (answers_in (own_calls p.acts)) ≡ true).
            inl (own ∙ first_of (has_closed (answers_in (own_calls p.acts))) (has_closed (answers_in (own_calls q.acts))) c))
            (λ (given : is_some m.watch.given_up ≡ true). inr (on given)) (p.closed one))
            (λ (two : has_closed (answers_in ys) ≡ true). by_parts
            (λ (c : has_closed (answers_in (own_calls q.acts)) ≡ true).
            inl (own ∙ second_of (has_closed (answers_in (own_calls p.acts))) (has_closed (answers_in (own_calls q.acts))) c))
            (λ (given : is_some b.watch.given_up ≡ true). inr given) (q.closed two))
            (either (has_closed (answers_in xs)) (has_closed (answers_in ys)) (sym all ∙ is));
        told_on = λ is. all ∙ by_parts
            (λ (c : has_closed (answers_in (own_calls p.acts)) ≡ true). first_of (has_closed (answers_in xs)) (has_closed (answers_in ys)) (p.told_on c))
            (λ (c : has_closed (answers_in (own_calls q.acts)) ≡ true). second_of (has_closed (answers_in xs)) (has_closed (answers_in ys)) (q.told_on c))
            (either (has_closed (answers_in (own_calls p.acts))) (has_closed (answers_in (own_calls q.acts))) (sym own ∙ is));
        gives_up = λ is. by_parts
            (λ (given : is_some m.watch.given_up ≡ true). by_parts
            (λ (before : is_some a.watch.given_up ≡ true). inl before)
            (λ (c : has_closed (answers_in xs) ≡ true). inr (all ∙ first_of (has_closed (answers_in xs)) (has_closed (answers_in ys)) c)) (p.gives_up given))
            (λ (c : has_closed (answers_in ys) ≡ true). inr (all ∙ second_of (has_closed (answers_in xs)) (has_closed (answers_in ys)) c)) (q.gives_up is);
      }

  pub all_within : (calls : List Call) (a b : Timed L C) → Leads (TimedStep steps told) a calls b → Within steps told a calls b
  all_within [] a b same = within_none a b same
  all_within (c ∷ calls) a b q = within_then a q.0 b (c ∷ []) calls q.1 (all_within calls q.0 b q.2)

-- ---- the history of the heart

-- a tick, where no other one closed
gives_up_by : (times : Times) (past : History) (t : ℕ) → is_over times past ≡ false → GivesUp times (ticked t ∷ past) (given_up_by (beat times past t))
gives_up_by times past t going = by (beat times past t) refl
  where
    by : (b : Beat) → beat times past t ≡ b → GivesUp times (ticked t ∷ past) (given_up_by b)
    by (beats.Close asked now) is = (going, is)
    by beats.Ping is = ap (λ x. closes x || is_over times past) is ∙ going
    by beats.Nothing is = ap (λ x. closes x || is_over times past) is ∙ going

going_on : (times : Times) (past : History) (o : Option (ℕ × ℕ)) → o ≡ None → GivesUp times past o → is_over times past ≡ false
going_on times past None none g = g
going_on times past (Some moments) none g = cc none

knows_new : (times : Times) (w : Watch) → IsNew times w → Knows times [] w
knows_new times w n = record { heart = n.2; ends = subst (λ o. GivesUp times [] o) (sym n.3) refl }

ticked_knows : (times : Times) (past : History) (t : ℕ) (heart : Pulse) → heart ≡ pulse_of times past → is_over times past ≡ false
    → Knows times (ticked t ∷ past) (record { heart = watch.ticked heart t; given_up = given_up_by (pulse_beat heart t) })
ticked_knows times past t heart is going = record {
  heart = ap (λ (p : Pulse). watch.ticked p t) is ∙ pulse_ticked-history times past t going;
  ends = subst (λ (p : Pulse). GivesUp times (ticked t ∷ past) (given_up_by (pulse_beat p t))) (sym is) (gives_up_by times past t going);
}

one_ping : (times : Times) (past : History) (t : ℕ) (heart : Pulse) → heart ≡ pulse_of times past →
    pings_of times (ticked t ∷ past) ≡ pings_of times past + pings_by (pulse_beat heart t)
one_ping times past t heart is =
    let same : pings_by (pulse_beat heart t) ≡ pings_by (beat times past t) = ap (λ (p : Pulse). pings_by (pulse_beat p t)) is in
    omega (arith, same)

knows_all : (times : Times) (xs : List Act) (past : History) (w : Watch) → Knows times past w → MayAll w xs →
    Knows times (history_behind past xs) (all_after w xs)
knows_all times [] past w k may = k
knows_all times (polled t (Message text) ∷ xs) past w k may =
    let going = going_on times past w.given_up may.0 k.ends in
    knows_all times xs (ticked t ∷ heard t ∷ past) (after w (polled t (Message text)))
    (ticked_knows times (heard t ∷ past) t (pulse_heard w.heart t) (ap (λ (p : Pulse). pulse_heard p t) k.heart) going) may.1
knows_all times (polled t Quiet ∷ xs) past w k may =
    let going = going_on times past w.given_up may.0 k.ends in
    knows_all times xs (ticked t ∷ past) (after w (polled t Quiet)) (ticked_knows times past t w.heart k.heart going) may.1
knows_all times (polled t Closed ∷ xs) past w k may = knows_all times xs past w k may.1
knows_all times (polled t Failed ∷ xs) past w k may = knows_all times xs past w k may.1
knows_all times (polled t Memory ∷ xs) past w k may = knows_all times xs past w k may.1
knows_all times (offered c ∷ xs) past w k may = knows_all times xs past w k may.1
knows_all times (pinged c ∷ xs) past w k may = knows_all times xs past w k may.1

pings_all : (times : Times) (xs : List Act) (past : History) (w : Watch) → Knows times past w → MayAll w xs →
    pings_of times (history_behind past xs) ≡ pings_of times past + pings_due w xs
pings_all times [] past w k may = omega arith
pings_all times (polled t (Message text) ∷ xs) past w k may =
    let going = going_on times past w.given_up may.0 k.ends in
    let heart = ap (λ (p : Pulse). pulse_heard p t) k.heart in
    let rest = pings_all times xs (ticked t ∷ heard t ∷ past) (after w (polled t (Message text)))
    (ticked_knows times (heard t ∷ past) t (pulse_heard w.heart t) heart going) may.1 in
    let one = one_ping times (heard t ∷ past) t (pulse_heard w.heart t) heart in
    omega (arith, rest, one)
pings_all times (polled t Quiet ∷ xs) past w k may =
    let going = going_on times past w.given_up may.0 k.ends in
    let rest = pings_all times xs (ticked t ∷ past) (after w (polled t Quiet)) (ticked_knows times past t w.heart k.heart going) may.1 in
    let one = one_ping times past t w.heart k.heart in
    omega (arith, rest, one)
pings_all times (polled t Closed ∷ xs) past w k may = omega (arith, pings_all times xs past w k may.1)
pings_all times (polled t Failed ∷ xs) past w k may = omega (arith, pings_all times xs past w k may.1)
pings_all times (polled t Memory ∷ xs) past w k may = omega (arith, pings_all times xs past w k may.1)
pings_all times (offered c ∷ xs) past w k may = omega (arith, pings_all times xs past w k may.1)
pings_all times (pinged c ∷ xs) past w k may = omega (arith, pings_all times xs past w k may.1)

module _ {L C : Type 0} (steps : L → Call → L → Type 0) (told : C → Option (List ℕ)) where
  -- the calls of a timed link that was new keep time
  pub keeps_time : (times : Times) (a b : Timed L C) (calls : List Call) → IsNew times a.watch → Leads (TimedStep steps told) a calls b →
      KeepsTime steps told times a calls b
  keeps_time times a b calls new leads =
      let w = all_within steps told calls a b leads in
      let first = knows_new times a.watch new in
      let last = knows_all times w.acts [] a.watch first w.may in
      let due = pings_all times w.acts [] a.watch first w.may in
      record {
        acts = w.acts;
        leads = w.leads;
        asked = w.asked;
        pings = w.pings;
        due = omega (arith, w.due, due);
        ends = subst (λ (v : Watch). GivesUp times (history_behind [] w.acts) v.given_up) (sym w.watch) last.ends;
        texts = w.texts;
        closed = w.closed;
        told_on = w.told_on;
        gives_up = λ is. by_parts (λ (given : is_some a.watch.given_up ≡ true). absurd (no_option a.watch.given_up given new.3))
            (λ (c : has_closed (answers_in calls) ≡ true). c) (w.gives_up is);
      }
