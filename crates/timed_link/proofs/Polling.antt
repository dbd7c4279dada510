-- One call of a timed link, by what was done within.
use Rattle.std.specs.Prelude.{◌≡◌, ◌≤◌, ◌-◌, ℕ, max, nat_le, List, [], ◌∷◌, Bool, true, false, Option, None, Some, is_some, Result, Ok, Err, if◌then◌else◌, refl}
use Rattle.std.proofs.Common.{ap, ap₂, sym, subst, ◌∙◌, arith, inl, inr}
use Rattle.std.proofs.lemmas.List.{append-nil}
use Rattle.std.proofs.lemmas.Bool.{leb-true}
use Rattle.duct.specs.declared.link.Polled.{Polled}
use Rattle.duct.specs.declared.link.Polled.TheVariants.{Message, Quiet, Closed, Failed, Memory}
use Rattle.duct.specs.declared.link.SendFault.{SendFault}
use Rattle.duct.specs.declared.link.SendFault.TheVariants as fault
use Rattle.duct.specs.Calls.{Call, answers_in, heard, said, handed_back, sending}
use Rattle.duct.specs.Polls.{has_closed}
use Rattle.heartbeat.specs.declared.heart.Beat.{Beat}
use Rattle.heartbeat.specs.declared.heart.Beat.TheVariants as beats
use Rattle.heartbeat.specs.Clocks.{Answers}
use Rattle.heartbeat.specs.Pulse.{Pulse, pulse_heard, pulse_beat}
use Rattle.timed_link.specs.Acts.{Act, polled, offered, pinged, ping, IsOffer, with_texts, HasTold}
use Rattle.timed_link.specs.Watch.{Watch, given_up_by, pings_by, ticked, after, one_due}
use Rattle.timed_link.specs.Timed.{Timed, Within, TimedStep, refusal_answer, answered}

-- ---- a heart that hears a text asks for nothing

not_less : (i n : ℕ) → 1 ≤ i → n ≡ 0 → nat_le i n ≡ false
not_less i n some none = by (nat_le i n) refl
  where
    by : (b : Bool) → nat_le i n ≡ b → b ≡ false
    by true is = let le = leb-true i n is in absurd (omega (arith, le, some, none))
    by false is = refl

again : (t l : ℕ) → max t (max t l) - max t l ≡ 0
again t l = omega arith

no_beat : (p : Pulse) (t : ℕ) → 1 ≤ p.interval → pulse_beat (pulse_heard p t) t ≡ beats.Nothing
no_beat p t some = ap (λ b. if b then beats.Ping else beats.Nothing) (not_less p.interval (max t (max t p.latest) - max t p.latest) some (again t p.latest))

-- ---- the calls

pub no_moments : (o : Option (ℕ × ℕ)) → is_some o ≡ false → o ≡ None
no_moments None is = refl
no_moments (Some moments) is = cc is

none_told : (o o' : Option (List ℕ)) → o' ≡ o → HasTold o o' []
none_told o o' same now is = (now, sym same ∙ is, append-nil now)

module _ {L C : Type 0} (steps : L → Call → L → Type 0) (told : C → Option (List ℕ)) where
  -- the peer was given up before
  pub polled_again : (a : Timed L C) → is_some a.watch.given_up ≡ true → TimedStep steps told a (heard Closed) a
  polled_again a given = record {
    acts = [];
    leads = refl;
    asked = none_told (told a.clock) (told a.clock) refl;
    watch = refl;
    may = tt;
    pings = tt;
    due = refl;
    texts = refl;
    closed = λ is. inr given;
    told_on = λ is. cc is;
    gives_up = λ is. inl is;
  }

  -- there was no memory
  pub polled_without : (a : Timed L C) → TimedStep steps told a (heard Memory) a
  polled_without a = record {
    acts = [];
    leads = refl;
    asked = none_told (told a.clock) (told a.clock) refl;
    watch = refl;
    may = tt;
    pings = tt;
    due = refl;
    texts = refl;
    closed = λ is. absurd (cc is);
    told_on = λ is. cc is;
    gives_up = λ is. inl is;
  }

  -- a text of the owner was offered
  offered_one : (a b : Timed L C) (call : Call) → steps a.link call b.link → b.clock ≡ a.clock → b.watch ≡ a.watch → TimedStep steps told a call b
  offered_one a b call step clock watch = record {
    acts = offered call ∷ [];
    leads = (b.link, step, refl);
    asked = none_told (told a.clock) (told b.clock) (ap told clock);
    watch = watch;
    may = (tt, tt);
    pings = tt;
    due = refl;
    texts = refl;
    closed = λ is. inl is;
    told_on = λ is. is;
    gives_up = λ is. inl (sym (ap (λ (w : Watch). is_some w.given_up) watch) ∙ is);
  }

  pub offered_text : {R : Type 0} (a b : Timed L C) (text : List ℕ) (result : Result R (List ℕ × SendFault)) → steps a.link (sending text result) b.link → b.clock ≡ a.clock → b.watch ≡ a.watch → TimedStep steps told a (sending text result) b
  offered_text a b text (Ok r) step clock watch = offered_one a b (said text) step clock watch
  offered_text a b text (Err refused) step clock watch = offered_one a b (handed_back text refused.1) step clock watch

  module _ (a b : Timed L C) (t : ℕ) (asked : Answers (told a.clock) (told b.clock) t) (none : a.watch.given_up ≡ None) where
    -- the link was polled, and a text came
    pub polled_text : (text : List ℕ) → steps a.link (heard (Message text)) b.link → 1 ≤ a.watch.heart.interval
        → b.watch ≡ record a.watch { heart = ticked (pulse_heard a.watch.heart t) t } → TimedStep steps told a (heard (Message text)) b
    polled_text text step some watch =
        let nothing = no_beat a.watch.heart t some in
        let same : given_up_by (pulse_beat (pulse_heard a.watch.heart t) t) ≡ a.watch.given_up = ap given_up_by nothing ∙ sym none in
        record {
          acts = polled t (Message text) ∷ [];
          leads = (b.link, step, refl);
          asked = asked;
          watch = watch ∙ ap (λ (o : Option (ℕ × ℕ)). let w : Watch = record { heart = ticked (pulse_heard a.watch.heart t) t; given_up = o } in w) (sym same);
          may = (none, tt);
          pings = tt;
          due = let none_due : 0 ≡ pings_by (pulse_beat (pulse_heard a.watch.heart t) t) = ap pings_by (sym nothing) in omega (arith, none_due);
          texts = refl;
          closed = λ is. inl is;
          told_on = λ is. is;
          gives_up = λ is. inl (sym (ap (λ (w : Watch). is_some w.given_up) watch) ∙ is);
        }

    -- no text came, and the heart isn't asked
    polled_one : (answer : Polled) → steps a.link (heard answer) b.link → b.watch ≡ a.watch → after a.watch (polled t answer) ≡ a.watch → 0 ≡ one_due a.watch (polled t answer) → TimedStep steps told a (heard answer) b
    polled_one answer step watch same due = record {
      acts = polled t answer ∷ [];
      leads = (b.link, step, refl);
      asked = asked;
      watch = watch ∙ sym same;
      may = (none, tt);
      pings = tt;
      due = omega (arith, due);
      texts = refl;
      closed = λ is. inl is;
      told_on = λ is. is;
      gives_up = λ is. inl (sym (ap (λ (w : Watch). is_some w.given_up) watch) ∙ is);
    }

    pub polled_closed : steps a.link (heard Closed) b.link → b.watch ≡ a.watch → TimedStep steps told a (heard Closed) b
    polled_closed step watch = polled_one Closed step watch refl refl

    pub polled_failed : steps a.link (heard Failed) b.link → b.watch ≡ a.watch → TimedStep steps told a (heard Failed) b
    polled_failed step watch = polled_one Failed step watch refl refl

    pub polled_memory : steps a.link (heard Memory) b.link → b.watch ≡ a.watch → TimedStep steps told a (heard Memory) b
    polled_memory step watch = polled_one Memory step watch refl refl

-- ---- the heart is asked

-- what a poll answers behind the offer of a `ping` gives no text, and doesn't say that the peer has closed
refusal_unclosed : (cause : SendFault) → has_closed (answers_in (heard (refusal_answer cause) ∷ [])) ≡ false
refusal_unclosed fault.Full = refl
refusal_unclosed fault.Closed = refl
refusal_unclosed fault.Failed = refl
refusal_unclosed fault.Memory = refl

refusal_texts : (cause : SendFault) → [] ≡ with_texts (heard (refusal_answer cause) ∷ [])
refusal_texts fault.Full = refl
refusal_texts fault.Closed = refl
refusal_texts fault.Failed = refl
refusal_texts fault.Memory = refl

answered_unclosed : {R : Type 0} (result : Result R (List ℕ × SendFault)) → has_closed (answers_in (heard (answered result) ∷ [])) ≡ false
answered_unclosed (Ok done) = refl
answered_unclosed (Err refused) = refusal_unclosed refused.1

answered_texts : {R : Type 0} (result : Result R (List ℕ × SendFault)) → [] ≡ with_texts (heard (answered result) ∷ [])
answered_texts (Ok done) = refl
answered_texts (Err refused) = refusal_texts refused.1

offers_ping : {R : Type 0} (text : List ℕ) (result : Result R (List ℕ × SendFault)) → text ≡ ping → IsOffer ping (sending text result)
offers_ping text (Ok done) is = is
offers_ping text (Err refused) is = is

module _ {L C : Type 0} (steps : L → Call → L → Type 0) (told : C → Option (List ℕ)) where
  module _ (a b : Timed L C) (middle : L) (t : ℕ) (asked : Answers (told a.clock) (told b.clock) t) (step : steps a.link (heard Quiet) middle) (none : a.watch.given_up ≡ None) (heart : b.watch.heart ≡ ticked a.watch.heart t) where
    watch_after : (beat : Beat) → pulse_beat a.watch.heart t ≡ beat → b.watch.given_up ≡ given_up_by beat → b.watch ≡ after a.watch (polled t Quiet)
    watch_after beat is given = ap₂ (λ (h : Pulse) (o : Option (ℕ × ℕ)). let w : Watch = record { heart = h; given_up = o } in w) heart (given ∙ ap given_up_by (sym is))

    due_by : (beat : Beat) → pulse_beat a.watch.heart t ≡ beat → one_due a.watch (polled t Quiet) ≡ pings_by beat
    due_by beat is = ap pings_by is

    -- nothing is to be done
    pub polled_quiet : pulse_beat a.watch.heart t ≡ beats.Nothing → b.watch.given_up ≡ None → b.link ≡ middle → TimedStep steps told a (heard Quiet) b
    polled_quiet is given link = record {
      acts = polled t Quiet ∷ [];
      leads = (middle, step, link);
      asked = asked;
      watch = watch_after beats.Nothing is given;
      may = (none, tt);
      pings = tt;
      due = let due = due_by beats.Nothing is in omega (arith, due);
      texts = refl;
      closed = λ is. inl is;
      told_on = λ is. is;
      gives_up = λ some. let differ : true ≡ false = sym some ∙ ap is_some given in absurd (cc differ);
    }

    -- the peer is given up
    pub polled_over : (pinged_at now : ℕ) → pulse_beat a.watch.heart t ≡ beats.Close pinged_at now → b.watch.given_up ≡ Some (pinged_at, now) → b.link ≡ middle → TimedStep steps told a (heard Closed) b
    polled_over pinged_at now is given link = record {
      acts = polled t Quiet ∷ [];
      leads = (middle, step, link);
      asked = asked;
      watch = watch_after (beats.Close pinged_at now) is given;
      may = (none, tt);
      pings = tt;
      due = let due = due_by (beats.Close pinged_at now) is in omega (arith, due);
      texts = refl;
      closed = λ closes. inr (ap is_some given);
      told_on = λ closes. cc closes;
      gives_up = λ some. inr refl;
    }

    -- a `ping` is offered
    polled_asking : {R : Type 0} (text : List ℕ) (result : Result R (List ℕ × SendFault)) → pulse_beat a.watch.heart t ≡ beats.Ping → b.watch.given_up ≡ None → text ≡ ping → steps middle (sending text result) b.link
        → TimedStep steps told a (heard (answered result)) b
    polled_asking text result is given same offer = record {
      acts = polled t Quiet ∷ pinged (sending text result) ∷ [];
      leads = (middle, step, (b.link, offer, refl));
      asked = asked;
      watch = watch_after beats.Ping is given;
      may = (none, (tt, tt));
      pings = (offers_ping text result same, tt);
      due = let due = due_by beats.Ping is in omega (arith, due);
      texts = answered_texts result;
      closed = λ closes. let differ : true ≡ false = sym closes ∙ answered_unclosed result in absurd (cc differ);
      told_on = λ closes. cc closes;
      gives_up = λ some. let differ : true ≡ false = sym some ∙ ap is_some given in absurd (cc differ);
    }

    pub polled_answered : {R : Type 0} (text : List ℕ) (result : Result R (List ℕ × SendFault)) (answer : Polled) → answer ≡ answered result → pulse_beat a.watch.heart t ≡ beats.Ping → b.watch.given_up ≡ None → text ≡ ping
        → steps middle (sending text result) b.link → TimedStep steps told a (heard answer) b
    polled_answered text result answer is beat given same offer = subst (λ (x : Polled). TimedStep steps told a (heard x) b) (sym is) (polled_asking text result beat given same offer)
