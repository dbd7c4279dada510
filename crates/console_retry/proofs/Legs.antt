-- What becomes of one leg after another: how many there are, and how the last one ended.
use Rattle.std.specs.Prelude.{◌≡◌, ◌⊎◌, ◌↔◌, ℕ, suc, ◌+◌, ◌-◌, ◌<◌, List, [], ◌∷◌, length, Bool, true, false}
use Rattle.std.proofs.Common.{refl, ap, sym, subst, ◌∙◌, arith, inl, inr, true≢false}
use Rattle.duct.specs.Told.{CountsFaults}
use Rattle.duct.specs.Calls.{Call}
use Rattle.client_script.specs.declared.line.Line.{Line}
use Rattle.client_script.specs.declared.end.ConsoleEnd.{ConsoleEnd}
use Rattle.client_script.specs.declared.end.ConsoleEnd.TheVariants as ended
use Rattle.client_script.specs.Ends.{is_closed, is_link_fault}
use Rattle.revived_client.specs.State.{RevivedState}
use Rattle.console_retry.specs.Retries.{Moment, Outside, at_moment, is_loss, is_told, with_loss, HasNoLink, Leg, Stops, Retries, last_of, LastIs, HasClosed, HasFailed, EndsAs, Causes}

-- ---- the network gave no link

no_link-given : (before after : Moment) (end : ConsoleEnd) → HasNoLink before after end → after.given ≡ before.given
no_link-given before after ended.LinkFault none = ap (λ (m : Moment). m.given) none.1
no_link-given before after ended.Memory none = ap (λ (m : Moment). m.given) none
no_link-given before after ended.Done none = absurd (true≢false none)
no_link-given before after (ended.ServerSent n) none = absurd (true≢false none)
no_link-given before after ended.Version none = absurd (true≢false none)
no_link-given before after ended.Closed none = absurd (true≢false none)
no_link-given before after ended.WriteFault none = absurd (true≢false none)

no_link-untold : (before after : Moment) (end : ConsoleEnd) → HasNoLink before after end → is_told end ≡ false
no_link-untold before after ended.LinkFault none = refl
no_link-untold before after ended.Memory none = refl
no_link-untold before after ended.Done none = absurd (true≢false none)
no_link-untold before after (ended.ServerSent n) none = absurd (true≢false none)
no_link-untold before after ended.Version none = absurd (true≢false none)
no_link-untold before after ended.Closed none = absurd (true≢false none)
no_link-untold before after ended.WriteFault none = absurd (true≢false none)

only_closed : (end : ConsoleEnd) → is_closed end ≡ true → end ≡ ended.Closed
only_closed ended.Closed is = refl
only_closed ended.Done is = absurd (true≢false (sym is))
only_closed (ended.ServerSent n) is = absurd (true≢false (sym is))
only_closed ended.Version is = absurd (true≢false (sym is))
only_closed ended.LinkFault is = absurd (true≢false (sym is))
only_closed ended.WriteFault is = absurd (true≢false (sym is))
only_closed ended.Memory is = absurd (true≢false (sym is))

module _ {L : Type 0} (steps : L → Call → L → Type 0) (failed : L → ℕ) (script : List Line) where
  -- ---- the last leg

  last_on : (P : Leg steps failed script → Type 0) (leg : Leg steps failed script) (legs : List (Leg steps failed script)) → LastIs steps failed script P legs → LastIs steps failed script P (leg ∷ legs)
  last_on P leg [] h = absurd (true≢false h)
  last_on P leg (next ∷ legs) h = h

  last_off : (P : Leg steps failed script → Type 0) (leg : Leg steps failed script) (legs : List (Leg steps failed script)) → 0 < length legs → LastIs steps failed script P (leg ∷ legs) → LastIs steps failed script P legs
  last_off P leg [] some h = absurd (omega (arith, some))
  last_off P leg (next ∷ legs) some h = h

  last_there : (P : Leg steps failed script → Type 0) (legs : List (Leg steps failed script)) → LastIs steps failed script P legs → 0 < length legs
  last_there P [] h = absurd (true≢false h)
  last_there P (leg ∷ legs) h = omega arith

  -- the only one
  last_alone : (P : Leg steps failed script → Type 0) (leg : Leg steps failed script) (legs : List (Leg steps failed script)) → legs ≡ [] → P leg → LastIs steps failed script P (leg ∷ legs)
  last_alone P leg legs none h = subst (λ (ls : List (Leg steps failed script)). P (last_of steps failed script leg ls)) (sym none) h

  last_was_alone : (P : Leg steps failed script → Type 0) (leg : Leg steps failed script) (legs : List (Leg steps failed script)) → legs ≡ [] → LastIs steps failed script P (leg ∷ legs) → P leg
  last_was_alone P leg legs none h = subst (λ (ls : List (Leg steps failed script)). P (last_of steps failed script leg ls)) none h

  -- ---- the leg at which the script ends

  stop_closed : (tries : ℕ) (leg : Leg steps failed script) → Stops steps failed script tries leg ended.Closed → (tries ≡ 0) × HasClosed steps failed script leg
  stop_closed tries leg (inl s) = by s.1
    where
      closed : HasClosed steps failed script leg
      closed = leg.ran.closed ∙ ap is_closed s.0

      by : ((is_loss ended.Closed ≡ false) ⊎ (tries ≡ 0)) → (tries ≡ 0) × HasClosed steps failed script leg
      by (inl lost) = absurd (true≢false lost)
      by (inr none) = (none, closed)
  stop_closed tries leg (inr m) = absurd (cc m.1)

  closed_stop : (tries : ℕ) (leg : Leg steps failed script) (end : ConsoleEnd) → Stops steps failed script tries leg end → tries ≡ 0 → HasClosed steps failed script leg → end ≡ ended.Closed
  closed_stop tries leg end (inl s) none closed = sym s.0 ∙ only_closed leg.end (sym leg.ran.closed ∙ closed)
  closed_stop tries leg end (inr m) none closed = let some = m.0.1 in absurd (omega (arith, some, none))

  stop_failed : (tries : ℕ) (leg : Leg steps failed script) → Stops steps failed script tries leg ended.LinkFault → (tries ≡ 0) × HasFailed steps failed script leg
  stop_failed tries leg (inl s) = by s.1
    where
      rose : HasFailed steps failed script leg
      rose = subst (λ (e : ConsoleEnd). CountsFaults (is_link_fault e) (failed leg.first) (failed leg.last)) s.0 leg.link

      by : ((is_loss ended.LinkFault ≡ false) ⊎ (tries ≡ 0)) → (tries ≡ 0) × HasFailed steps failed script leg
      by (inl lost) = absurd (true≢false lost)
      by (inr none) = (none, rose)
  stop_failed tries leg (inr m) = absurd (cc m.1)

  stop_told : (tries : ℕ) (leg : Leg steps failed script) (end : ConsoleEnd) → Stops steps failed script tries leg end → is_told end ≡ true → leg.end ≡ end
  stop_told tries leg end (inl s) is = s.0
  stop_told tries leg end (inr m) is = absurd (true≢false (sym is ∙ ap is_told m.1))

  -- ---- all of them

  counted : (tries : ℕ) (before : Moment) (legs : List (Leg steps failed script)) (after : Moment) (end : ConsoleEnd) → Retries steps failed script tries before legs after end →
      after.given ≡ before.given + length legs
  counted tries before [] after end none = let same : after.given ≡ before.given = no_link-given before after end none in omega (arith, same)
  counted tries before (leg ∷ legs) after end (from, inl stops) =
      let begun : leg.before.given ≡ before.given = ap (λ (m : Moment). m.given) from in
      let more : leg.after.given ≡ leg.before.given + 1 = leg.given in
      let none : length legs ≡ 0 = ap length stops.0 in
      let at : after.given ≡ leg.after.given = ap (λ (m : Moment). m.given) stops.1 in
      omega (arith, none, at, more, begun)
  counted tries before (leg ∷ legs) after end (from, inr on) =
      let begun : leg.before.given ≡ before.given = ap (λ (m : Moment). m.given) from in
      let more : leg.after.given ≡ leg.before.given + 1 = leg.given in
      let rest : after.given ≡ leg.after.given + length legs = counted (tries - 1) (with_loss leg.after) legs after end on.1 in
      omega (arith, rest, more, begun)

  -- closed over the last link that may be tried, and only then
  closed_last : (tries : ℕ) (before : Moment) (legs : List (Leg steps failed script)) (after : Moment) → Retries steps failed script tries before legs after ended.Closed →
      (length legs ≡ tries + 1) × LastIs steps failed script (HasClosed steps failed script) legs
  closed_last tries before [] after none = absurd (true≢false none)
  closed_last tries before (leg ∷ legs) after (from, inl stops) =
      let none : length legs ≡ 0 = ap length stops.0 in
      let stop = stop_closed tries leg stops.2 in
      let last : tries ≡ 0 = stop.0 in
      (omega (arith, none, last), last_alone (HasClosed steps failed script) leg legs stops.0 stop.1)
  closed_last tries before (leg ∷ legs) after (from, inr on) =
      let rest = closed_last (tries - 1) (with_loss leg.after) legs after on.1 in
      let count : length legs ≡ tries - 1 + 1 = rest.0 in
      let some : 0 < tries = on.0.1 in
      (omega (arith, count, some), last_on (HasClosed steps failed script) leg legs rest.1)

  last_closed : (tries : ℕ) (before : Moment) (legs : List (Leg steps failed script)) (after : Moment) (end : ConsoleEnd) → Retries steps failed script tries before legs after end →
      length legs ≡ tries + 1 → LastIs steps failed script (HasClosed steps failed script) legs → end ≡ ended.Closed
  last_closed tries before [] after end none count last = absurd (true≢false last)
  last_closed tries before (leg ∷ legs) after end (from, inl stops) count last =
      let none : length legs ≡ 0 = ap length stops.0 in
      closed_stop tries leg end stops.2 (omega (arith, none, count)) (last_was_alone (HasClosed steps failed script) leg legs stops.0 last)
  last_closed tries before (leg ∷ legs) after end (from, inr on) count last =
      let some : 0 < tries = on.0.1 in
      last_closed (tries - 1) (with_loss leg.after) legs after end on.1 (omega (arith, some, count))
      (last_off (HasClosed steps failed script) leg legs (omega (arith, some, count)) last)

  -- a failure that ended a later leg
  failed_later : (tries : ℕ) (before after : Moment) (leg : Leg steps failed script) (legs : List (Leg steps failed script)) → leg.before ≡ before → 0 < tries →
      ((leg.after.faults < after.faults) ⊎ ((length legs ≡ tries - 1 + 1) × LastIs steps failed script (HasFailed steps failed script) legs)) →
      (before.faults < after.faults) ⊎ ((length (leg ∷ legs) ≡ tries + 1) × LastIs steps failed script (HasFailed steps failed script) (leg ∷ legs))
  failed_later tries before after leg legs from some (inl rose) =
      let begun : leg.before.faults ≡ before.faults = ap (λ (m : Moment). m.faults) from in
      let same : leg.after.faults ≡ leg.before.faults = leg.faults in
      inl (omega (arith, rose, same, begun))
  failed_later tries before after leg legs from some (inr all) =
      let count : length legs ≡ tries - 1 + 1 = all.0 in
      inr (omega (arith, count, some), last_on (HasFailed steps failed script) leg legs all.1)

  -- where a link's failure ended it, a call of the network failed, or one of the last link that may be tried
  failed_last : (tries : ℕ) (before : Moment) (legs : List (Leg steps failed script)) (after : Moment) → Retries steps failed script tries before legs after ended.LinkFault →
      (before.faults < after.faults) ⊎ ((length legs ≡ tries + 1) × LastIs steps failed script (HasFailed steps failed script) legs)
  failed_last tries before [] after none = inl none.0
  failed_last tries before (leg ∷ legs) after (from, inl stops) =
      let none : length legs ≡ 0 = ap length stops.0 in
      let stop = stop_failed tries leg stops.2 in
      let last : tries ≡ 0 = stop.0 in
      inr (omega (arith, none, last), last_alone (HasFailed steps failed script) leg legs stops.0 stop.1)
  failed_last tries before (leg ∷ legs) after (from, inr on) =
      failed_later tries before after leg legs from on.0.1 (failed_last (tries - 1) (with_loss leg.after) legs after on.1)

  -- each other end but that of memory is the end of the last leg
  told_last : (tries : ℕ) (before : Moment) (legs : List (Leg steps failed script)) (after : Moment) (end : ConsoleEnd) → Retries steps failed script tries before legs after end →
      is_told end ≡ true → LastIs steps failed script (EndsAs steps failed script end) legs
  told_last tries before [] after end none is = absurd (true≢false (sym is ∙ no_link-untold before after end none))
  told_last tries before (leg ∷ legs) after end (from, inl stops) is =
      last_alone (EndsAs steps failed script end) leg legs stops.0 (stop_told tries leg end stops.2 is)
  told_last tries before (leg ∷ legs) after end (from, inr on) is =
      last_on (EndsAs steps failed script end) leg legs (told_last (tries - 1) (with_loss leg.after) legs after end on.1 is)

  -- ---- the causes of the ends

  pub caused : (tries : ℕ) (before after : Outside) (c c' : RevivedState) (line line' : ℕ) (legs : List (Leg steps failed script)) (end : ConsoleEnd) →
      Retries steps failed script tries (at_moment before c line) legs (at_moment after c' line') end → Causes steps failed script tries before after legs end
  caused tries before after c c' line line' legs end r = record {
    given = count;
    closed = (λ is. closes is, λ h. let all = h.0 in last_closed tries (at_moment before c line) legs (at_moment after c' line') end r (omega (arith, all, count)) h.1);
    link = λ is. fails (failed_last tries (at_moment before c line) legs (at_moment after c' line') (at is));
    told = λ is. let last = told_last tries (at_moment before c line) legs (at_moment after c' line') end r is in
        let some = last_there (EndsAs steps failed script end) legs last in (omega (arith, count, some), last);
  }
    where
      count : after.given ≡ before.given + length legs
      count = counted tries (at_moment before c line) legs (at_moment after c' line') end r

      at : {e : ConsoleEnd} → end ≡ e → Retries steps failed script tries (at_moment before c line) legs (at_moment after c' line') e
      at is = subst (λ (e : ConsoleEnd). Retries steps failed script tries (at_moment before c line) legs (at_moment after c' line') e) is r

      closes : end ≡ ended.Closed → (after.given ≡ before.given + (tries + 1)) × LastIs steps failed script (HasClosed steps failed script) legs
      closes is = let last = closed_last tries (at_moment before c line) legs (at_moment after c' line') (at is) in let all = last.0 in (omega (arith, count, all), last.1)

      fails : ((before.faults < after.faults) ⊎ ((length legs ≡ tries + 1) × LastIs steps failed script (HasFailed steps failed script) legs)) →
          (before.faults < after.faults) ⊎ ((after.given ≡ before.given + (tries + 1)) × LastIs steps failed script (HasFailed steps failed script) legs)
      fails (inl rose) = inl rose
      fails (inr last) = let all = last.0 in inr (omega (arith, count, all), last.1)

  -- there was no memory for a client
  pub uncaused : (tries : ℕ) (before : Outside) → Causes steps failed script tries before before [] ended.Memory
  uncaused tries before = record {
    given = omega arith;
    closed = (λ is. absurd (cc is), λ h. absurd (true≢false h.1));
    link = λ is. absurd (cc is);
    told = λ is. absurd (true≢false (sym is));
  }
