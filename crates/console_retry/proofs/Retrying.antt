-- One link after another.
use Rattle.std.specs.Prelude.{◌≡◌, ◌⊎◌, ℕ, ◌+◌, ◌-◌, ◌<◌, ◌≤◌, List, [], ◌∷◌, length, not, ◌&&◌, is_none, true, false, Bool, Option, Some, None, Result, Ok, Err}
use Rattle.std.proofs.Common.{refl, ap, sym, subst, ◌∙◌, arith, inl, inr, true≢false}
use Rattle.duct.specs.Told.{CountsFaults}
use Rattle.duct.specs.Calls.{Call}
use Rattle.client_core.specs.declared.fault.ClientFault.{ClientFault}
use Rattle.client_core.specs.declared.fault.ClientFault.TheVariants.{Idle, Memory}
use Rattle.client_script.specs.declared.line.Line.{Line}
use Rattle.client_script.specs.declared.end.ConsoleEnd.{ConsoleEnd}
use Rattle.client_script.specs.declared.end.ConsoleEnd.TheVariants as ended
use Rattle.client_script.specs.Speaking.{goes_on}
use Rattle.client_script.specs.Ends.{is_version, is_write_fault, refusal_of, IsLeft}
use Rattle.reconnect_model.specs.Saying.{loses}
use Rattle.app_model.specs.App.{App}
use Rattle.revived_client.specs.State.{RevivedState, new_state}
use Rattle.revived_client.specs.Asking.{fault_of, DoesUnless}
use Rattle.revived_client.specs.Speaking.{look_of}
use Rattle.console_retry.specs.Retries.{Moment, Outside, at_moment, is_loss, with_loss, HasNoLink, Leg, Retries, RunsRetried, IsTried, Turns, Ends}
use Rattle.console_retry.proofs.Legs.{caused, uncaused}

-- ---- the client is told of a loss, or stays as it was

abbrev pub lost_as : RevivedState → RevivedState
lost_as old = record old { revival = loses old.revival }

lost_by : {X : Type 0} (o : Option ClientFault) (old new : RevivedState) (x : X) → DoesUnless o true (lost_as old) old new (Ok x) → new ≡ lost_as old
lost_by None old new x d = d.1
lost_by (Some fault) old new x d = absurd (cc d.0)

pub lost_ok : {X : Type 0} (old new : RevivedState) (x : X) → DoesUnless (fault_of old.stop) true (lost_as old) old new (Ok x) → new ≡ lost_as old
lost_ok old new x d = lost_by (fault_of old.stop) old new x d

unlost_by : (o : Option ClientFault) (old new : RevivedState) (f : ClientFault) → DoesUnless {X = Unit {0}} o true (lost_as old) old new (Err f) → new ≡ old
unlost_by None old new Idle d = d.1
unlost_by None old new Memory d = d
unlost_by (Some fault) old new f d = d.1

pub lost_err : (old new : RevivedState) (f : ClientFault) → DoesUnless {X = Unit {0}} (fault_of old.stop) true (lost_as old) old new (Err f) → new ≡ old
lost_err old new f d = unlost_by (fault_of old.stop) old new f d

-- ---- a link that was lost

-- the output didn't fail over it
pub loss_written : (end : ConsoleEnd) → is_loss end ≡ true → is_write_fault end ≡ false
loss_written ended.Closed is = refl
loss_written ended.LinkFault is = refl
loss_written ended.Done is = absurd (true≢false (sym is))
loss_written (ended.ServerSent n) is = absurd (true≢false (sym is))
loss_written ended.Version is = absurd (true≢false (sym is))
loss_written ended.WriteFault is = absurd (true≢false (sym is))
loss_written ended.Memory is = absurd (true≢false (sym is))

pub loss_counts : (end : ConsoleEnd) (before after : ℕ) → is_loss end ≡ true → CountsFaults (is_write_fault end) before after → after ≡ before
loss_counts end before after is counts = subst (λ b. CountsFaults b before after) (loss_written end is) counts

-- it goes on as it did in its last state
same_goes : (s last : RevivedState) → s ≡ last → (look_of last).broken ≡ None → (look_of last).is_failed ≡ false → goes_on (look_of s) ≡ true
same_goes s last is whole going =
    ap (λ (v : RevivedState). goes_on (look_of v)) is
    ∙ (ap (λ b. not b && is_none (look_of last).broken) going ∙ ap (λ (o : Option ℕ). is_none o) whole)

-- the client goes on behind it
loss_goes : (end : ConsoleEnd) (s last : RevivedState) → is_loss end ≡ true → IsLeft end last s → (look_of last).broken ≡ refusal_of end → (look_of last).is_failed ≡ is_version end →
    goes_on (look_of s) ≡ true
loss_goes ended.Closed s last is now whole going = same_goes s last now whole going
loss_goes ended.LinkFault s last is now whole going = same_goes s last now whole going
loss_goes ended.Done s last is now whole going = absurd (true≢false (sym is))
loss_goes (ended.ServerSent n) s last is now whole going = absurd (true≢false (sym is))
loss_goes ended.Version s last is now whole going = absurd (true≢false (sym is))
loss_goes ended.WriteFault s last is now whole going = absurd (true≢false (sym is))
loss_goes ended.Memory s last is now whole going = absurd (true≢false (sym is))

-- ---- the next link

module _ {L : Type 0} (steps : L → Call → L → Type 0) (failed : L → ℕ) (script : List Line) where
  -- the script ended over it
  pub ended_there : (tries : ℕ) (before after : Moment) (end : ConsoleEnd) → IsTried steps failed script before after (Ok end) → (is_loss end ≡ false) ⊎ (tries ≡ 0) →
      Ends steps failed script tries before after end
  ended_there tries before after end tried why = (tried.0 ∷ [], (tried.1, inl (refl, sym tried.2, inl (tried.3, why))))

  -- there was no memory to go on
  pub ended_short : (tries : ℕ) (before mid after : Moment) (end : ConsoleEnd) → IsTried steps failed script before mid (Ok end) → is_loss end ≡ true → 0 < tries → after ≡ mid →
      Ends steps failed script tries before after ended.Memory
  ended_short tries before mid after end tried loss some same =
      (tried.0 ∷ [], (tried.1, inl (refl, same ∙ sym tried.2, inr ((ap is_loss tried.3 ∙ loss, some), refl))))

  -- the client was told of the loss
  pub gone_on : (tries : ℕ) (before mid after : Moment) (end : ConsoleEnd) → IsTried steps failed script before mid (Ok end) → is_loss end ≡ true → 0 < tries → after ≡ with_loss mid →
      Turns steps failed script tries before after None
  gone_on tries before mid after end tried loss some told = (tried.0, tried.1, (ap is_loss tried.3 ∙ loss, some), told ∙ ap with_loss (sym tried.2))

  -- there is none
  pub ended_before : (tries : ℕ) (before after : Moment) (end : ConsoleEnd) → HasNoLink before after end → Ends steps failed script tries before after end
  ended_before tries before after end none = ([], none)

  -- ---- a further one

  pub turned : (tries : ℕ) (before mid after : Moment) (end : ConsoleEnd) → Turns steps failed script tries before mid None → Ends steps failed script (tries - 1) mid after end →
      Ends steps failed script tries before after end
  turned tries before mid after end turns on =
      (turns.0 ∷ on.0, (turns.1, inr (turns.2, subst (λ (m : Moment). Retries steps failed script (tries - 1) m on.0 after end) turns.3 on.1)))

  pub turned-some : (tries : ℕ) (before after : Moment) → Turns steps failed script tries before after None → 0 < tries
  turned-some tries before after turns = turns.2.1

  pub turned-within : (tries : ℕ) (before after : Moment) → Turns steps failed script tries before after None → after.line ≤ length script
  turned-within tries before after turns =
      let within = turns.0.ran.within in
      subst (λ (m : Moment). m.line ≤ length script) (sym turns.3) within

  pub turned-goes : (tries : ℕ) (before after : Moment) → Turns steps failed script tries before after None → goes_on (look_of after.client) ≡ true
  turned-goes tries before after turns =
      let leg = turns.0 in
      ap (λ (m : Moment). goes_on (look_of m.client)) turns.3
      ∙ loss_goes leg.end leg.after.client leg.ran.last turns.2.0 leg.ran.now leg.ran.refused leg.ran.failed

  -- ---- all links

  pub retried : (app : App) (tries : ℕ) (before after : Outside) (c c' : RevivedState) (line : ℕ) (end : ConsoleEnd) → c ≡ new_state app →
      Ends steps failed script tries (at_moment before c 0) (at_moment after c' line) end → RunsRetried steps failed script app tries before after end
  retried app tries before after c c' line end new ends =
      let r = subst (λ (s : RevivedState). Retries steps failed script tries (at_moment before s 0) ends.0 (at_moment after c' line) end) new ends.1 in record {
        legs = ends.0;
        ran = inr (c', line, r);
        causes = caused steps failed script tries before after (new_state app) c' 0 line ends.0 end r;
      }

  pub unretried : (app : App) (tries : ℕ) (before : Outside) → RunsRetried steps failed script app tries before before ended.Memory
  unretried app tries before = record { legs = []; ran = inl (refl, refl, refl); causes = uncaused steps failed script tries before }
