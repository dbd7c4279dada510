use Rattle.std.proofs.Common.{◌≡◌, ℕ, List, [], ◌∷◌, ◌++◌, map, refl, ap, sym, ◌∙◌}
use Rattle.session_model.specs.Subscriptions.{loaded, closed}
use Rattle.session_model.specs.State.{State}
use Rattle.session_state.specs.declared.subs.Sub.{Sub}
use Rattle.session_state.specs.declared.own.Step.{Step}
use Rattle.session_state.specs.declared.own.Step.TheVariants as step
use Rattle.session_state.specs.Subs.{as_live}
use Rattle.session_state.specs.Progress.{progress_of}
use Rattle.session_state.specs.ProgressLaws.{progress_is}
use Rattle.session_state.specs.Own.{as_state, stepped}
use Rattle.session_state.proofs.kept.Own.progress_after.Goals as goal

quiet : (s : Step) (st : State) → ((x : Sub) → s ≡ step.Open x → ⊥) → ((n p : ℕ) → s ≡ step.Show n p → ⊥) → ((n : ℕ) → s ≡ step.Close n → ⊥) → progress_of st.subs ≡ progress_of (stepped s st).subs
quiet (step.Open x) st not_open not_show not_close = absurd (not_open x refl)
quiet (step.Show n p) st not_open not_show not_close = absurd (not_show n p refl)
quiet (step.Close n) st not_open not_show not_close = absurd (not_close n refl)
quiet step.Stay st not_open not_show not_close = refl
quiet step.Connect st not_open not_show not_close = refl
quiet step.Fail st not_open not_show not_close = refl
quiet (step.Handle id call) st not_open not_show not_close = refl
quiet (step.Refuse k) st not_open not_show not_close = refl
quiet (step.Unblock k) st not_open not_show not_close = refl
quiet (step.Finish k p) st not_open not_show not_close = refl

pub returns-in-Open : goal.returns-in-Open
returns-in-Open c =
    let subs = c.as_slice-subs.result.now in
    c.progress_opened.ensures
    ∙ (progress_is (map as_live subs ++ as_live c.in-Open.sub ∷ [])
    ∙ (ap (λ (xs : List Sub). progress_of (map as_live xs ++ as_live c.in-Open.sub ∷ [])) c.as_slice-subs.ensures.value
    ∙ sym (ap (λ (s : Step). progress_of (stepped s (as_state c.args.self.now)).subs) c.in-Open.is)))

pub returns-in-Show : goal.returns-in-Show
returns-in-Show c =
    let subs = c.as_slice-subs.result.now in
    c.progress_loaded.ensures
    ∙ (progress_is (loaded c.in-Show.sub c.in-Show.at (map as_live subs))
    ∙ (ap (λ (xs : List Sub). progress_of (loaded c.in-Show.sub c.in-Show.at (map as_live xs))) c.as_slice-subs.ensures.value
    ∙ sym (ap (λ (s : Step). progress_of (stepped s (as_state c.args.self.now)).subs) c.in-Show.is)))

pub returns-in-Close : goal.returns-in-Close
returns-in-Close c =
    let subs = c.as_slice-subs.result.now in
    c.progress_closed.ensures
    ∙ (progress_is (closed c.in-Close.sub (map as_live subs))
    ∙ (ap (λ (xs : List Sub). progress_of (closed c.in-Close.sub (map as_live xs))) c.as_slice-subs.ensures.value
    ∙ sym (ap (λ (s : Step). progress_of (stepped s (as_state c.args.self.now)).subs) c.in-Close.is)))

pub returns-in_default : goal.returns-in_default
returns-in_default c =
    c.progress_now.ensures
    ∙ (progress_is (map as_live c.as_slice-subs.result.now)
    ∙ (ap (λ (xs : List Sub). progress_of (map as_live xs)) c.as_slice-subs.ensures.value
    ∙ quiet c.args.step.now (as_state c.args.self.now) c.in_default.not-Open c.in_default.not-Show c.in_default.not-Close))
