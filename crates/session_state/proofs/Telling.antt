-- Which calls fire and are told, by how far the subscriptions are.
use Rattle.std.proofs.Common.{◌≡◌, ℕ, zero, suc, ◌+◌, ◌<◌, ◌==◌, List, [], ◌∷◌, ◌++◌, false, cond, None, Some, refl, ap, ap₂, sym, ◌∙◌, arith}
use Rattle.std.proofs.lemmas.Bool.{ne_eqb, eq-eqb}
use Rattle.session_model.specs.Subscriptions.{Live}
use Rattle.session_model.specs.State.{State}
use Rattle.session_model.specs.Methods.{Phase, running, refused, finished, told, Method, phase_at, turned, fired, fire, told_now, all_told}
use Rattle.session_journal_laws.specs.FiredLaws.{open_is}
use Rattle.session_state.specs.Calls.{fired_by, fire_by, told_now_by, told_from}
use Rattle.session_state.specs.Progress.{progress_of}
use Rattle.session_state.specs.declared.own.Step.{Step}
use Rattle.session_state.specs.declared.own.Step.TheVariants as step
use Rattle.session_state.specs.Own.{stepped, ended_by, told_with, CanStep}

fired_is : (ls : List Live) (p : Phase) → fired_by (progress_of ls) p ≡ fired ls p
fired_is ls (finished place) = ap (λ b. cond b (told place) (finished place)) (sym (open_is place ls))
fired_is ls p = refl

pub fire_is : (ls : List Live) (ms : List Method) → fire_by (progress_of ls) ms ≡ fire ls ms
fire_is ls [] = refl
fire_is ls (m ∷ ms) = ap₂ (λ (p : Phase) (rest : List Method). record m { phase = p } ∷ rest) (fired_is ls m.phase) (fire_is ls ms)

now_is : (ls : List Live) (id : List ℕ) (p : Phase) → told_now_by (progress_of ls) id p ≡ told_now ls id p
now_is ls id (finished place) = ap (λ b. cond b (id ∷ []) []) (sym (open_is place ls))
now_is ls id p = refl

-- no call has ended
pub told_plain : (ls : List Live) (n : ℕ) (ms : List Method) → told_from (progress_of ls) None n ms ≡ all_told ls ms
told_plain ls n [] = refl
told_plain ls n (m ∷ ms) = ap₂ (λ xs ys. xs ++ ys) (now_is ls m.id m.phase) (told_plain ls (suc n) ms)

other : (k n : ℕ) → (k ≡ n → ⊥) → (k == n) ≡ false
other k n ne = ne_eqb k n ne

-- the call that has ended stands before these
told_beyond : (ls : List Live) (k place n : ℕ) (ms : List Method) → k < n → told_from (progress_of ls) (Some (k, place)) n ms ≡ all_told ls ms
told_beyond ls k place n [] less = refl
told_beyond ls k place n (m ∷ ms) less =
    ap₂ (λ xs ys. xs ++ ys) (ap (λ b. told_now_by (progress_of ls) m.id (cond b (finished place) m.phase)) (other k n (λ e. omega (arith, e, less))) ∙ now_is ls m.id m.phase) (told_beyond ls k place (suc n) ms (omega (arith, less)))

pub told_turned : (ls : List Live) (k place n j : ℕ) (ms : List Method) → k ≡ n + j → told_from (progress_of ls) (Some (k, place)) n ms ≡ all_told ls (turned j (finished place) ms)
told_turned ls k place n j [] is = refl
told_turned ls k place n zero (m ∷ ms) is =
    ap₂ (λ xs ys. xs ++ ys) (ap (λ b. told_now_by (progress_of ls) m.id (cond b (finished place) m.phase)) (eq-eqb k n (omega (arith, is))) ∙ now_is ls m.id (finished place)) (told_beyond ls k place (suc n) ms (omega (arith, is)))
told_turned ls k place n (suc j) (m ∷ ms) is =
    ap₂ (λ xs ys. xs ++ ys) (ap (λ b. told_now_by (progress_of ls) m.id (cond b (finished place) m.phase)) (other k n (λ e. omega (arith, e, is))) ∙ now_is ls m.id m.phase) (told_turned ls k place (suc n) j ms (omega (arith, is)))

-- a call that runs is told neither before nor after it is refused; nor is a new one
pub told_refused : (ls : List Live) (k : ℕ) (ms : List Method) → phase_at k ms ≡ Some running → all_told ls (turned k refused ms) ≡ all_told ls ms
told_refused ls k [] e = refl
told_refused ls zero (m ∷ ms) e = let was : m.phase ≡ running = cc e in sym (ap (λ p. told_now ls m.id p ++ all_told ls ms) was)
told_refused ls (suc k) (m ∷ ms) e = ap (λ xs. told_now ls m.id m.phase ++ xs) (told_refused ls k ms e)

pub told_new : (ls : List Live) (ms : List Method) (id : List ℕ) → all_told ls (ms ++ record { id = id; phase = running } ∷ []) ≡ all_told ls ms
told_new ls [] id = refl
told_new ls (m ∷ ms) id = ap (λ xs. told_now ls m.id m.phase ++ xs) (told_new ls ms id)

-- what is told with a step
pub told_is : (s : Step) (st : State) → CanStep s st → told_from (progress_of (stepped s st).subs) (ended_by s) 0 st.methods ≡ told_with s st
told_is (step.Finish k place) st can = told_turned st.subs k place 0 k st.methods (omega arith)
told_is (step.Refuse k) st can = told_plain st.subs 0 st.methods ∙ sym (told_refused st.subs k st.methods can)
told_is (step.Handle id call) st can = told_plain st.subs 0 st.methods ∙ sym (told_new st.subs st.methods id)
told_is s st can = told_plain (stepped s st).subs 0 st.methods
