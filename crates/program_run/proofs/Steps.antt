-- How a run goes on from the step that stands next.
use Rattle.std.specs.Prelude.{slice_get, IfOk, IfSome, IfNone, OnOk, OnErr, Result, Ok, Err, option_map, if◌then◌else◌, ◌==◌}
use Rattle.std.proofs.Common.{◌≡◌, ℕ, zero, suc, ◌<◌, ◌≤◌, Bool, true, false, List, [], ◌∷◌, length, drop, Option, None, Some, refl, ap, sym, ◌∙◌, arith}
use Rattle.std.proofs.lemmas.Bool.{eqb-true, eq-eqb}
use Rattle.ejson_value.specs.Rows.{Rows}
use Rattle.ejson_value.specs.declared.fault.Fault.{Fault}
use Rattle.program_steps.specs.declared.step.ProgramStep.{ProgramStep}
use Rattle.program_steps.specs.Runs.{Outcome, done, failed}
use Rattle.program_model.specs.Run.{Run, gone_on, ended, fails}
use Rattle.program_model.specs.Steps.{Setting, Stepped, unchanged, done_step, stepped_by, stepped}
use Rattle.program_run.specs.declared.run.Effect.{Effect}
use Rattle.program_run.specs.Progress.{Progress, with_left, left_of, run_of}
use Rattle.program_run.specs.Planned.{stepped_as}

next_there : {X : Type 0} (xs : List X) (n : ℕ) (x : X) → slice_get xs n ≡ Some x → drop n xs ≡ x ∷ drop (suc n) xs
next_there [] zero x is = absurd (cc is)
next_there [] (suc n) x is = absurd (cc is)
next_there (y ∷ xs) zero x is = let same : y ≡ x = cc is in ap (λ z. z ∷ xs) same
next_there (y ∷ xs) (suc n) x is = next_there xs n x is

-- the step at the place is the first of those that are left
pub some_next : {R X Q : Type 0} (now : R → X) (o : Option R) (xs : List X) (n m : ℕ) → Q → n ≡ m → option_map now o ≡ slice_get xs n → IfSome o (λ r. Q × (drop m xs ≡ now r ∷ drop (suc m) xs))
some_next now None xs n m q e is = tt
some_next now (Some r) xs n m q e is = (q, next_there xs m (now r) (sym (is ∙ ap (λ k. slice_get xs k) e)))

none_there : {X : Type 0} (xs : List X) (n : ℕ) → slice_get xs n ≡ None → drop n xs ≡ []
none_there [] zero is = refl
none_there [] (suc n) is = refl
none_there (x ∷ xs) zero is = absurd (cc is)
none_there (x ∷ xs) (suc n) is = none_there xs n is

-- where there is no step at the place, none is left
pub none_next : {R X P : Type 0} (now : R → X) (o : Option R) (xs : List X) (n m : ℕ) → n ≡ m → option_map now o ≡ slice_get xs n → (drop m xs ≡ [] → P) → IfNone o P
none_next now None xs n m e is leads = leads (none_there xs m (ap (λ k. slice_get xs k) (sym e) ∙ sym is))
none_next now (Some r) xs n m e is leads = tt

pub steps_next : (s : Setting) (rows : Rows) (steps : List ProgramStep) (p : Progress) (step : ProgramStep) → p.outcome ≡ None → drop p.next steps ≡ step ∷ drop (suc p.next) steps →
    stepped s rows (run_of steps p) ≡ done_step s rows (with_left p (drop (suc p.next) steps)) step
steps_next s rows steps p step none there =
    let left : left_of p.outcome (drop p.next steps) ≡ step ∷ drop (suc p.next) steps = ap (λ o. left_of o (drop p.next steps)) none ∙ there in
    ap (λ l. stepped_by s rows (with_left p l) l) left

-- ---- one step more is made

abbrev over : List ProgramStep → Option Outcome
over [] = Some (done None)
over (step ∷ left) = None

led_on : (p : Progress) (n : ℕ) (left : List ProgramStep) → p.outcome ≡ None → with_left (record p { next = n; outcome = over left }) (left_of (over left) left) ≡ gone_on (with_left p left)
led_on p n [] is = refl
led_on p n (step ∷ left) is =
    ap (λ o. let run : Run = record { params = p.params; seed = p.seed; left = step ∷ left; made = p.made; drawn = p.drawn; unblocked = p.unblocked; outcome = o } in run) (sym is)

past : {X : Type 0} (xs : List X) (n : ℕ) → length xs ≤ n → drop n xs ≡ []
past [] zero le = refl
past [] (suc n) le = refl
past (x ∷ xs) zero le = absurd (omega (arith, le))
past (x ∷ xs) (suc n) le = past xs n (omega (arith, le))

inside : (xs : List ProgramStep) (n : ℕ) → n < length xs → over (drop n xs) ≡ None
inside [] zero le = absurd (omega (arith, le))
inside [] (suc n) le = absurd (omega (arith, le))
inside (x ∷ xs) zero le = refl
inside (x ∷ xs) (suc n) le = inside xs n (omega (arith, le))

strict : (n m : ℕ) → n ≤ m → (n ≡ m → ⊥) → n < m
strict zero zero le other = absurd (other refl)
strict zero (suc m) le other = omega arith
strict (suc n) zero le other = absurd (omega (arith, le))
strict (suc n) (suc m) le other = let rest = strict n m (omega (arith, le)) (λ same. other (ap suc same)) in omega (arith, rest)

apart : (n m : ℕ) → (n == m) ≡ false → n ≤ m → n < m
apart n m e le = strict n m le (λ same. cc (sym e ∙ eq-eqb n m same))

over_is : (steps : List ProgramStep) (n : ℕ) (b : Bool) → (n == length steps) ≡ b → n ≤ length steps → (if b then Some (done None) else None) ≡ over (drop n steps)
over_is steps n true e le =
    let same = eqb-true n (length steps) e in
    sym (ap over (past steps n (omega (arith, same))))
over_is steps n false e le = sym (inside steps n (apart n (length steps) e le))

pub goes : (steps : List ProgramStep) (p : Progress) (n : ℕ) (o : Option Outcome) (b : Bool) → p.outcome ≡ None → p.next < length steps → n ≡ suc p.next → (n == length steps) ≡ b → o ≡ (if b then Some (done None) else None) →
    run_of steps (record p { next = n; outcome = o }) ≡ gone_on (with_left p (drop (suc p.next) steps))
goes steps p n o b none left n_is e o_is =
    let all = o_is ∙ over_is steps n b e (omega (arith, left, n_is)) in
    ap (λ x. with_left (record p { next = n; outcome = x }) (left_of x (drop n steps))) all
    ∙ (led_on p n (drop n steps) none ∙ ap (λ k. gone_on (with_left p (drop k steps))) n_is)

-- ---- answers

pub if_ok_map : {X E : Type 0} {P Q : X → Type 0} (r : Result X E) → ((x : X) → P x → Q x) → IfOk r P → IfOk r Q
if_ok_map (Ok x) f p = f x p
if_ok_map (Err e) f p = tt

pub failed_does : {E : Type 0} (r : Result Effect E) (rows : Rows) (self next : Progress) (fault : Fault) (does : List ProgramStep → Stepped) → OnOk r ((steps left : List ProgramStep) → run_of steps next ≡ ended (failed fault) (with_left self left)) →
    IfOk r (λ effect. (effect.changes ≡ []) × (effect.touched ≡ [])) → ((left : List ProgramStep) → does left ≡ unchanged rows (fails fault (with_left self left))) →
    IfOk r (λ effect. (steps left : List ProgramStep) → does left ≡ stepped_as rows effect (run_of steps next))
failed_does (Err e) rows self next fault does ends nothing is = tt
failed_does (Ok effect) rows self next fault does ends nothing is = λ steps left.
    is left
    ∙ (ap (λ run. let s : Stepped = record { rows = rows; changes = []; touched = []; run = run } in s) (sym (ends steps left))
    ∙ (ap (λ cs. let s : Stepped = record { rows = rows; changes = cs; touched = []; run = run_of steps next } in s) (sym nothing.0)
    ∙ ap (λ ks. let s : Stepped = record { rows = rows; changes = effect.changes; touched = ks; run = run_of steps next } in s) (sym nothing.1)))

pub on_err : {X E P : Type 0} (r : Result X E) → P → OnErr r P
on_err (Ok x) p = tt
on_err (Err e) p = p
