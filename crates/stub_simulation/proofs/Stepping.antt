-- What is kept of the steps of a stub, step by step.
use Rattle.std.specs.Prelude.{drop, Option, Some, None, is_some, option_map}
use Rattle.std.proofs.Common.{◌≡◌, true, ℕ, zero, suc, ◌+◌, ◌<◌, ◌≤◌, arith, length, List, [], ◌∷◌, ◌++◌, refl, sym, ap, ap₂, ◌∙◌}
use Rattle.std.proofs.Math.Seq.{drop-cons}
use Rattle.program_steps.specs.declared.step.ProgramStep.TheVariants.{Unblock}
use Rattle.std.specs.BTreeSet.{insert_key}
use Rattle.ejson_value.specs.declared.key.Key.{Key}
use Rattle.ejson_value.specs.Key.{key_cmp}
use Rattle.program_steps.specs.declared.step.ProgramStep.{ProgramStep}
use Rattle.program_steps.specs.Runs.{Outcome}
use Rattle.value_model.specs.Val.{Val}
use Rattle.ejson_value.specs.Rows.{Rows}
use Rattle.program_model.specs.Run.{Run, begun}
use Rattle.program_model.specs.Steps.{Setting, Stepped, stepped_by, further, all_stepped, unchanged, whole_run}
use Rattle.program_run.specs.Progress.{Progress, run_of, left_of}
use Rattle.program_model.specs.Touched.{keys_put}

pub keys_put-append : (keys xs ys : List Key) → keys_put keys (xs ++ ys) ≡ keys_put (keys_put keys xs) ys
keys_put-append keys [] ys = refl
keys_put-append keys (x ∷ xs) ys = keys_put-append (insert_key key_cmp keys x) xs ys

pub append-nil : {A : Type 0} (xs : List A) → xs ++ [] ≡ xs
append-nil [] = refl
append-nil (x ∷ xs) = ap (λ ys. x ∷ ys) (append-nil xs)

-- a run that has ended makes no step
pub over_stays : (s : Setting) (so_far : Stepped) (run : Run) → so_far.run ≡ run → run.left ≡ [] → further s so_far ≡ so_far
over_stays s so_far run is over =
    let none : so_far.run.left ≡ [] = ap (λ (r : Run). r.left) is ∙ over in
    stays none
  where
    stays : so_far.run.left ≡ [] → further s so_far ≡ so_far
    stays none =
        let e = ap (λ left. stepped_by s so_far.rows so_far.run left) none in
        ap (λ (x : Stepped). record { rows = x.rows; changes = so_far.changes ++ x.changes; touched = so_far.touched ++ x.touched; run = x.run }) e
        ∙ ap₂ (λ cs ks. record { rows = so_far.rows; changes = cs; touched = ks; run = so_far.run }) (append-nil so_far.changes) (append-nil so_far.touched)

pub all_over : (s : Setting) (steps : List ProgramStep) (so_far : Stepped) → so_far.run.left ≡ [] → all_stepped s steps so_far ≡ so_far
all_over s [] so_far over = refl
all_over s (step ∷ steps) so_far over =
    let same = over_stays s so_far so_far.run refl over in
    ap (all_stepped s steps) same ∙ all_over s steps so_far over

-- a run that came to something has no step left
pub nothing_left : (steps : List ProgramStep) (p : Progress) → is_some p.outcome ≡ true → (run_of steps p).left ≡ []
nothing_left steps p e = by p.outcome e
  where
    by : (o : Option Outcome) → is_some o ≡ true → left_of o (drop p.next steps) ≡ []
    by None h = cc h
    by (Some outcome) h = refl

pub some_mapped : {A B : Type 0} (f : A → B) (o : Option A) → is_some (option_map f o) ≡ is_some o
some_mapped f None = refl
some_mapped f (Some x) = refl

-- one more of the steps that are walked
pub next_made : (s : Setting) (steps : List ProgramStep) (i : ℕ) (mid : Stepped) → i < length steps → all_stepped s (drop i steps) mid ≡ all_stepped s (drop (i + 1) steps) (further s mid)
next_made s steps i mid within =
    ap (λ rest. all_stepped s rest mid) (drop-cons steps i Unblock within)
    ∙ (let e : suc i ≡ i + 1 = omega arith in ap (λ k. all_stepped s (drop k steps) (further s mid)) e)

-- all of them are made
pub none_more : (s : Setting) (steps : List ProgramStep) (i : ℕ) (mid : Stepped) → length steps ≤ i → all_stepped s (drop i steps) mid ≡ mid
none_more s steps i mid over = ap (λ rest. all_stepped s rest mid) (drop-all steps i over)
  where
    drop-all : (xs : List ProgramStep) (i : ℕ) → length xs ≤ i → drop i xs ≡ []
    drop-all [] zero h = refl
    drop-all [] (suc i) h = refl
    drop-all (x ∷ xs) zero h = absurd (omega (h, arith))
    drop-all (x ∷ xs) (suc i) h = drop-all xs i (omega (h, arith))

-- a run begins with all its steps
pub begun_left : (params : List Val) (seed : Val) (steps : List ProgramStep) → (begun params seed steps).left ≡ steps
begun_left params seed [] = refl
begun_left params seed (step ∷ steps) = refl

-- and its steps are the whole run
pub whole : (s : Setting) (rows : Rows) (params : List Val) (seed : Val) (steps : List ProgramStep) → all_stepped s steps (unchanged rows (begun params seed steps)) ≡ whole_run s rows (begun params seed steps)
whole s rows params seed steps = ap (λ left. all_stepped s left (unchanged rows (begun params seed steps))) (sym (begun_left params seed steps))
