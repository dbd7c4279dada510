-- What guarded steps leave: a write that rules allow is made as the store makes it, any other changes nothing, and a denial names the first rule that denies.
use Rattle.std.specs.Prelude.{◌≡◌, ℕ, zero, suc, ◌+◌, ◌<◌, List, [], ◌∷◌, Bool, true, false, cond, Option, None, Some, Ok, Err, IfSome, slice_get}
use Rattle.std.specs.Prelude.{refl, if◌then◌else◌, ◌&&◌}
use Rattle.std.specs.List.{list_any}
use Rattle.std.proofs.Common.{ap, subst, arith}
use Rattle.map_model.specs.Maps.{at}
use Rattle.value_model.specs.Val.{Entries}
use Rattle.ejson_value.specs.Key.{key_cmp, key_of}
use Rattle.ejson_value.specs.Rows.{Rows}
use Rattle.collection_store.specs.Outcome.{Outcome as Answer}
use Rattle.collection_store.specs.Applied.{Applied, applied}
use Rattle.program_steps.specs.declared.rules.Action.{Action}
use Rattle.program_steps.specs.declared.rules.Rules.{Rules}
use Rattle.program_steps.specs.declared.step.ProgramStep.TheVariants as step
use Rattle.program_steps.specs.Guards.{Rule}
use Rattle.program_model.specs.declared.verdict.Verdict.{Verdict}
use Rattle.program_model.specs.declared.verdict.Verdict.TheVariants as verdict
use Rattle.program_model.specs.Guarded.{Write, action_of, judged_document, are_read, denies, allows, first_denial, unless_denied, on_document, judged}
use Rattle.program_model.specs.Guarded.{or_none, id_of}
use Rattle.program_model.specs.Run.{Run, fails}
use Rattle.program_model.specs.Steps.{Setting, by_answer, if_made, Writing, writing_in, operation_of, by_verdict, by_rules, done_step}
use Rattle.program_model.specs.Faults.{denied_by}

-- what the rules of the step's collection answer to its write; None where there is no such write
abbrev pub verdict_by : Rows → List ℕ → Option Rules → Option Writing → Option Verdict
verdict_by rows collection rules None = None
verdict_by rows collection rules (Some w) = Some (judged (or_none rules) w.0 (at key_cmp rows (key_of collection (id_of w.0))))

abbrev pub verdict_of : Setting → Rows → Run → List ℕ → Action → Option Verdict
verdict_of s rows run collection a = verdict_by rows collection (s.rules collection) (writing_in collection run a run.params)

-- the rows once the write is made, where the store doesn't refuse it
abbrev pub rows_after : Rows → Answer Applied → Rows
rows_after rows (Ok applied) = applied.rows
rows_after rows (Err refusal) = rows

abbrev pub write_made : Setting → Rows → List ℕ → Option Writing → Rows
write_made s rows collection None = rows
write_made s rows collection (Some w) = rows_after rows (applied s.collections rows (operation_of collection w.0) s.room)

-- what a guarded step leaves, by the verdict
abbrev pub rows_by : Setting → Rows → List ℕ → Option Writing → Option Verdict → Rows
rows_by s rows collection w (Some verdict.Allowed) = write_made s rows collection w
rows_by s rows collection w v = rows

answer_rows : (rows : Rows) (run : Run) (o : Answer Applied) (next : Applied → Run) → (by_answer rows run o next).rows ≡ rows_after rows o
answer_rows rows run (Ok a) next = refl
answer_rows rows run (Err e) next = refl

verdict_rows : (s : Setting) (rows : Rows) (run : Run) (collection : List ℕ) (w : Writing) (v : Verdict) →
    (by_verdict s rows run collection w v).rows ≡ rows_by s rows collection (Some w) (Some v)
verdict_rows s rows run collection w verdict.Allowed = answer_rows rows run (applied s.collections rows (operation_of collection w.0) s.room) _
verdict_rows s rows run collection w verdict.Absent = refl
verdict_rows s rows run collection w (verdict.Denied place) = refl
verdict_rows s rows run collection w verdict.NotAllowed = refl
verdict_rows s rows run collection w verdict.BadRule = refl

writing_rows : (s : Setting) (rows : Rows) (run : Run) (collection : List ℕ) (rules : Option Rules) (w : Option Writing) →
    (if_made rows run w (λ w. by_rules s rows run collection rules w)).rows ≡ rows_by s rows collection w (verdict_by rows collection rules w)
writing_rows s rows run collection rules None = refl
writing_rows s rows run collection rules (Some w) =
    verdict_rows s rows run collection w (judged (or_none rules) w.0 (at key_cmp rows (key_of collection (id_of w.0))))

pub guarded_rows : (s : Setting) (rows : Rows) (run : Run) (collection : List ℕ) (a : Action) →
    (done_step s rows run (step.Guarded collection a)).rows ≡ rows_by s rows collection (writing_in collection run a run.params)
    (verdict_of s rows run collection a)
guarded_rows s rows run collection a = writing_rows s rows run collection (s.rules collection) (writing_in collection run a run.params)

-- a denial is what the run fails with
denial_by : (s : Setting) (rows : Rows) (run : Run) (collection : List ℕ) (place : ℕ) (rules : Option Rules) (w : Option Writing) →
    verdict_by rows collection rules w ≡ Some (verdict.Denied place) →
    (if_made rows run w (λ w. by_rules s rows run collection rules w)).run ≡ fails (denied_by place) run
denial_by s rows run collection place rules None is = absurd (cc is)
denial_by s rows run collection place rules (Some w) is =
    let v : judged (or_none rules) w.0 (at key_cmp rows (key_of collection (id_of w.0))) ≡ verdict.Denied place = cc is in
    ap (λ (v : Verdict). (by_verdict s rows run collection w v).run) v

pub guarded_denial : (s : Setting) (rows : Rows) (run : Run) (collection : List ℕ) (a : Action) (place : ℕ) →
    verdict_of s rows run collection a ≡ Some (verdict.Denied place) →
    (done_step s rows run (step.Guarded collection a)).run ≡ fails (denied_by place) run
guarded_denial s rows run collection a place is = denial_by s rows run collection place (s.rules collection) (writing_in collection run a run.params) is

-- ---- the first rule that denies

-- the rule at the place denies the write, and none before it does
pub record IsFirstDenial (write : Write) (doc : Entries) (rules : List Rule) (place : ℕ) : Type 0 where
  pub here : (rule : Rule) × (slice_get rules place ≡ Some rule) × (denies write doc rule ≡ true)
  pub before : (n : ℕ) → n < place → IfSome (slice_get rules n) (λ (rule : Rule). denies write doc rule ≡ false)

first_from : (write : Write) (doc : Entries) (n : ℕ) (rules : List Rule) (place : ℕ) → first_denial write doc n rules ≡ Some place →
    (k : ℕ) × (place ≡ n + k) × IsFirstDenial write doc rules k
first_from write doc n [] place is = absurd (cc is)
first_from write doc n (rule ∷ rules) place is =
    elim (denies write doc rule) as
    (λ (b : Bool). denies write doc rule ≡ b → cond b (Some n) (first_denial write doc (suc n) rules) ≡ Some place →
    (k : ℕ) × (place ≡ n + k) × IsFirstDenial write doc (rule ∷ rules) k) [
      | true ↦ λ d e. let same : n ≡ place = cc e in (0, omega (arith, same), record { here = (rule, refl, d); before = λ m lt. absurd (omega (arith, lt)) })
      | false ↦ λ d e.
          let rest = first_from write doc (suc n) rules place e in
          (suc rest.0, omega (arith, rest.1), record { here = rest.2.here; before = λ m lt. earlier m rest.0 d lt rest.2.before })
    ] refl is
  where
    earlier : (m k : ℕ) → denies write doc rule ≡ false → m < suc k →
        ((n : ℕ) → n < k → IfSome (slice_get rules n) (λ (r : Rule). denies write doc r ≡ false)) →
        IfSome (slice_get (rule ∷ rules) m) (λ (r : Rule). denies write doc r ≡ false)
    earlier zero k d lt before = d
    earlier (suc m) k d lt before = before m (omega (arith, lt))

denied_at : (o : Option ℕ) (b : Bool) (place : ℕ) → unless_denied o b ≡ verdict.Denied place → o ≡ Some place
denied_at None true place is = absurd (cc is)
denied_at None false place is = absurd (cc is)
denied_at (Some n) b place is = let same : n ≡ place = cc is in ap (λ m. Some m) same

denied_on : (rules : Rules) (write : Write) (o : Option Entries) (place : ℕ) → on_document rules write o ≡ verdict.Denied place →
    (doc : Entries) × (o ≡ Some doc) × IsFirstDenial write doc rules.deny place
denied_on rules write None place is = absurd (cc is)
denied_on rules write (Some doc) place is =
    let f = first_from write doc 0 rules.deny place (denied_at (first_denial write doc 0 rules.deny) (list_any (allows write doc) rules.allow) place is) in
    let same : f.0 ≡ place = omega (arith, f.1) in
    (doc, refl, subst (λ k. IsFirstDenial write doc rules.deny k) same f.2)

denied_if : (b : Bool) (v : Verdict) (place : ℕ) → (if b then v else verdict.BadRule) ≡ verdict.Denied place → v ≡ verdict.Denied place
denied_if true v place is = is
denied_if false v place is = absurd (cc is)

pub denied_first : (rules : Rules) (write : Write) (present : Option Entries) (place : ℕ) → judged rules write present ≡ verdict.Denied place →
    (doc : Entries) × (judged_document write present ≡ Some doc) × IsFirstDenial write doc rules.deny place
denied_first rules write present place is =
    denied_on rules write (judged_document write present) place
    (denied_if (are_read (action_of write) rules.allow && are_read (action_of write) rules.deny)
    (on_document rules write (judged_document write present)) place is)
