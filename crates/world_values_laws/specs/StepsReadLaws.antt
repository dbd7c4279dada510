-- Laws: The steps that are read from values have templates that are values.
use Rattle.std.specs.Prelude.{◌==◌, ℕ, zero, suc, Bool, true, false, List, [], ◌∷◌, ◌++◌, length, codes, nat_lt, not, Option, None, Some, IfSome}
use Rattle.std.specs.Prelude.{Result, Ok, Err, IfOk, slice_get, if◌then◌else◌}
use Rattle.value_model.specs.Size.{is_name}
use Rattle.value_model.specs.Val.{Val, text, list, object, Vals, no_vals, val, Fields, no_fields, field, list_of, entries_of}
use Rattle.value_model.specs.Order.{text_cmp}
use Rattle.value_model.specs.Valid.{IsValue, AreValues, HaveValues}
use Rattle.value_model.specs.Branches.{field_of}
use Rattle.std.specs.BTreeMap.{is_at}
use Rattle.std.specs.Map.{lookup}
use Rattle.ejson_value.specs.declared.fault.Fault.{Fault}
use Rattle.ejson_value.specs.Results.{made, and_then}
use Rattle.program_steps.specs.declared.step.ProgramStep.{ProgramStep}
use Rattle.program_steps.specs.declared.step.ProgramStep.TheVariants as step
use Rattle.program_reading.specs.declared.fault.Flaw.TheVariants as flaw
use Rattle.program_reading.specs.Faults.{Place, below, element, Reading, bad}
use Rattle.program_reading.specs.Names.{is_valid_name}
use Rattle.program_reading.specs.Steps.{form_named, if_long, form_at, template_reading, fault_reading, collection_reading, insert_reading}
use Rattle.program_reading.specs.Steps.{update_reading, remove_reading, require_reading, if_formed, step_reading}
use Rattle.program_reading.specs.Programs.{max_steps, steps_behind, steps_reading, own_steps_reading, stub_reading, is_program, parts_reading, program_reading}
use Rattle.world_values_laws.specs.Values.{IsStep, AreSteps}
use Rattle.world_values_laws.specs.StepsRead.{HasValuesAt, IsMade}

-- ---- readings

-- what is so of each value and whatever follows it
pub follows : {A B E : Type 0} (r : Result A E) (f : A → Result B E) (Q : B → Type 0) → ((a : A) → IfOk (f a) Q) → IfOk (and_then r f) Q
follows (Ok a) f Q next = next a
follows (Err e) f Q next = tt

-- what is so where it is so of what came before
pub follows_from : {A B E : Type 0} (r : Result A E) (f : A → Result B E) (P : A → Type 0) (Q : B → Type 0) → IfOk r P →
    ((a : A) → P a → IfOk (f a) Q) → IfOk (and_then r f) Q
follows_from (Ok a) f P Q is next = next a is
follows_from (Err e) f P Q is next = tt

pub made_is : {A B E : Type 0} (f : A → B) (r : Result A E) (P : A → Type 0) (Q : B → Type 0) → IfOk r P → ((a : A) → P a → Q (f a)) → IfOk (made f r) Q
made_is f (Ok a) P Q is next = next a is
made_is f (Err e) P Q is next = tt

pub either : {A E : Type 0} (b : Bool) (r s : Result A E) (Q : A → Type 0) → IfOk r Q → IfOk s Q → IfOk (if b then r else s) Q
either true r s Q p q = p
either false r s Q p q = q

-- ---- parts of values

listed_is : (vs : Vals) (n : ℕ) → AreValues vs → IfSome (slice_get (list_of vs) n) IsValue
listed_is no_vals n all = tt
listed_is (val v vs) zero all = all.0
listed_is (val v vs) (suc n) all = listed_is vs n all.1

pub field_is : (fs : Fields) (name : List ℕ) → HaveValues fs → IfSome (field_of fs name) IsValue
field_is no_fields name all = tt
field_is (field n v fs) name all =
    elim (is_at (text_cmp name) n) as
    (λ b. IfSome (if b then Some v else lookup (is_at (text_cmp name)) (entries_of fs)) IsValue) [ true ↦ all.0 | false ↦ field_is fs name all.1 ]

-- ---- steps

template_is : (place : Place) (o : Option Val) → IfSome o IsValue → IfOk (template_reading place o) IsValue
template_is place None is = tt
template_is place (Some v) is = is

insert_is : (collections : List (List ℕ)) (place : Place) (vs : List Val) → HasValuesAt vs → IfOk (insert_reading collections place vs) IsStep
insert_is collections place vs all =
    follows (collection_reading collections place vs) _ IsStep (λ collection.
    follows_from (template_reading place (slice_get vs 2)) _ IsValue IsStep (template_is place (slice_get vs 2) (all 2)) (λ doc is. is))

update_is : (collections : List (List ℕ)) (place : Place) (vs : List Val) (every : Bool) → HasValuesAt vs →
    IfOk (update_reading collections place vs every) IsStep
update_is collections place vs every all =
    follows (collection_reading collections place vs) _ IsStep (λ collection.
    follows (template_reading place (slice_get vs 2)) _ IsStep (λ selector.
    follows_from (template_reading place (slice_get vs 3)) _ IsValue IsStep (template_is place (slice_get vs 3) (all 3)) (λ modifier is. is)))

remove_is : (collections : List (List ℕ)) (place : Place) (vs : List Val) → IfOk (remove_reading collections place vs) IsStep
remove_is collections place vs =
    follows (collection_reading collections place vs) _ IsStep (λ collection. follows (template_reading place (slice_get vs 2)) _ IsStep (λ selector. tt))

require_is : (collections : List (List ℕ)) (place : Place) (vs : List Val) → IfOk (require_reading collections place vs) IsStep
require_is collections place vs =
    follows (collection_reading collections place vs) _ IsStep (λ collection.
    follows (template_reading place (slice_get vs 2)) _ IsStep (λ selector. follows (fault_reading place vs 3 4) _ IsStep (λ fault. tt)))

thrown_is : (r : Reading Fault) → IfOk (made (λ fault. step.Throw fault) r) IsStep
thrown_is (Ok fault) = tt
thrown_is (Err e) = tt

return_is : (place : Place) (vs : List Val) → HasValuesAt vs → IfOk (made (λ result. step.Return result) (template_reading place (slice_get vs 1))) IsStep
return_is place vs all = made_is (λ result. step.Return result) (template_reading place (slice_get vs 1)) IsValue IsStep
    (template_is place (slice_get vs 1) (all 1)) (λ result is. is)

module _ (collections : List (List ℕ)) (place : Place) (vs : List Val) (all : HasValuesAt vs) where
  choice : (n : ℕ) (b : Bool) (x y : _) → IfOk (if_formed collections place vs (if_long n x)) IsStep →
      IfOk (if_formed collections place vs (if_long n y)) IsStep →
      IfOk (if_formed collections place vs (if_long n (if b then x else y))) IsStep
  choice n true x y p q = p
  choice n false x y p q = q

  -- a step of this form, and of so many elements
  long : (name : List ℕ) (b : Bool) → IfOk (if_formed collections place vs (form_named name)) IsStep →
      IfOk (if_formed collections place vs (if b then form_named name else None)) IsStep
  long name true p = p
  long name false p = tt

  named_is : (n : ℕ) (name : List ℕ) → IfOk (if_formed collections place vs (if_long n (form_named name))) IsStep
  named_is n name =
      choice n (is_name name (codes "insert")) _ _ (long (codes "insert") (n == 3) (insert_is collections place vs all))
      (choice n (is_name name (codes "update")) _ _ (long (codes "update") (n == 4) (update_is collections place vs false all))
      (choice n (is_name name (codes "updateAll")) _ _ (long (codes "updateAll") (n == 4) (update_is collections place vs true all))
      (choice n (is_name name (codes "remove")) _ _ (long (codes "remove") (n == 3) (remove_is collections place vs))
      (choice n (is_name name (codes "require")) _ _ (long (codes "require") (n == 5) (require_is collections place vs))
      (choice n (is_name name (codes "unblock")) _ _ (long (codes "unblock") (n == 1) tt)
      (choice n (is_name name (codes "throw")) _ _ (long (codes "throw") (n == 3) (thrown_is (fault_reading place vs 1 2)))
      (choice n (is_name name (codes "return")) _ _ (long (codes "return") (n == 2) (return_is place vs all)) tt)))))))

  form_is : (n : ℕ) (o : Option Val) → IfOk (if_formed collections place vs (form_at n o)) IsStep
  form_is n (Some (text name)) = named_is n name
  form_is n (Some v) = tt
  form_is n None = tt

step_is : (collections : List (List ℕ)) (place : Place) (v : Val) → IsValue v → IfOk (step_reading collections place v) IsStep
step_is collections place (list vs) is = form_is collections place (list_of vs) (λ n. listed_is vs n is) (length (list_of vs)) (slice_get (list_of vs) 0)
step_is collections place v is = tt

-- ---- programs

one_step_more : (steps : List ProgramStep) (s : ProgramStep) → AreSteps steps → IsStep s → AreSteps (steps ++ s ∷ [])
one_step_more [] s all is = (is, tt)
one_step_more (x ∷ steps) s all is = (all.0, one_step_more steps s all.1 is)

behind_are : (collections : List (List ℕ)) (place : Place) (steps : List ProgramStep) (vs : Vals) → AreSteps steps → AreValues vs →
    IfOk (steps_behind collections place steps vs) AreSteps
behind_are collections place steps no_vals all is = all
behind_are collections place steps (val v vs) all is =
    follows_from (step_reading collections (element place (length steps)) v) _ IsStep AreSteps
    (step_is collections (element place (length steps)) v is.0) (λ s one.
    behind_are collections place (steps ++ s ∷ []) vs (one_step_more steps s all one) is.1)

steps_are : (collections : List (List ℕ)) (place : Place) (v : Val) → IsValue v → IfOk (steps_reading collections place v) AreSteps
steps_are collections place (list vs) is =
    either (nat_lt max_steps (length (list_of vs))) (bad flaw.TooMany place) (steps_behind collections place [] vs) AreSteps tt
    (behind_are collections place [] vs tt is)
steps_are collections place v is = tt

own_are : (collections : List (List ℕ)) (place : Place) (o : Option Val) → IfSome o IsValue → IfOk (own_steps_reading collections place o) AreSteps
own_are collections place None is = tt
own_are collections place (Some v) is = steps_are collections place v is

parts_are : (collections : List (List ℕ)) (place : Place) (fs : Fields) → HaveValues fs → IfOk (parts_reading collections place fs) IsMade
parts_are collections place fs all =
    follows_from (own_steps_reading collections (below place (codes "steps")) (field_of fs (codes "steps"))) _ AreSteps IsMade
    (own_are collections (below place (codes "steps")) (field_of fs (codes "steps")) (field_is fs (codes "steps") all))
    (λ steps is. follows (stub_reading collections (below place (codes "stub")) steps (field_of fs (codes "stub"))) _ IsMade (λ stub. is))

pub program_is : (collections : List (List ℕ)) (place : Place) (name : List ℕ) (v : Val) → IsValue v → IfOk (program_reading collections place name v) IsMade
program_is collections place name (object fs) is =
    either (not (is_program fs)) (bad flaw.BadShape place) (if is_valid_name name then parts_reading collections place fs else bad flaw.BadName place) IsMade tt
    (either (is_valid_name name) (parts_reading collections place fs) (bad flaw.BadName place) IsMade (parts_are collections place fs is.1) tt)
program_is collections place name v is = tt
