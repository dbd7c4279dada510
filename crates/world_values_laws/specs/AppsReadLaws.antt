-- Laws: The application that is read from a value is made of values.
use Rattle.std.specs.Prelude.{ℕ, true, false, List, [], ◌∷◌, length, codes, nat_lt, Option, None, Some, IfSome, Result, Ok, Err, IfOk, if◌then◌else◌}
use Rattle.std.specs.declared.cmp.Ordering.TheVariants.{Less, Equal, Greater}
use Rattle.std.specs.Ordering.{match_ordering}
use Rattle.std.specs.Map.{lookup}
use Rattle.std.specs.BTreeMap.{is_at, insert_entry}
use Rattle.std.proofs.Common.{subst}
use Rattle.map_model.specs.Maps.{at}
use Rattle.value_model.specs.Val.{Val, object, Fields, no_fields, field}
use Rattle.value_model.specs.Order.{text_cmp}
use Rattle.value_model.specs.Size.{names_of}
use Rattle.value_model.specs.Valid.{IsValue, HaveValues}
use Rattle.value_model.specs.Branches.{field_of}
use Rattle.program_steps.specs.declared.rules.Action.{Action}
use Rattle.program_steps.specs.declared.rules.Action.TheVariants as action
use Rattle.program_steps.specs.declared.rules.Rules.{Rules as WriteRules}
use Rattle.program_steps.specs.declared.step.Program.{Program}
use Rattle.program_steps.specs.Guards.{method_name, guarded_program}
use Rattle.program_reading.specs.declared.fault.AppFault.{AppFault}
use Rattle.program_reading.specs.declared.fault.AppFault.TheVariants as fault
use Rattle.program_reading.specs.declared.fault.Flaw.TheVariants as flaw
use Rattle.program_reading.specs.declared.names.Shape.TheVariants as shape
use Rattle.program_reading.specs.Faults.{below, Reading, Gives, bad}
use Rattle.program_reading.specs.Names.{has_only_keys}
use Rattle.program_reading.specs.Programs.{program_reading}
use Rattle.app_model.specs.App.{App}
use Rattle.app_model.specs.Reading.{max_methods, collections_reading, methods_put, methods_reading, with_method, with_made, stored_reading}
use Rattle.app_model.specs.Reading.{told_reading, members_reading, app_reading}
use Rattle.world_values_laws.specs.world_model.Store.{programs}
use Rattle.world_values_laws.specs.Values.{HasValues}
use Rattle.world_values_laws.specs.StepsRead.{IsMade}
use Rattle.world_values_laws.specs.StepsReadLaws.{follows, follows_from, either, field_is, program_is}
use Rattle.world_values_laws.specs.AppsRead.{AreMade, HasMade, IsApp, IsStored, Methods}

put_made : (rows : Methods) (name : List ℕ) (program : Program) → AreMade rows → IsMade program → AreMade (insert_entry text_cmp rows name program)
put_made [] name program all is = (is, tt)
put_made (row ∷ rows) name program all is =
    elim (text_cmp name row.0)
    as (λ o. AreMade (match_ordering o ((name, program) ∷ row ∷ rows) ((row.0, program) ∷ rows) (row ∷ insert_entry text_cmp rows name program))) [
      | Less ↦ (is, all)
      | Equal ↦ (is, all.1)
      | Greater ↦ (all.0, put_made rows name program all.1 is)
    ]

found_made : (rows : Methods) (name : List ℕ) → AreMade rows → IfSome (at text_cmp rows name) IsMade
found_made [] name all = tt
found_made (row ∷ rows) name all =
    elim (is_at (text_cmp name) row.0) as
    (λ b. IfSome (if b then Some row.1 else lookup (is_at (text_cmp name)) rows) IsMade) [ true ↦ all.0 | false ↦ found_made rows name all.1 ]

-- ---- methods that are listed

methods_are : (collections : List (List ℕ)) (rows : Methods) (fs : Fields) → AreMade rows → HaveValues fs → IfOk (methods_put collections rows fs) AreMade
methods_are collections rows no_fields all is = all
methods_are collections rows (field name v fs) all is =
    follows_from (program_reading collections (below (codes "methods") name) name v) _ IsMade AreMade
    (program_is collections (below (codes "methods") name) name v is.0) (λ program one.
    methods_are collections (insert_entry text_cmp rows name program) fs (put_made rows name program all one) is.1)

listed_are : (collections : List (List ℕ)) (o : Option Val) → IfSome o IsValue → IfOk (methods_reading collections o) AreMade
listed_are collections None is = tt
listed_are collections (Some (object fs)) is =
    either (nat_lt max_methods (length (names_of fs))) (bad flaw.TooMany (codes "methods")) (methods_put collections [] fs) AreMade tt
    (methods_are collections [] fs tt is.1)
listed_are collections (Some v) is = tt

-- ---- methods that rules make

with_one : (methods : Methods) (collection : List ℕ) (a : Action) → AreMade methods → AreMade (with_method methods collection a)
with_one methods collection a all = put_made methods (method_name collection a) (guarded_program collection a) all (tt, tt)

made_too : (methods : Methods) (guards : List (List ℕ × WriteRules)) → AreMade methods → AreMade (with_made methods guards)
made_too methods [] all = all
made_too methods (row ∷ rows) all =
    let inserts = with_method methods row.0 action.Insert in
    let updates = with_method inserts row.0 action.Update in
    made_too (with_method updates row.0 action.Remove) rows
    (with_one updates row.0 action.Remove (with_one inserts row.0 action.Update (with_one methods row.0 action.Insert all)))

-- ---- applications

stored_is : (fs : Fields) → HaveValues fs → IfOk (stored_reading fs) IsStored
stored_is fs all =
    follows (collections_reading (field_of fs (codes "collections"))) _ IsStored (λ collections.
    follows_from (methods_reading collections (field_of fs (codes "methods"))) _ AreMade IsStored
    (listed_are collections (field_of fs (codes "methods")) (field_is fs (codes "methods") all)) (λ methods is. is))

members_are : (fs : Fields) → HaveValues fs → IfOk (members_reading fs) IsApp
members_are fs all =
    follows_from (stored_reading fs) _ IsStored IsApp (stored_is fs all) (λ stored is.
    follows (told_reading stored.0 stored.1 fs) _ IsApp (λ told. made_too stored.1 told.1 is))

app_is : (v : Val) → IsValue v → IfOk (app_reading v) IsApp
app_is (object fs) is = either (has_only_keys shape.Application fs) (members_reading fs) (bad flaw.BadShape []) IsApp (members_are fs is.1) tt
app_is v is = tt

weaker : (r : Reading App) → IfOk r IsApp → IfOk r HasMade
weaker (Ok app) is = λ name. found_made app.methods name is
weaker (Err e) is = tt

pub read_apps_have_values : (v : Val) → IsValue v → IfOk (app_reading v) (λ app. HasValues (programs app))
read_apps_have_values v is = weaker (app_reading v) (app_is v is)

-- a call that answers as the value is read gives such an application
pub given_values : (r : Result App AppFault) (x : Reading App) → Gives (λ app. app) r x → IfOk x HasMade → IfOk r HasMade
given_values (Ok app) x g is = subst (λ (y : Reading App). IfOk y HasMade) g is
given_values (Err fault.Memory) x g is = tt
given_values (Err e) x g is = tt
