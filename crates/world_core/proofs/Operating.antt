-- An administrator's operation.
use Rattle.ejson_value.specs.declared.memory.Mem.{Mem}
use Rattle.std.specs.Prelude.{◌≡◌, ℕ, List, true, false, cond, Option, None, Some, Result, Ok, Err, refl}
use Rattle.std.proofs.Common.{ap, sym, subst, ◌∙◌}
use Rattle.value_model.specs.Val.{Val}
use Rattle.collection_store.specs.declared.operation.Op.{Op}
use Rattle.collection_store.specs.Outcome.{Outcome, code_of}
use Rattle.collection_store.specs.Applied.{Applied}
use Rattle.world_core.specs.history_model.declared.entry.Entry.TheVariants as entry
use Rattle.world_core.specs.history_model.Operations.{operation_in}
use Rattle.world_core.specs.history_model.History.{is_full_for_operation}
use Rattle.world_core.specs.store_machine.declared.fault.AdminFault.{AdminFault}
use Rattle.world_core.specs.store_machine.declared.fault.AdminFault.TheVariants as admin
use Rattle.world_core.specs.store_machine.State.{MachineState, held_by, admin_answer, by_operation, by_answer, refusal_of as fault_of, with_entry}
use Rattle.world_core.specs.world_model.declared.events.Event.TheVariants as event
use Rattle.world_core.specs.world_model.Events.{IsEvent, refusal_of, by_operation as refused_operation, by_answer as refused_by, applied_in}
use Rattle.world_core.specs.world_model.Lines.{idle_unless, refusal_values, texts_of}
use Rattle.world_laws.specs.World.{AWorld, as_world, IsWorld}
use Rattle.world_laws.specs.Doing.{IsAdministered, after_operation}
use Rattle.world_laws.specs.Asking.{administered, refused}
use Rattle.world_core.specs.Happening.{Happens}

-- ---- what the machine answers is what is refused

module _ (x : AWorld) (op : List Val) where
  abbrev m : MachineState
  m = record { app = x.app; history = x.history }

  abbrev Agree : Result MachineState AdminFault → Option ℕ → Type 0
  Agree (Ok next) o = (o ≡ None) × (next ≡ with_entry m (entry.Admin op))
  Agree (Err (admin.Refused code)) o = o ≡ Some code
  Agree (Err admin.Memory) o = Unit {0}

  by_code : (o : Option ℕ) → Agree (Err (fault_of o)) o
  by_code None = tt
  by_code (Some code) = refl

  answers_agree : (o : Outcome Applied) → Agree (by_answer m op o) (refused_by o)
  answers_agree (Ok applied) = (refl, refl)
  answers_agree (Err refusal) = by_code (code_of refusal)

  operations_agree : (o : Option Op) → Agree (by_operation m op o) (refused_operation (as_world x) o)
  operations_agree None = refl
  operations_agree (Some o) = answers_agree (applied_in (as_world x) o)

  agree : Agree (admin_answer m op) (refusal_of (as_world x) op)
  agree =
      elim (is_full_for_operation (held_by m)) as (λ b. Agree (cond b (Err (admin.Refused 503)) (by_operation m op (operation_in op))) (cond b (Some 503) (refused_operation (as_world x) (operation_in op)))) [
        | true ↦ refl
        | false ↦ operations_agree (operation_in op)
      ]

-- ---- what happens

module _ (x : AWorld) (p : IsWorld x) (op : List Val) (good : IsEvent (event.Admin op)) (next : MachineState) where
  abbrev y : AWorld
  y = record x { app = next.app; history = next.history }

  pub admin_happens : admin_answer (m x op) op ≡ Ok next → (lines : List (List ℕ)) → lines ≡ texts_of (idle_unless true) → Happens x (event.Admin op) y (Ok lines)
  admin_happens is lines prints =
      let both : (refusal_of (as_world x) op ≡ None) × (next ≡ with_entry (m x op) (entry.Admin op)) = subst (λ (r : Result MachineState AdminFault). Agree x op r (refusal_of (as_world x) op)) is (agree x op) in
      let to : y ≡ after_operation x op = ap (λ (n : MachineState). record x { app = n.app; history = n.history }) both.1 in
      let made : IsAdministered x op y = subst (λ (v : AWorld). IsAdministered x op v) (sym to) (administered x p op good both.0) in
      (record { stays = made.stays; does = made.does }, prints ∙ sym (ap (λ (o : Option ℕ). texts_of (refusal_values o)) both.0))

  same_machine : next ≡ m x op → y ≡ x
  same_machine is = ap (λ (n : MachineState). record x { app = n.app; history = n.history }) is

  pub admin_refused : (code : ℕ) → next ≡ m x op → admin_answer (m x op) op ≡ Err (admin.Refused code) → (lines : List (List ℕ)) → lines ≡ texts_of (refusal_values (Some code)) → Happens x (event.Admin op) y (Ok lines)
  admin_refused code same is lines prints =
      let refuses : refusal_of (as_world x) op ≡ Some code = subst (λ (r : Result MachineState AdminFault). Agree x op r (refusal_of (as_world x) op)) is (agree x op) in
      let to = same_machine same in
      (record { stays = subst IsWorld (sym to) p; does = ap as_world to ∙ sym (refused x op code refuses) }, prints ∙ sym (ap (λ (o : Option ℕ). texts_of (refusal_values o)) refuses))

  pub admin_left : (e : Mem) → next ≡ m x op → Happens x (event.Admin op) y (Err e)
  admin_left e same = let to = same_machine same in (subst IsWorld (sym to) p, ap as_world to)
