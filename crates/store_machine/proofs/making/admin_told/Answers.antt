use Rattle.std.specs.Prelude.{Result, Err}
use Rattle.std.proofs.Common.{refl, ap, sym, subst, ◌∙◌, cond}
use Rattle.store_machine.specs.declared.fault.AdminFault.{AdminFault}
use Rattle.store_machine.specs.declared.fault.AdminFault.TheVariants.{Refused}
use Rattle.store_machine.specs.State.{MachineState, by_operation, AdminGives}
use Rattle.history_model.specs.Operations.{operation_in}
use Rattle.history_log.specs.Entries.{told_operation}
use Rattle.store_machine.specs.Standing.{seen}
use Rattle.store_machine.proofs.making.admin_told.Goals as goal

pub returns-then-full : goal.returns-then-full
returns-then-full c =
    let m = seen c.args.app.now c.args.parts.now in
    let full : Result MachineState AdminFault = Err (Refused 503) in
    record { stands = c.requires.stands; gives = ap (λ b. cond b full (by_operation m (told_operation c.args.text.now) (operation_in (told_operation c.args.text.now)))) (sym c.is_full-full.ensures ∙ c.if-full.true); refused = refl }

pub make_told-requires-clause-free : goal.make_told-requires-clause-free
make_told-requires-clause-free c = sym c.is_full-full.ensures ∙ c.if-full.false

pub returns-else-full-clause-gives : goal.returns-else-full-clause-gives
returns-else-full-clause-gives c =
    let m = seen c.args.app.now c.args.parts.now in
    let op = told_operation c.args.text.now in
    let full : Result MachineState AdminFault = Err (Refused 503) in
    let answer =
    ap (λ b. cond b full (by_operation m op (operation_in op))) (sym c.is_full-full.ensures ∙ c.if-full.false)
    ∙ ap (by_operation m op) c.requires.reads in
    subst (λ r. AdminGives (λ u. seen c.args.app.now c.make_told.new.parts) c.make_told.result r) (sym answer) c.make_told.ensures.gives
