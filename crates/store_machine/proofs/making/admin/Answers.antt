use Rattle.std.specs.Prelude.{Result, Err}
use Rattle.std.proofs.Common.{refl, ap, sym, subst, ◌∙◌, cond}
use Rattle.store_machine.specs.declared.fault.AdminFault.{AdminFault}
use Rattle.store_machine.specs.declared.fault.AdminFault.TheVariants.{Refused}
use Rattle.store_machine.specs.State.{MachineState, by_operation, AdminGives}
use Rattle.history_model.specs.Operations.{operation_in}
use Rattle.store_machine.specs.Standing.{seen}
use Rattle.store_machine.proofs.making.admin.Goals as goal

pub returns-then-full : goal.returns-then-full
returns-then-full c =
    let m = seen c.args.app.now c.args.parts.now in
    let full : Result MachineState AdminFault = Err (Refused 503) in
    record { stands = c.requires; gives = ap (λ b. cond b full (by_operation m c.args.op.now (operation_in c.args.op.now))) (sym c.is_full-full.ensures ∙ c.if-full.true); refused = refl }

pub make-requires-clause-reads : goal.make-requires-clause-reads
make-requires-clause-reads c = sym c.in_ok-operation.ensures ∙ c.in-Some.is

pub make-requires-clause-free : goal.make-requires-clause-free
make-requires-clause-free c = sym c.is_full-full.ensures ∙ c.if-full.false

pub returns-in-None : goal.returns-in-None
returns-in-None c =
    let m = seen c.args.app.now c.args.parts.now in
    let full : Result MachineState AdminFault = Err (Refused 503) in
    record {
      stands = c.requires;
      gives = ap (λ b. cond b full (by_operation m c.args.op.now (operation_in c.args.op.now))) (sym c.is_full-full.ensures ∙ c.if-full.false) ∙ ap (by_operation m c.args.op.now) (sym c.in_ok-operation.ensures ∙ c.in-None.is);
      refused = refl;
    }

pub returns-in-Some-clause-gives : goal.returns-in-Some-clause-gives
returns-in-Some-clause-gives c =
    let m = seen c.args.app.now c.args.parts.now in
    let full : Result MachineState AdminFault = Err (Refused 503) in
    let answer =
    ap (λ b. cond b full (by_operation m c.args.op.now (operation_in c.args.op.now))) (sym c.is_full-full.ensures ∙ c.if-full.false)
    ∙ ap (by_operation m c.args.op.now) (sym c.in_ok-operation.ensures ∙ c.in-Some.is) in
    subst (λ r. AdminGives (λ u. seen c.args.app.now c.make.new.parts) c.make.result r) (sym answer) c.make.ensures.gives
