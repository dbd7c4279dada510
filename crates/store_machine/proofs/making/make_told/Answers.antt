use Rattle.std.specs.Prelude.{Err}
use Rattle.std.proofs.Common.{◌+◌, ◌-◌, List, [], ◌∷◌, ◌++◌, Some, refl, ap, sym, subst, ◌∙◌, arith}
use Rattle.collection_store.specs.Answered.{applied_as}
use Rattle.collection_store.specs.Limits.{new_bytes}
use Rattle.collection_store.specs.Outcome.{Outcome, code_of}
use Rattle.collection_store.specs.declared.operation.Reply.{Reply}
use Rattle.collection_store.specs.Applied.{Applied, applied}
use Rattle.history_model.specs.declared.entry.Entry.TheVariants as entry
use Rattle.history_model.specs.History.{max_kept}
use Rattle.history_log.specs.declared.log.Logged.{Logged}
use Rattle.history_log.specs.Entries.{told_operation}
use Rattle.history_log.specs.Log.{settled}
use Rattle.store_machine.specs.declared.fault.AdminFault.{AdminFault}
use Rattle.store_machine.specs.declared.parts.Parts.{Parts}
use Rattle.store_machine.specs.State.{refusal_of, by_answer, by_operation, AdminGives}
use Rattle.store_machine.specs.Standing.{seen}
use Rattle.store_machine.proofs.Standings.{bounds, stand_same, taken_back, seen_same, on_err}
use Rattle.store_machine.proofs.Operating.{answer_seen, operation_fits, operates, IsMade, refused_gives}
use Rattle.store_machine.proofs.making.make_told.Goals as goal

pub overflow_sub-room : goal.overflow_sub-room
overflow_sub-room c = omega (arith, (bounds c.args.app.now c.args.parts.now c.requires.stands).0)

pub settle-requires : goal.settle-requires
settle-requires c =
    operation_fits c.args.app.now c.args.parts.now (told_operation c.args.text.now) c.args.operation.now (applied_as c.apply.new.self.rows c.in-Ok.reply) c.requires.stands c.requires.reads c.in-Ok.ensures.gives c.requires.free

pub returns-in-Ok : goal.returns-in-Ok
returns-in-Ok c =
    let app = c.args.app.now in
    let p = c.args.parts.now in
    let op = told_operation c.args.text.now in
    let reply = c.in-Ok.reply in
    let q : Parts = record { store = c.apply.new.self; calls = p.calls; log = settled c.push_told.new.self reply.changes; kept = p.kept + new_bytes reply.changes; reserved = p.reserved } in
    let made = operates app p q op c.args.operation.now (applied_as c.apply.new.self.rows reply) c.requires.stands c.requires.reads c.in-Ok.ensures.gives c.requires.free c.apply.ensures.names refl (λ q. refl) (ap (λ (ls : List Logged). settled ls reply.changes) c.in_ok-push_told.ensures.ok) refl refl in
    let is = subst (λ (x : Parts). IsMade app p x op c.args.operation.now) (sym c.settle.ensures) made in
    record { stands = is.stands; gives = is.answer; refused = tt }

pub returns-in-Err : goal.returns-in-Err
returns-in-Err c =
    let app = c.args.app.now in
    let p = c.args.parts.now in
    let op = told_operation c.args.text.now in
    let o = c.args.operation.now in
    let q : Parts = record p { store = c.apply.new.self; log = c.pop.new.self } in
    let back = taken_back p.log c.push_told.new.self c.pop.new.self (record { entry = entry.Admin op; changes = [] }) c.in_ok-push_told.ensures.ok c.pop.ensures in
    let told = refused_gives {T = Reply} {X = Unit {0}} (λ u. seen app q) (λ (reply : Reply). applied_as c.apply.new.self.rows reply) (seen app p) op c.in-Err.fault (applied p.store.names p.store.rows o (max_kept - p.kept)) c.in-Err.ensures.gives in
    let seen_so = subst (λ (r : Outcome Applied). AdminGives {T = Unit {0}} (λ u. seen app q) (Err (refusal_of (code_of c.in-Err.fault))) (by_answer (seen app p) op r)) (sym (answer_seen app p o c.requires.stands)) told in
    record {
      stands = stand_same app p q c.requires.stands c.in-Err.ensures.refused (λ q. refl) back refl refl;
      gives = subst (λ (e : AdminFault). AdminGives {T = Unit {0}} (λ u. seen app q) (Err e) (by_operation (seen app p) op (Some o))) (sym c.refusal_of.ensures) seen_so;
      refused = seen_same app p q back;
    }

pub returns-in_err-push_told-clause-stands : goal.returns-in_err-push_told-clause-stands
returns-in_err-push_told-clause-stands c = stand_same c.args.app.now c.args.parts.now (record c.args.parts.now { log = c.push_told.new.self }) c.requires.stands refl (λ q. refl) c.in_err-push_told.ensures.err refl refl

pub returns-in_err-push_told-clause-refused : goal.returns-in_err-push_told-clause-refused
returns-in_err-push_told-clause-refused c = on_err c.from_residual.result (seen_same c.args.app.now c.args.parts.now (record c.args.parts.now { log = c.push_told.new.self }) c.in_err-push_told.ensures.err)
