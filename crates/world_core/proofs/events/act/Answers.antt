use Rattle.std.specs.Prelude.{ℕ, List, None, Ok}
use Rattle.std.proofs.Common.{sym, subst, ◌∙◌}
use Rattle.std.proofs.lemmas.Result.{err_from_is_err_and}
use Rattle.world_core.specs.store_machine.State.{MachineState}
use Rattle.world_core.specs.world_model.declared.events.Answer.TheVariants as answer
use Rattle.world_core.specs.connection_laws.Connection.{IsConnection}
use Rattle.world_core.specs.Kept.{seen}
use Rattle.world_core.specs.Clients.{Acts}
use Rattle.lanes.specs.LentLaws.{written_visit}
use Rattle.world_core.proofs.ShowingLemmas.{ready_client, names_none}
use Rattle.world_core.proofs.ActingLemmas.{no_act_happens, acted_happens, acted_left}
use Rattle.world_core.proofs.events.act.Goals as goal

pub returns-in_default : goal.returns-in_default
returns-in_default c = no_act_happens (seen c.args.inside.now) c.requires.world c.args.client.now c.args.event.now c.requires.acts c.asked.result c.in_default.ensures c.asked.ensures

pub act-requires-clause-connection : goal.act-requires-clause-connection
act-requires-clause-connection c =
    let x = seen c.args.inside.now in
    let lent = c.in-Some-get_mut.connection.now in
    let is = (ready_client x c.requires.world c.args.client.now lent c.in-Some-get_mut.ensures.value).connection in
    subst (λ (n : List ℕ). IsConnection x.app n x.history lent) (sym is.named) is

pub act-requires-clause-served : goal.act-requires-clause-served
act-requires-clause-served c = (ready_client (seen c.args.inside.now) c.requires.world c.args.client.now c.in-Some-get_mut.connection.now c.in-Some-get_mut.ensures.value).served

pub returns-in_ok-answer-in-Some-get_mut : goal.returns-in_ok-answer-in-Some-get_mut
returns-in_ok-answer-in-Some-get_mut c =
    let x = seen c.args.inside.now in
    let m : MachineState = record { app = x.app; history = x.history } in
    let name = c.args.client.now in
    let act = c.in-Some.act in
    let after = c.act.new.self in
    let put = c.get_mut.follows.lender after in
    let answered = c.in_ok-answer-in-Some-get_mut.answer in
    let refusal = c.in_ok-answer-in-Some-get_mut.refusal in
    let t = written_visit (Acts act m) (m, Ok (answer.Idle, None)) x.conns put name c.in-Some-get_mut.connection.now after (c.act.new.machine, Ok (answered, refusal)) c.in-Some-get_mut.ensures.value (c.get_mut.follows.holds after) c.in_ok-answer-in-Some-get_mut.ensures in
    acted_happens x c.requires.world name c.args.event.now c.requires.acts act c.in-Some.ensures c.act.new.machine put c.put.new.self c.in_ok-put.ensures.ok answered refusal t c.told.result c.told.ensures

pub returns-in_err-answer-in-Some-get_mut : goal.returns-in_err-answer-in-Some-get_mut
returns-in_err-answer-in-Some-get_mut c =
    let x = seen c.args.inside.now in
    let m : MachineState = record { app = x.app; history = x.history } in
    let name = c.args.client.now in
    let act = c.in-Some.act in
    let after = c.act.new.self in
    let put = c.get_mut.follows.lender after in
    let p = err_from_is_err_and c.from_residual-in_err-answer-in-Some-get_mut.result c.from_residual-in_err-answer-in-Some-get_mut.ensures.1 in
    let t = written_visit (Acts act m) (m, Ok (answer.Idle, None)) x.conns put name c.in-Some-get_mut.connection.now after (c.act.new.machine, _) c.in-Some-get_mut.ensures.value (c.get_mut.follows.holds after) c.in_err-answer-in-Some-get_mut.ensures in
    rw p.1 (acted_left x c.requires.world name c.args.event.now c.requires.acts act c.in-Some.ensures c.act.new.machine put c.put.new.self c.in_ok-put.ensures.ok _ t)

pub returns-in-None : goal.returns-in-None
returns-in-None c = cc (c.in-Some.ensures ∙ sym (names_none (seen c.args.inside.now) c.requires.world c.args.client.now c.in-None.ensures.value c.args.event.now))
