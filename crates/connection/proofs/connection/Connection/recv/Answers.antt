use Rattle.std.specs.Prelude.{Result, Ok}
use Rattle.std.proofs.Common.{sym, subst}
use Rattle.ejson_value.specs.declared.memory.Mem.{Mem}
use Rattle.connection.specs.world_model.declared.events.Act.TheVariants as act
use Rattle.connection.specs.world_model.declared.events.Answer.{Answer}
use Rattle.connection.specs.world_model.declared.events.Answer.TheVariants as answer
use Rattle.connection.specs.connection_laws.Connection.{AConnection}
use Rattle.connection.specs.Answers.{Answers}
use Rattle.connection.proofs.Moves.{within_next}
use Rattle.connection.proofs.Sides.{recv_none, recv_done, recv_kept, recv_refused}
use Rattle.connection.proofs.connection.Connection.recv.Goals as goal

pub returns-in_default : goal.returns-in_default
returns-in_default c =
    subst (λ (x : AConnection). Answers act.Recv x x (let r : Result Answer Mem = Ok answer.Idle in r)) c.self.view_is (recv_none c.self.inside.side c.self.invariant (sym c.in_default.ensures))

pub pass-requires : goal.pass-requires
pass-requires c = within_next c.self.inside.side.upward.taken c.self.inside.side.upward.texts.items c.in-Some.text.now (sym c.in-Some.ensures)

pub invariant_of-self : goal.invariant_of-self
invariant_of-self c = recv_kept c.self.inside.side c.self.invariant c.in-Some.text.now (sym c.in-Some.ensures) c.take.new.self c.pass.new.self c.pass.ensures tt c.in-Ok.ensures

pub returns-in-Ok : goal.returns-in-Ok
returns-in-Ok c = rw (← c.self.view_is) (recv_done c.self.inside.side c.self.invariant c.in-Some.text.now (sym c.in-Some.ensures) c.take.new.self c.pass.new.self c.pass.ensures tt c.in-Ok.ensures)

pub returns-in-Err : goal.returns-in-Err
returns-in-Err c = rw (← c.self.view_is) (recv_refused c.self.inside.side c.self.invariant c.in-Some.text.now (sym c.in-Some.ensures) c.take.new.self c.in-Err.fault c.refused.result c.in-Err.ensures c.refused.ensures)
