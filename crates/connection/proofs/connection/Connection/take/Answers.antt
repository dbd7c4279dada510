use Rattle.std.proofs.Common.{rules, sym}
use Rattle.std.proofs.Common.{refl}
use Rattle.connection.proofs.Moves.{within_next}
use Rattle.connection.proofs.Sides.{take_none, take_done, take_broken, take_kept}
use Rattle.connection.proofs.connection.Connection.take.Goals as goal

pub returns-in_default : goal.returns-in_default
returns-in_default c =
    rw (← c.self.view_is) ((take_none c.self.inside.side c.self.invariant (sym c.in_default.ensures), refl))

pub pass-requires : goal.pass-requires
pass-requires c = within_next c.self.inside.side.downward.taken c.self.inside.side.downward.texts.items c.in-Some.text.now (sym c.in-Some.ensures)

pub pass-requires-in-Err-ServerSent : goal.pass-requires-in-Err-ServerSent
pass-requires-in-Err-ServerSent c = within_next c.self.inside.side.downward.taken c.self.inside.side.downward.texts.items c.in-Some.text.now (sym c.in-Some.ensures)

pub invariant_of-self : goal.invariant_of-self
invariant_of-self c = take_kept c.self.inside.side c.self.invariant c.in-Some.text.now (search rules) (sym c.in-Some.ensures) c.take.new.self c.pass.new.self c.pass.ensures

pub returns-in-Ok : goal.returns-in-Ok
returns-in-Ok c =
    rw (← c.self.view_is) (take_done c.self.inside.side c.self.invariant c.in-Some.text.now (search rules) (sym c.in-Some.ensures) c.take.new.self c.pass.new.self c.pass.ensures tt c.in-Ok.ensures)

pub invariant_of-self-in-Err-ServerSent : goal.invariant_of-self-in-Err-ServerSent
invariant_of-self-in-Err-ServerSent c = take_kept c.self.inside.side c.self.invariant c.in-Some.text.now (search rules) (sym c.in-Some.ensures) c.take.new.self c.pass-in-Err-ServerSent.new.self c.pass-in-Err-ServerSent.ensures

pub returns-in-Err-ServerSent : goal.returns-in-Err-ServerSent
returns-in-Err-ServerSent c =
    rw (← c.self.view_is) (take_broken c.self.inside.side c.self.invariant c.in-Some.text.now (search rules) (sym c.in-Some.ensures) c.take.new.self c.pass-in-Err-ServerSent.new.self c.pass-in-Err-ServerSent.ensures c.in-Err-ServerSent.number (rw c.in-Err-ServerSent.field-0-is at c.in-Err-ServerSent.ensures))
