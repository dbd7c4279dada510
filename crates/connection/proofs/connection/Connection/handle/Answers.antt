use Rattle.connection.proofs.Sides.{handle_done}
use Rattle.connection.proofs.connection.Connection.handle.Goals as goal

pub returns : goal.returns
returns c = rw (← c.self.view_is) (handle_done c.self.inside.side c.self.invariant c.handle.new.self tt c.in-Ok.ensures)
