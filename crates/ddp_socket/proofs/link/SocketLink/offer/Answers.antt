use Rattle.std.proofs.Common.{refl, inl}
use Rattle.ddp_socket.proofs.link.SocketLink.offer.Goals as goal

pub returns-in-Taken-clause-taken : goal.returns-in-Taken-clause-taken
returns-in-Taken-clause-taken g c = rw c.in-Open.is (c.say.new.socket, c.in-Taken.ensures, refl)

pub returns-in-Waits-clause-refused : goal.returns-in-Waits-clause-refused
returns-in-Waits-clause-refused g c = rw c.in-Open.is (c.say.new.socket, c.in-Waits.ensures, refl)

pub returns-in-NoMemory-clause-refused : goal.returns-in-NoMemory-clause-refused
returns-in-NoMemory-clause-refused g c = rw c.in-Open.is (inl (c.say.new.socket, c.in-NoMemory.ensures, refl))
