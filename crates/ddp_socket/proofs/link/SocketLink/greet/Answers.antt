use Rattle.std.proofs.Common.{rules, refl}
use Rattle.ddp_socket.proofs.link.SocketLink.greet.Goals as goal

pub returns-in-Ok-clause-answer : goal.returns-in-Ok-clause-answer
returns-in-Ok-clause-answer g c = (c.in-Ok.socket, search rules, search rules, refl)
