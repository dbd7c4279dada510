use Rattle.ddp_socket.proofs.link.SocketLinkLink.poll.Goals as goal

pub returns-in-Open-clause-listens : goal.returns-in-Open-clause-listens
returns-in-Open-clause-listens g c =
    rw c.in-Open.is (c.listen-turn.new.socket, c.listen-turn.result, c.listen-turn.ensures, c.settle.ensures.answer)
