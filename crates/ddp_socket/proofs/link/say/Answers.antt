use Rattle.ddp_socket.proofs.link.say.Goals as goal
use Rattle.ddp_socket.proofs.link.say.Goals.{in-Nothing-error_turn, in-Memory, in_default-error_turn-2}

pub returns-in-Ok-send : goal.returns-in-Ok-send
returns-in-Ok-send g c =
    (c.flush.new.self, c.flush.ensures.sent, c.in_default.ensures.empty, rw c.in-Ok.ensures at c.in-Ok-send.ensures.wrote)

pub returns-after-error_turn-3 : goal.returns-after-error_turn-3
returns-after-error_turn-3 g c = elim c.match-error_turn-3.branch [
  | in-Nothing-error_turn w ↦ rw w.result-is (
    c.flush.new.self,
    c.flush.ensures.sent,
    c.in_default.ensures.empty,
    rw c.in-Ok.ensures at (c.in-Err-send.ensures.stream_failed (c.error_turn-in-Err-send.ensures.waits w.in-Nothing-error_turn.is)),
  )
  | in-Memory w ↦ rw (w.result-is, c.in-Err-send.ensures.memory (c.error_turn-in-Err-send.ensures.memory w.in-Memory.is)) c.flush.ensures.sent
  | in_default-error_turn-2 w ↦ rw w.result-is tt
]
