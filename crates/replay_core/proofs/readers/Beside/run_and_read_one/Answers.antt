use denote.Param.Send.{sendable}
use Rattle.std.proofs.Crossing as std
use Rattle.std.proofs.MapsCrossing as maps
use Rattle.replay_core.proofs.Sends.{line_send}
use Rattle.replay_core.proofs.readers.Beside.run_and_read_one.Goals as goal

pub join_mut-read-requires-send-F : goal.join_mut-read-requires-send-F
join_mut-read-requires-send-F g c κs within = search (maps.crosses, std.crosses, sendable) depth 60 fits 20000

pub join_mut-read-requires-send-A : goal.join_mut-read-requires-send-A
join_mut-read-requires-send-A g c κs within = search (line_send, maps.crosses, std.crosses, sendable) depth 60 fits 20000
