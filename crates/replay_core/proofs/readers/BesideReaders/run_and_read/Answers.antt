use denote.Param.Send.{sendable}
use Rattle.std.proofs.Crossing as std
use Rattle.std.proofs.MapsCrossing as maps
use Rattle.replay_core.proofs.Sends.{line_send}
use Rattle.replay_core.proofs.readers.BesideReaders.run_and_read.Goals as goal

pub join_mut-one-requires-send-F : goal.join_mut-one-requires-send-F
join_mut-one-requires-send-F g c κs within = search (line_send, maps.crosses, std.crosses, sendable) depth 60 fits 20000

pub join_mut-one-requires-send-A : goal.join_mut-one-requires-send-A
join_mut-one-requires-send-A g c κs within = search (line_send, maps.crosses, std.crosses, sendable) depth 60 fits 20000
