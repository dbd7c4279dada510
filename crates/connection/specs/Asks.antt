-- Whether a client asks for anything.
use Rattle.std.specs.Prelude.{◌==◌, ◌&&◌, length, Bool, is_none}
use Rattle.connection.specs.session_state.Work.{running_from}
use Rattle.connection.specs.connection_laws.Connection.{AConnection}

-- none of its texts goes up, and no message waits to be handled
abbrev pub says_nothing : AConnection → Bool
says_nothing x = (length x.own.client.waiting == 0) && ((length x.upward == 0) && (length x.session.carried.waiting == 0))

-- and none of its calls blocks or runs
abbrev pub asks_nothing : AConnection → Bool
asks_nothing x = says_nothing x && (is_none x.session.carried.own.blocking && (length (running_from 0 x.session.carried.own.methods) == 0))
