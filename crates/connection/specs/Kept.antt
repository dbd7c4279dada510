-- What is kept of a client with its session, as contracts see it.
use Rattle.std.specs.Prelude.{◌≡◌, ◌≤◌, length, take, drop, option_map}
use Rattle.connection.specs.world_model.Conn.{Refusal as ARefusal}
use Rattle.connection.specs.connection_laws.Connection.{AConnection}
use Rattle.connection.specs.declared.side.Refusal.{Refusal}
use Rattle.connection.specs.declared.side.Side.{Side}

abbrev pub as_refusal : Refusal → ARefusal
as_refusal r = record { k = r.k; at = r.at }

-- what was taken off the link to the server went into the session, and what was put onto the link to the client was sent
abbrev pub seen : Side → AConnection
seen a = record {
  own = a.client;
  made_raw = a.made_raw;
  upward = drop a.upward.taken a.upward.texts.items;
  downward = drop a.downward.taken a.downward.texts.items;
  session = a.session;
  received = take a.upward.taken a.upward.texts.items;
  sent = a.downward.texts.items;
  kept = option_map as_refusal a.kept;
  is_dropped = a.is_dropped;
}

-- no more texts were taken off a link than were put there
pub record IsKept (a : Side) : Type 0 where
  pub upward : a.upward.taken ≤ length a.upward.texts.items
  pub downward : a.downward.taken ≤ length a.downward.texts.items
  pub number : a.session.carried.number ≡ a.number
