-- What a `MethodQueue` keeps.
use Rattle.std.specs.Prelude.{◌≡◌, ◌<◌, map, IsTrue}
use Rattle.std.specs.FinSet as set
use Rattle.std.specs.HashSet.{spare}
use Rattle.ddp_messages.specs.ClientMessage.{client_view}
use Rattle.method_queue.specs.Queue.{Queue, Waiting, waiting_bytes, IsWithin}
use Rattle.method_queue.specs.declared.queue.Entry.{Entry}
use Rattle.method_queue.specs.declared.queue.MethodQueue.TheInside.{Inside}

abbrev pub waiting_of : Entry → Waiting
waiting_of e = record { message = client_view e.message; bytes = e.bytes }

abbrev pub queue_of : Inside → Queue
queue_of a = record {
  limit = a.limit;
  waiting = map waiting_of a.waiting.items;
  running = set.from_list a.running.keys;
  blocks = a.blocks;
  has_room = a.has_room;
}

-- the queue is within its limits, `bytes` is the sum of what waits, and the room that is promised is there
pub record IsKept (a : Inside) : Type 0 where
  pub within : IsWithin (queue_of a)
  pub sum : a.bytes ≡ waiting_bytes (queue_of a)
  pub room : IsTrue a.has_room → 0 < spare a.running
