-- Why a message is refused.
use Rattle.std.specs.Prelude.{◌≡◌, ℕ}
use Rattle.method_queue.specs.Queue.{Queue, IsFull}
use Rattle.method_queue.specs.declared.fault.PushFault.{PushFault}
use Rattle.method_queue.specs.declared.fault.PushFault.TheVariants.{Full, Memory}

-- `Full` comes where the queue is full, with its limit, and only elsewhere is memory wanting
abbrev pub IsCause : Queue → ℕ → PushFault → Type 0
IsCause q bytes (Full limit) = IsFull q bytes × (limit ≡ q.limit)
IsCause q bytes Memory = ¬ IsFull q bytes
