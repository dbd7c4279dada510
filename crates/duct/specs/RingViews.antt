-- What stands behind an end of a ring: the producer of one way and the consumer of the other.
use Rattle.std.specs.Prelude.{◌≡◌, ℕ, ◌+◌, ◌-◌, ◌<◌, ◌≤◌, Bool, false, List, [], Option, length, if◌then◌else◌}
use Rattle.std.specs.declared.alloc.Global.{Global}
use Rattle.rtrb.specs.declared.AnyItems.{AnyItems}
use Rattle.rtrb.specs.declared.producer.Producer.{Producer}
use Rattle.rtrb.specs.declared.consumer.Consumer.{Consumer}
use Rattle.rtrb.specs.Ring.{sent, received, known_free, known_items, producer_capacity}
use Rattle.duct.specs.Marked.{texts_of, has_mark}
use Rattle.duct.specs.Rings.{Way, RingEnd}

abbrev pub Item : Type 0
Item = Option (List ℕ)

abbrev pub way_out : Producer Item Global AnyItems → Way
way_out p = record { words = p.end.words; slots = p.end.slots; names = p.end.names; heap = p.end.heap }

abbrev pub way_in : Consumer Item Global AnyItems → Way
way_in c = record { words = c.end.words; slots = c.end.slots; names = c.end.names; heap = c.end.heap }

-- behind the mark no text is known to wait
abbrev pub waiting_of : Bool → List Item → List (List ℕ)
waiting_of ended items = if ended then [] else texts_of items

-- one free place is kept for the mark
abbrev pub places_of : Bool → ℕ → ℕ
places_of closed free = if closed then 0 else free - 1

abbrev pub end_of : Producer Item Global AnyItems → Consumer Item Global AnyItems → Bool → Bool → RingEnd
end_of out inn closed ended = record {
  out = way_out out;
  inn = way_in inn;
  sent = texts_of (sent out);
  taken = texts_of (received inn);
  known = waiting_of ended (known_items inn);
  slots = places_of closed (known_free out);
  closed = closed;
  ended = ended;
}

-- how many marks were put
abbrev pub marks : Bool → ℕ
marks closed = if closed then 1 else 0

pub record IsEnd (out : Producer Item Global AnyItems) (inn : Consumer Item Global AnyItems) (closed ended : Bool) : Type 0 where
  pub closed_is : closed ≡ has_mark (sent out)
  pub ended_is : ended ≡ has_mark (received inn)
  pub kept : closed ≡ false → 0 < known_free out
  pub counted : length (texts_of (sent out)) + marks closed ≡ length (sent out)
  pub small : producer_capacity out ≤ 4097
