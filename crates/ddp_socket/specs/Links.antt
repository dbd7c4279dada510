-- One poll and one send of a link over a WebSocket.
use Rattle.std.specs.Prelude.{◌≡◌, ◌⊎◌, ◌-◌, ◌^◌, ◌==◌, ℕ, List, [], Option, if◌then◌else◌, ⊤, false, Some}
use Rattle.duct.specs.declared.link.Polled.{Polled}
use Rattle.duct.specs.declared.link.Polled.TheVariants as Answer
use Rattle.duct.specs.declared.link.SendFault.{SendFault}
use Rattle.duct.specs.declared.link.SendFault.TheVariants as Refused
use Rattle.duct.specs.Calls.{Call, heard, said, handed_back}
use Rattle.tungstenite.specs.Connection.{Connection, write_step}
use Rattle.tungstenite.specs.Content.{text}
use Rattle.tungstenite.specs.Heads.{Serves, Connected}
use Rattle.tungstenite.specs.Socket.{Socket, Flushed, Writes}
use Rattle.ddp_socket.specs.Turns.{Hears}
use Rattle.ddp_socket.specs.declared.metered.Metered.{Metered}
use Rattle.ddp_socket.specs.declared.turn.Turn.{Turn}
use Rattle.ddp_socket.specs.declared.turn.Turn.TheVariants as On
use Rattle.ddp_socket.specs.declared.turn.Said.{Said}
use Rattle.ddp_socket.specs.declared.turn.Said.TheVariants as Was
use Rattle.ddp_socket.specs.declared.link.State.{State}
use Rattle.ddp_socket.specs.declared.link.State.TheVariants.{Fresh, Open, Closed, Failed}

-- a failure is told as long as it can be counted
abbrev pub fault_answer : ℕ → Polled
fault_answer faults = if faults == 2 ^ 64 - 1 then Answer.Memory else Answer.Failed

abbrev pub fault_refusal : ℕ → SendFault
fault_refusal faults = if faults == 2 ^ 64 - 1 then Refused.Memory else Refused.Failed

-- the most bytes of a message
abbrev pub largest : ℕ
largest = 8388608

-- neither a message nor a frame has more bytes, and each frame of a client is masked
abbrev pub IsBounded : Connection → Type 0
IsBounded conn =
    (conn.config.max_message_size ≡ Some largest) × (conn.config.max_frame_size ≡ Some largest) × (conn.config.accept_unmasked_frames ≡ false)

module _ {S R : Type 0} where
  -- what an open link makes of what it heard
  abbrev pub Settles : ℕ → State S R → Turn → Polled → State S R → Type 0
  Settles faults before (On.Text bytes) answer after = (answer ≡ Answer.Message bytes) × (after ≡ before)
  Settles faults before On.Nothing answer after = (answer ≡ Answer.Quiet) × (after ≡ before)
  Settles faults before On.Memory answer after = (answer ≡ Answer.Memory) × (after ≡ before)
  Settles faults before On.Lost answer after = (answer ≡ Answer.Memory) × (after ≡ Failed)
  Settles faults before (On.Faulty code) answer after = (answer ≡ fault_answer faults) × (after ≡ Failed)
  Settles faults before On.Broken answer after = (answer ≡ fault_answer faults) × (after ≡ Failed)
  Settles faults before _ answer after = (answer ≡ Answer.Closed) × (after ≡ Closed)

  -- the server's handshake: a request was heard and the link is open, at a WebSocket that has read nothing yet; or it has failed
  abbrev pub Greets : ℕ → Polled → State S R → Type 0
  Greets faults Answer.Quiet after =
      (socket : Socket (Metered S)) × Serves socket × IsBounded socket.conn × (after ≡ Open socket)
  Greets faults answer after = ((answer ≡ Answer.Memory) ⊎ (answer ≡ fault_answer faults)) × (after ≡ Failed)

  -- a client's link is open, at a WebSocket whose key a server answered
  abbrev pub IsConnected : State S R → Type 0
  IsConnected (Open socket) = (key : List ℕ) × Connected key socket
  IsConnected _ = ⊥

  -- one poll: the first of a server's link is the handshake, each later one reads the WebSocket; an ended link stays so
  abbrev pub Listens : (S → Option (List ℕ)) → ℕ → State S R → Polled → State S R → Type 0
  Listens remaining faults (Fresh stream) answer after = Greets faults answer after
  Listens remaining faults (Open before) answer after =
      (heard : Socket (Metered S)) × (turn : Turn) × Hears (λ m. remaining m.stream) before heard turn × Settles faults (Open heard) turn answer after
  Listens remaining faults Closed answer after = (answer ≡ Answer.Closed) × (after ≡ Closed)
  Listens remaining faults Failed answer after = (answer ≡ fault_answer faults) × (after ≡ Failed)

module _ {S : Type 0} where
  -- all earlier texts have left a WebSocket, and this one is its next frame
  abbrev pub Frames : (S → Option (List ℕ)) → Socket S → List ℕ → Socket S → Type 0
  Frames contents before bytes after =
      (left : Socket S) × Flushed contents before left × (left.output ≡ []) × Writes contents left after (write_step left.conn (text bytes))

  -- a text that isn't taken leaves a WebSocket as it is, but for earlier ones that left it
  abbrev pub Says : (S → Option (List ℕ)) → Socket S → List ℕ → Said → Socket S → Type 0
  Says contents before bytes Was.Taken after = Frames contents before bytes after
  Says contents before bytes Was.Broken after = ⊤
  Says contents before bytes _ after = Flushed contents before after

module _ {S R : Type 0} where
  -- an open link takes a text
  abbrev pub Takes : (S → Option (List ℕ)) → State S R → List ℕ → State S R → Type 0
  Takes contents (Open before) bytes after =
      (now : Socket (Metered S)) × Frames (λ m. contents m.stream) before bytes now × (after ≡ Open now)
  Takes contents _ bytes after = ⊥

  -- an open link is as it was, but for earlier texts that left it
  abbrev pub Waits : (S → Option (List ℕ)) → Socket (Metered S) → State S R → Type 0
  Waits contents before after = (now : Socket (Metered S)) × Flushed (λ m. contents m.stream) before now × (after ≡ Open now)

  -- why a link hands a text back: before the handshake, and while an earlier text waits, it is full; a failure ends it
  abbrev pub Refuses : (S → Option (List ℕ)) → State S R → SendFault → State S R → Type 0
  Refuses contents (Fresh stream) Refused.Full after = after ≡ Fresh stream
  Refuses contents (Open before) Refused.Full after = Waits contents before after
  Refuses contents (Open before) Refused.Memory after = Waits contents before after ⊎ (after ≡ Failed)
  Refuses contents (Open before) Refused.Failed after = after ≡ Failed
  Refuses contents Closed Refused.Closed after = after ≡ Closed
  Refuses contents Failed Refused.Failed after = after ≡ Failed
  Refuses contents Failed Refused.Memory after = after ≡ Failed
  Refuses contents _ _ after = ⊥

module _ {S R : Type 0} where
  -- what one call makes of a link
  abbrev pub Makes : (S → Option (List ℕ)) → (S → Option (List ℕ)) → ℕ → State S R → Call → State S R → Type 0
  Makes remaining contents faults before (heard answer) after = Listens remaining faults before answer after
  Makes remaining contents faults before (said bytes) after = Takes contents before bytes after
  Makes remaining contents faults before (handed_back bytes fault) after = Refuses contents before fault after
