-- What a read of a WebSocket is to its link (RFC 6455): a text frame is a message.
use Rattle.std.specs.Prelude.{◌≡◌, ◌⊎◌, ℕ, List, Option, Result, Ok, Err}
use Rattle.std.specs.IoError.{error_kind}
use Rattle.std.specs.declared.io.ErrorKind.{ErrorKind}
use Rattle.std.specs.declared.io.ErrorKind.TheVariants.{WouldBlock}
use Rattle.tungstenite.specs.Content.{Content, text, binary, close}
use Rattle.tungstenite.specs.Socket.{Socket, Reads, content_of}
use Rattle.tungstenite.specs.declared.message.Message.{Message}
use Rattle.tungstenite.specs.declared.error.Error.{Error}
use Rattle.tungstenite.specs.declared.error.Error.TheVariants as Cause
use Rattle.ddp_socket.specs.declared.turn.Turn.{Turn}
use Rattle.ddp_socket.specs.declared.turn.Turn.TheVariants.{Text, Nothing, Binary, Closed, Memory, Lost, Faulty, Broken}
use Rattle.websocket.specs.declared.error.ProtocolError.{ProtocolError}
use Rattle.websocket.specs.declared.error.ProtocolError.TheVariants.{ResetWithoutClosingHandshake}
use Rattle.websocket.specs.declared.protocol.frame.coding.CloseCode.TheVariants as code

-- a text is a message, and is lost only for want of memory; what is neither text, bytes nor a close is nothing to a link
abbrev pub MessageIs : Content → Turn → Type 0
MessageIs (text bytes) turn = (turn ≡ Text bytes) ⊎ (turn ≡ Lost)
MessageIs (binary _) turn = turn ≡ Binary
MessageIs (close _) turn = turn ≡ Closed
MessageIs _ turn = turn ≡ Nothing

-- a stream that would block has nothing yet; every other error of it is a failure
abbrev pub stream_turn : ErrorKind → Turn
stream_turn WouldBlock = Nothing
stream_turn _ = Broken

-- a peer that is gone isn't told anything
abbrev pub protocol_turn : ProtocolError → Turn
protocol_turn ResetWithoutClosingHandshake = Broken
protocol_turn _ = Faulty code.Protocol

abbrev pub fault_turn : Error → Turn
fault_turn Cause.ConnectionClosed = Closed
fault_turn Cause.OutOfMemory = Memory
fault_turn (Cause.Io cause) = stream_turn (error_kind cause)
fault_turn (Cause.Protocol cause) = protocol_turn cause
fault_turn Cause.Utf8 = Faulty code.Invalid
fault_turn (Cause.Capacity cause) = Faulty code.Size
fault_turn _ = Broken

abbrev pub TurnIs : Result Message Error → Turn → Type 0
TurnIs (Ok message) turn = MessageIs (content_of message) turn
TurnIs (Err error) turn = turn ≡ fault_turn error

module _ {S : Type 0} where
  -- one read of a WebSocket, of the bytes of its stream where they are known, and what it is to the link
  abbrev pub Hears : (S → Option (List ℕ)) → Socket S → Socket S → Turn → Type 0
  Hears remaining before after turn =
      (read : Result Message Error) × Reads remaining before after read × TurnIs read turn
