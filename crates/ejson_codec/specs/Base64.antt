-- Base64 (RFC 4648, section 4: the alphabet with `+` and `/`, padded with `=`), and the bytes that a text is the encoding of.
use Rattle.std.specs.Prelude.{ℕ, List, ◌&&◌, bytes_eq, nat_lt, Option, Some, None, Result, Ok, Err, if◌then◌else◌}
use Rattle.std.specs.List.{list_all}
use Rattle.base64.specs.Engines.{standard}
use Rattle.base64.specs.GeneralPurpose.{encode_of, decode_of}
use Rattle.base64.specs.declared.decode.DecodeError.{DecodeError}

-- the base64 text of these bytes
unfoldable pub base64 : List ℕ → List ℕ
base64 bytes = encode_of standard bytes

-- these bytes, if they are bytes and the text is exactly their encoding
abbrev pub if_encoded : List ℕ → Result (List ℕ) DecodeError → Option (List ℕ)
if_encoded text (Ok bytes) = if bytes_eq text (encode_of standard bytes) && list_all (λ b. nat_lt b 256) bytes then Some bytes else None
if_encoded text (Err e) = None

-- the bytes that have this base64 text, if there are any
unfoldable pub bytes_of : List ℕ → Option (List ℕ)
bytes_of text = if_encoded text (decode_of standard text)
