use Rattle.std.proofs.Common.{Some, sym, ap, ◌∙◌}
use Rattle.ejson_codec.specs.Base64Laws.{bytes_of_decoded, bytes_of_refused}
use Rattle.ejson_codec.proofs.base64_text.decoded.Goals as goal

pub returns-in-Ok : goal.returns-in-Ok
returns-in-Ok c =
    let found = c.in-Ok.ensures in
    ap Some c.from_vec.ensures ∙ sym (bytes_of_decoded c.args.text.now c.in-Ok.bytes.items found.decoded found.encoded found.bytes)

pub returns-in-Err-DecodeError : goal.returns-in-Err-DecodeError
returns-in-Err-DecodeError c =
    let refused = rw c.in-Err-DecodeError.field-0-is at c.in-Err-DecodeError.ensures.refused in
    sym (bytes_of_refused c.args.text.now c.in-Err-DecodeError.field-0-0 refused)
