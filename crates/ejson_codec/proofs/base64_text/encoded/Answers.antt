use Rattle.ejson_codec.specs.Base64.{base64}
use Rattle.ejson_codec.proofs.base64_text.encoded.Goals as goal

pub returns : goal.returns
unfolding base64
returns c = c.in_ok-encode.ensures.text
