use Rattle.std.proofs.Common.{◌≡◌, [], rules}
use Rattle.ejson_codec.proofs.PlainTurns.{text_read}
use Rattle.ejson_codec.proofs.plain.parse_plain_in.Goals as goal

pub returns : goal.returns
returns c =
    let none : c.value.new.reader ≡ [] = search rules in
    text_read c.args.text.now _ c.value.new.reader _ c.in-Ok.ensures.ok none c.in_ok-value.ensures.read
