use Rattle.std.proofs.Common.{◌∷◌, ap, ◌∙◌}
use Rattle.json.specs.Reads.{token_of}
use Rattle.ddp_messages.proofs.PlaceLaws.{text_stands}
use Rattle.ddp_messages.proofs.told.tell_text.Goals as goal

pub returns-in-Some-String-clause-read : goal.returns-in-Some-String-clause-read
returns-in-Some-String-clause-read c =
    let rest = c.next.new.self in
    text_stands c.args.reader.now rest c.in-Some-String.text (c.in-Some-String.ensures.value ∙ ap (λ t. token_of t ∷ rest) c.in-Some-String.field-0-is)
