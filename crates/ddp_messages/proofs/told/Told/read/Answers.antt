use Rattle.std.proofs.Common.{◌≡◌, ◌∷◌, [], ap, ◌∙◌, rules}
use Rattle.json.specs.Reads.{token_of}
use Rattle.ejson_codec.proofs.PlainTurns.{object_text_read}
use Rattle.ddp_messages.proofs.told.Told.read.Goals as goal

pub returns : goal.returns
returns c =
    let inner = c.next.new.self in
    let rest = c.tell_all.new.reader in
    let none : rest ≡ [] = search rules in
    let all = c.in_ok-tell_all.ensures in
    (all.0, object_text_read c.args.text.now _ inner rest all.0 c.in-Ok.ensures.ok (c.in-Some.ensures.value ∙ ap (λ t. token_of t ∷ inner) c.in-BeginObject.is) none all.1, all.2)
