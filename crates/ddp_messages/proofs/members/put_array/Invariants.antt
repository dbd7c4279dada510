use Rattle.std.proofs.Common.{◌≡◌, ◌++◌, drop}
use Rattle.ejson_codec.specs.Tokens.{elements_tokens}
use Rattle.ddp_messages.specs.Written.{text_items}
use Rattle.ddp_messages.proofs.members.put_array.Given as goal

abbrev pub invariant-loop-text : goal.invariant-loop-text
invariant-loop-text l = l.out ++ elements_tokens (text_items (drop l.text-index l.text-items)) ≡ l.initial.out ++ elements_tokens (text_items l.text-items)
