use Rattle.ejson_codec.specs.CompactLaws.{read-compact_text}
use Rattle.ddp_messages.proofs.compact_texts_read_back.Goals as goal

pub returns : goal.returns
returns c = read-compact_text
