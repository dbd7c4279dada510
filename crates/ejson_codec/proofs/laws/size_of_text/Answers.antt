use Rattle.ejson_codec.specs.SizeLaws.{size-written}
use Rattle.ejson_codec.proofs.laws.size_of_text.Goals as goal

pub returns : goal.returns
returns c = size-written
