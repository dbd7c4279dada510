use Rattle.ejson_codec.proofs.Members.{first_found}
use Rattle.ejson_codec.proofs.reading.first.Goals as goal

pub returns : goal.returns
returns c = first_found c.args.members.now.entries c.next.result c.values.result c.next.new.self c.values.ensures.rest c.next.ensures.steps
