use Rattle.ejson_value.specs.View.{view}
use Rattle.ejson_codec.proofs.PlainTurns.{value_text_parsed, value_text_found}
use Rattle.ejson_codec.proofs.texts.parse_in.Goals as goal

pub returns-in-Ok-clause-found : goal.returns-in-Ok-clause-found
returns-in-Ok-clause-found c = value_text_found c.args.text.now (view c.in-Ok.value) c.in-Ok.ensures

pub returns-in-Ok-clause-exact : goal.returns-in-Ok-clause-exact
returns-in-Ok-clause-exact c = value_text_parsed c.args.text.now (view c.in-Ok.value) c.in-Ok.ensures
