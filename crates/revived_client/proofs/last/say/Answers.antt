use Rattle.revived_client.proofs.Catching.{waits_text, waits_says, waits_next, last_text, last_says, last_next, none_text, none_says, none_next, says_broken}
use Rattle.revived_client.proofs.last.say.Goals as goal

pub returns-in-Some : goal.returns-in-Some
returns-in-Some c = record {
  text = waits_text c.args.reviver.now c.said.new.self c.args.last.now c.said.result c.in-Some.text c.requires c.said.ensures.text c.in-Some.is;
  says = waits_says c.args.reviver.now c.said.new.self c.args.last.now c.said.result c.in-Some.text c.requires c.said.ensures.text c.in-Some.is c.said.ensures.says;
  next = waits_next c.args.reviver.now c.said.new.self c.args.last.now c.said.result c.in-Some.text c.requires c.said.ensures.text c.in-Some.is c.said.ensures.says;
  broken = says_broken c.args.reviver.now c.said.new.self c.said.ensures.says;
}

pub returns-in-Some-last : goal.returns-in-Some-last
returns-in-Some-last c = record {
  text = last_text c.args.reviver.now c.said.new.self c.args.last.now c.in-Some-last.last c.said.result c.take.result c.requires c.in-Some-last.is c.said.ensures.text c.in_default.is c.take.ensures.value;
  says = last_says c.args.reviver.now c.said.new.self c.args.last.now c.in-Some-last.last c.said.result c.take.new.self c.requires c.in-Some-last.is c.said.ensures.text c.in_default.is c.said.ensures.says c.take.ensures.after;
  next = last_next c.args.reviver.now c.said.new.self c.args.last.now c.in-Some-last.last c.said.result c.take.new.self c.requires c.in-Some-last.is c.said.ensures.text c.in_default.is c.said.ensures.says c.take.ensures.after;
  broken = says_broken c.args.reviver.now c.said.new.self c.said.ensures.says;
}

pub returns-in-None : goal.returns-in-None
returns-in-None c = record {
  text = none_text c.args.reviver.now c.args.last.now c.said.result c.in-None.is c.said.ensures.text c.in_default.is;
  says = none_says c.args.reviver.now c.said.new.self c.args.last.now c.in-None.is c.said.ensures.says;
  next = none_next c.said.new.self c.args.last.now c.in-None.is;
  broken = says_broken c.args.reviver.now c.said.new.self c.said.ensures.says;
}
