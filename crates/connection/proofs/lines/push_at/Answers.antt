use Rattle.connection.proofs.PrintingLemmas.{no_record, one_record}
use Rattle.connection.proofs.lines.push_at.Goals as goal

pub returns-in-None : goal.returns-in-None
returns-in-None c = no_record c.args.session.now c.args.sent.now c.args.at c.args.place.now c.args.lines.now c.in-None.ensures

pub returns-in-Some : goal.returns-in-Some
returns-in-Some c =
    one_record c.args.session.now c.args.sent.now c.args.at c.in-Some.line.now c.in-Some.times c.args.place.now c.push_record.new.place c.args.lines.now c.push_record.new.lines
    c.push_record.result c.in-Some.ensures c.push_record.ensures
