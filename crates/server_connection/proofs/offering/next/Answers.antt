use Rattle.std.proofs.Common.{rules}
use Rattle.server_connection.proofs.Events.{stays_same, send_stays}
use Rattle.server_connection.proofs.Offers.{back_next, sent_next}
use Rattle.server_connection.proofs.offering.next.Goals as goal

pub returns-in-Some-clause-some : goal.returns-in-Some-clause-some
returns-in-Some-clause-some g c = back_next c.args.session.now c.args.desk.now c.take.new.self c.in-Some.text (search rules) (search rules)

pub returns-in-Some-clause-stays : goal.returns-in-Some-clause-stays
returns-in-Some-clause-stays g c = stays_same c.args.session.now

pub returns-in-None-clause-some : goal.returns-in-None-clause-some
returns-in-None-clause-some g c = sent_next c.args.session.now c.send.new.self c.args.desk.now c.take.new.self c.send.result (search rules) (search rules) c.send.ensures

pub returns-in-None-clause-stays : goal.returns-in-None-clause-stays
returns-in-None-clause-stays g c = send_stays c.args.session.now c.send.new.self c.send.result c.send.ensures
