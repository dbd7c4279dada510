use Rattle.drive_script.proofs.Grown.{taken_sorted, acted_by, sorted_by}
use Rattle.drive_script.proofs.script.act.Goals as goal

pub returns-clause-acts : goal.returns-clause-acts
returns-clause-acts c =
    acted_by c.put_in.result c.args.clients.now.entries c.take_out-script.new.clients.entries c.put_in.new.clients.entries c.args.client c.args.line c.take_out-script.result c.in_ok-script.script
    c.requires c.take_out-script.ensures.value c.take_out-script.ensures.removed c.in_ok-script.ensures c.put_in.ensures.ok

pub returns-clause-sorted : goal.returns-clause-sorted
returns-clause-sorted c =
    sorted_by c.put_in.result c.take_out-script.new.clients.entries c.put_in.new.clients.entries c.args.client c.in_ok-script.script
    (taken_sorted c.args.clients.now.entries c.take_out-script.new.clients.entries c.args.client c.requires c.take_out-script.ensures.removed) c.put_in.ensures.ok c.put_in.ensures.err
