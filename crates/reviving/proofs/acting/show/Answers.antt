use Rattle.client_core.specs.State.{show_lines}
use Rattle.reviving.proofs.Written.{shown_written}
use Rattle.reviving.proofs.acting.show.Goals as goal

pub returns : goal.returns
returns c =
    shown_written c.add_lines-shown.result c.args.output.now.items c.add_lines-shown.new.output.items c.in_ok-lines.lines (show_lines c.args.client.now.own) c.in_ok-lines.ensures
    c.add_lines-shown.ensures
