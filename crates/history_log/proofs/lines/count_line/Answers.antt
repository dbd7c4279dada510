use Rattle.std.proofs.Common.{[], ◌∷◌}
use Rattle.history_model.specs.Lines.{worded, number}
use Rattle.history_log.proofs.Printed.{line_if_printed}
use Rattle.history_log.proofs.lines.count_line.Goals as goal

pub returns : goal.returns
returns c = line_if_printed (worded c.args.word.now (number c.args.count ∷ [])) _ _ _ c.in_ok-out.ensures c.in_ok-put_count.ensures c.finish.ensures
