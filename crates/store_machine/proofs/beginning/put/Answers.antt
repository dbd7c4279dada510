use Rattle.std.proofs.Common.{ap, ◌∙◌}
use Rattle.map_model.specs.Maps.{at}
use Rattle.map_model.specs.MapLaws.{at-put}
use Rattle.history_model.specs.History.{run_cmp}
use Rattle.history_model.specs.HistoryLaws.{run_order}
use Rattle.store_machine.proofs.beginning.put.Goals as goal

pub returns-clause-put : goal.returns-clause-put
returns-clause-put c = λ q. ap (λ es. at run_cmp es q) c.in_ok-insert.ensures.entries ∙ at-put run_order c.args.calls.now.entries (c.args.session, c.args.k) c.args.called q
