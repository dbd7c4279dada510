use Rattle.std.proofs.Common.{◌≡◌, [], ◌∷◌, ◌++◌, map, true, false, ap, ◌∙◌, rules}
use Rattle.session_state.specs.Kept.{as_run, expanded, goes_on}
use Rattle.session_state.proofs.RunningLemmas.{runs_counted, runs_pushed, lines_counted, lines_pushed}
use Rattle.session_state.proofs.journal.put.Goals as goal

pub returns-then-goes_on-clause-lines : goal.returns-then-goes_on-clause-lines
returns-then-goes_on-clause-lines c =
    let goes : goes_on (map as_run c.args.records.now.items) c.args.line ≡ true = cc in
    ap expanded c.count_on.ensures ∙ lines_counted c.args.records.now.items c.args.line goes

pub returns-then-goes_on-clause-runs : goal.returns-then-goes_on-clause-runs
returns-then-goes_on-clause-runs c =
    let goes : goes_on (map as_run c.args.records.now.items) c.args.line ≡ true = cc in
    ap (map as_run) c.count_on.ensures ∙ runs_counted c.args.records.now.items c.args.line goes

pub returns-else-goes_on-clause-lines : goal.returns-else-goes_on-clause-lines
returns-else-goes_on-clause-lines c =
    let put : c.push.new.self.items ≡ c.args.records.now.items ++ record { line = c.args.line; count = 1 } ∷ [] = search rules in
    ap expanded put ∙ lines_pushed c.args.records.now.items c.args.line

pub returns-else-goes_on-clause-runs : goal.returns-else-goes_on-clause-runs
returns-else-goes_on-clause-runs c =
    let stays : goes_on (map as_run c.args.records.now.items) c.args.line ≡ false = cc in
    let put : c.push.new.self.items ≡ c.args.records.now.items ++ record { line = c.args.line; count = 1 } ∷ [] = search rules in
    ap (map as_run) put ∙ runs_pushed c.args.records.now.items c.args.line stays
