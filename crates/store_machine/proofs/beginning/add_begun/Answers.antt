use Rattle.std.specs.Prelude.{OnOk}
use Rattle.std.proofs.Common.{◌≡◌, [], ◌∷◌, ◌++◌, subst}
use Rattle.history_model.specs.declared.entry.Entry.{Entry}
use Rattle.store_machine.proofs.beginning.add_begun.Goals as goal

pub returns-clause-log : goal.returns-clause-log
returns-clause-log c = subst (λ (e : Entry). OnOk c.add.result (c.add.new.parts.log ≡ c.args.parts.now.log ++ record { entry = e; changes = [] } ∷ [])) c.in_ok-entry.ensures c.add.ensures.log
