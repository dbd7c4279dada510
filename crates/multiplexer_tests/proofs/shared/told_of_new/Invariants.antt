use Rattle.multiplexer_tests.proofs.shared.told_of_new.Given as goal

abbrev pub ghosts-told_to_two-N-Ledger : goal.ghosts-told_to_two-N-Ledger
ghosts-told_to_two-N-Ledger g a = record { name = a.blank.name; parts = a.blank.parts }

abbrev pub ghosts-told_to_two-N-LogName : goal.ghosts-told_to_two-N-LogName
ghosts-told_to_two-N-LogName g a = record { log = a.opened }

abbrev pub ghosts-told_to_two-N-StoreName : goal.ghosts-told_to_two-N-StoreName
ghosts-told_to_two-N-StoreName g a = record { app = a.app.now }
