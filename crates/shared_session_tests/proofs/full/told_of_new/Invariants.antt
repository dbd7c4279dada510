use Rattle.shared_session_tests.proofs.full.told_of_new.Given as goal

abbrev pub ghosts-told_by_two-N-Ledger : goal.ghosts-told_by_two-N-Ledger
ghosts-told_by_two-N-Ledger g a = record { name = a.blank.name; parts = a.blank.parts }

abbrev pub ghosts-told_by_two-N-LogName : goal.ghosts-told_by_two-N-LogName
ghosts-told_by_two-N-LogName g a = record { log = a.opened }

abbrev pub ghosts-told_by_two-N-StoreName : goal.ghosts-told_by_two-N-StoreName
ghosts-told_by_two-N-StoreName g a = record { app = a.app.now }
