use Rattle.store_thread_tests.proofs.joined.begun_of_new.Given as goal

abbrev pub ghosts-begun_by_two-N-Ledger : goal.ghosts-begun_by_two-N-Ledger
ghosts-begun_by_two-N-Ledger g a = record { name = a.blank.name; parts = a.blank.parts }

abbrev pub ghosts-begun_by_two-N-LogName : goal.ghosts-begun_by_two-N-LogName
ghosts-begun_by_two-N-LogName g a = record { log = a.opened }

abbrev pub ghosts-begun_by_two-N-StoreName : goal.ghosts-begun_by_two-N-StoreName
ghosts-begun_by_two-N-StoreName g a = record { app = a.app.now }
