use Rattle.store_thread_tests.proofs.told.tell_of_new.Given as goal

abbrev pub ghosts-tell-N-Ledger : goal.ghosts-tell-N-Ledger
ghosts-tell-N-Ledger g a = record { name = a.blank.name; parts = a.blank.parts }

abbrev pub ghosts-tell-N-LogName : goal.ghosts-tell-N-LogName
ghosts-tell-N-LogName g a = record { log = a.opened }

abbrev pub ghosts-tell-N-StoreName : goal.ghosts-tell-N-StoreName
ghosts-tell-N-StoreName g a = record { app = a.app.now }
