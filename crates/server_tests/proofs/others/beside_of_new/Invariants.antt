use Rattle.server_tests.proofs.others.beside_of_new.Given as goal

abbrev pub ghosts-beside-N-Ledger : goal.ghosts-beside-N-Ledger
ghosts-beside-N-Ledger g a = record { name = a.blank.name; parts = a.blank.parts }

abbrev pub ghosts-beside-N-LogName : goal.ghosts-beside-N-LogName
ghosts-beside-N-LogName g a = record { log = a.opened }

abbrev pub ghosts-beside-N-StoreName : goal.ghosts-beside-N-StoreName
ghosts-beside-N-StoreName g a = record { app = a.app.now }
