use Rattle.timed_tests.proofs.serving.served.Given as goal

abbrev pub ghosts-served_at-N-Ledger : goal.ghosts-served_at-N-Ledger
ghosts-served_at-N-Ledger g a = record { name = a.blank.name; parts = a.blank.parts }

abbrev pub ghosts-served_at-N-LogName : goal.ghosts-served_at-N-LogName
ghosts-served_at-N-LogName g a = record { log = a.opened }

abbrev pub ghosts-served_at-N-StoreName : goal.ghosts-served_at-N-StoreName
ghosts-served_at-N-StoreName g a = record { app = a.app.now }
