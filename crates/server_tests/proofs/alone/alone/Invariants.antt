use Rattle.server_tests.proofs.alone.alone.Given as goal

abbrev pub ghosts-alone_at-N-Ledger : goal.ghosts-alone_at-N-Ledger
ghosts-alone_at-N-Ledger g a = record { name = a.blank.name; parts = a.blank.parts }

abbrev pub ghosts-alone_at-N-LogName : goal.ghosts-alone_at-N-LogName
ghosts-alone_at-N-LogName g a = record { log = a.opened }

abbrev pub ghosts-alone_at-N-StoreName : goal.ghosts-alone_at-N-StoreName
ghosts-alone_at-N-StoreName g a = record { app = a.app.now }
