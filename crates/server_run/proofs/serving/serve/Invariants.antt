use Rattle.server_run.proofs.serving.serve.Given as goal

abbrev pub ghosts-serve_named-N-Ledger : goal.ghosts-serve_named-N-Ledger
ghosts-serve_named-N-Ledger g a = record { name = a.blank.name; parts = a.blank.parts }

abbrev pub ghosts-serve_named-N-LogName : goal.ghosts-serve_named-N-LogName
ghosts-serve_named-N-LogName g a = record { log = a.opened }

abbrev pub ghosts-serve_named-N-StoreName : goal.ghosts-serve_named-N-StoreName
ghosts-serve_named-N-StoreName g a = record { app = a.app.now }
