use Rattle.server_run.proofs.timing.serve_timed.Given as goal

abbrev pub ghosts-serve_named_timed-N-Ledger : goal.ghosts-serve_named_timed-N-Ledger
ghosts-serve_named_timed-N-Ledger g a = record { name = a.blank.name; parts = a.blank.parts }

abbrev pub ghosts-serve_named_timed-N-LogName : goal.ghosts-serve_named_timed-N-LogName
ghosts-serve_named_timed-N-LogName g a = record { log = a.opened }

abbrev pub ghosts-serve_named_timed-N-StoreName : goal.ghosts-serve_named_timed-N-StoreName
ghosts-serve_named_timed-N-StoreName g a = record { app = a.app.now }
