use Rattle.multiplexer_tests.proofs.once.ask.Given as goal

abbrev pub ghosts-ask_by : goal.ghosts-ask_by
ghosts-ask_by a = record { name = a.blank.name; parts = a.blank.parts }
