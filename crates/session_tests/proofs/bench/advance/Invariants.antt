use Rattle.session_tests.proofs.bench.advance.Given as goal

abbrev pub ghosts-advance_by : goal.ghosts-advance_by
ghosts-advance_by a = record { name = a.blank.name; parts = a.blank.parts }
