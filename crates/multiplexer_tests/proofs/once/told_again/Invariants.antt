use Rattle.multiplexer_tests.proofs.once.told_again.Given as goal

abbrev pub ghosts-ask_new_twice : goal.ghosts-ask_new_twice
ghosts-ask_new_twice a = record { name = a.blank.name; parts = a.blank.parts }
