use Rattle.io_tests.proofs.passes.first_lengths_of_new.Given as goal

abbrev pub ghosts-first_lengths : goal.ghosts-first_lengths
ghosts-first_lengths a = record { log = a.opened }
