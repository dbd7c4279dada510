use Rattle.io_tests.proofs.passes.later_lengths_of_new.Given as goal

abbrev pub ghosts-later_lengths : goal.ghosts-later_lengths
ghosts-later_lengths a = record { log = a.opened }
