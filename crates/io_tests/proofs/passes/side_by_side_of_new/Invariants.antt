use Rattle.io_tests.proofs.passes.side_by_side_of_new.Given as goal

abbrev pub ghosts-side_by_side : goal.ghosts-side_by_side
ghosts-side_by_side g a = record { log = a.opened }
