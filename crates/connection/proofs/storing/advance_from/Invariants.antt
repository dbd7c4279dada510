use Rattle.connection.proofs.storing.advance_from.Given as goal

abbrev pub ghosts-advance_by : goal.ghosts-advance_by
ghosts-advance_by a = record { name = a.blank.name; parts = a.blank.parts }
