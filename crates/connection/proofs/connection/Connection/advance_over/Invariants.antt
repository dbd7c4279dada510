use Rattle.connection.proofs.connection.Connection.advance_over.Given as goal

abbrev pub ghosts-advance_by : goal.ghosts-advance_by
ghosts-advance_by a = record { name = a.blank.name; parts = a.blank.parts }
