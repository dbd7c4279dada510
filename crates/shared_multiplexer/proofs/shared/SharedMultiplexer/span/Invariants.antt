use Rattle.shared_multiplexer.proofs.shared.SharedMultiplexer.span.Given as goal

abbrev pub ghosts-span_by : goal.ghosts-span_by
ghosts-span_by g a = record { name = a.blank.name; parts = a.blank.parts }
