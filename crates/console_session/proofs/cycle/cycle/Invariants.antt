use Rattle.console_session.proofs.cycle.cycle.Given as goal

abbrev pub ghosts-rewind : goal.ghosts-rewind
ghosts-rewind g a = record { name = a.blank.name; parts = a.blank.parts }
