use Rattle.time_desk.proofs.redo.rework_again.Given as goal

abbrev pub ghosts-again : goal.ghosts-again
ghosts-again g a = record { name = a.blank.name; parts = a.blank.parts }
