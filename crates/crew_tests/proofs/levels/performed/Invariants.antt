use Rattle.crew_tests.proofs.levels.performed.Given as goal

abbrev pub ghosts-came_of : goal.ghosts-came_of
ghosts-came_of g a = record { name = a.blank.name; parts = a.blank.parts }
