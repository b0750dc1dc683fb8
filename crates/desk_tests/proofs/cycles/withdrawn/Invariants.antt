use Rattle.desk_tests.proofs.cycles.withdrawn.Given as goal

abbrev pub ghosts-withdrawn_by : goal.ghosts-withdrawn_by
ghosts-withdrawn_by g a = record { name = a.blank.name; parts = a.blank.parts }
