use Rattle.time_desk.proofs.desk.Desk.try_cycle.Given as goal

abbrev pub ghosts-rework_alone : goal.ghosts-rework_alone
ghosts-rework_alone g a = record { name = a.blank.name; parts = a.blank.parts }
