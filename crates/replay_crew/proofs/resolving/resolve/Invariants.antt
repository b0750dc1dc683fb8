use Rattle.replay_crew.proofs.resolving.resolve.Given as goal

abbrev pub ghosts-resolve_over : goal.ghosts-resolve_over
ghosts-resolve_over g a = record { name = a.blank.name; parts = a.blank.parts }
