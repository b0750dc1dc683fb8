use Rattle.imap_tests.proofs.given.fill.Given as goal

abbrev pub ghosts-fill_over : goal.ghosts-fill_over
ghosts-fill_over a = record { name = a.blank.name; parts = a.blank.parts }
