use Rattle.time_desk.proofs.cut.led_reading.Given as goal

abbrev pub ghosts-led_over : goal.ghosts-led_over
ghosts-led_over g a = record { name = a.blank.name; parts = a.blank.parts }
