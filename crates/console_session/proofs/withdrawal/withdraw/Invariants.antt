use Rattle.console_session.proofs.withdrawal.withdraw.Given as goal

abbrev pub ghosts-withdraw_anew : goal.ghosts-withdraw_anew
ghosts-withdraw_anew g a = record { name = a.blank.name; parts = a.blank.parts }
