use Rattle.hall.proofs.gate.finish.Given as goal

abbrev pub ghosts-commit : goal.ghosts-commit
ghosts-commit g a = record { made = a.entry }
