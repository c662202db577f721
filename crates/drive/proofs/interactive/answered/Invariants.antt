use Rattle.drive.proofs.interactive.answered.Given as goal

abbrev pub ghosts-drive_by : goal.ghosts-drive_by
ghosts-drive_by g a = record { program = a.program.now }
