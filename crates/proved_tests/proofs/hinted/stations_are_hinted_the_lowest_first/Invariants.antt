use Rattle.proved_tests.proofs.hinted.stations_are_hinted_the_lowest_first.Given as goal

abbrev pub ghosts-hinted : goal.ghosts-hinted
ghosts-hinted a a' = record { ring = 4 }
